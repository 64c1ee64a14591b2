-- The attributes of a kernel's entry: bits 48 to 51 are its priority, 52 to 55 its tries, and 56 says that it was successful.
-- Source: the ChromiumOS disk format ("Selecting the kernel").
use Rattle.std.specs.Prelude.{ℕ, ◌+◌, ◌*◌, ◌/◌, ◌%◌, ◌^◌, List, [], ◌∷◌}

-- the GUID of a kernel's type, fe3a2a5d-4f32-41a7-b725-accc3285a309, as a disk stores it
abbrev pub kernel_type : List ℕ
kernel_type =
    0x5d ∷ 0x2a ∷ 0x3a ∷ 0xfe ∷ 0x32 ∷ 0x4f ∷ 0xa7 ∷ 0x41 ∷ 0xb7 ∷ 0x25 ∷ 0xac ∷ 0xcc ∷ 0x32 ∷ 0x85 ∷ 0xa3 ∷ 0x09 ∷ []

-- ---- what they say

abbrev pub priority_of : ℕ → ℕ
priority_of attributes = attributes / 2 ^ 48 % 16

abbrev pub tries_of : ℕ → ℕ
tries_of attributes = attributes / 2 ^ 52 % 16

abbrev pub successful_of : ℕ → ℕ
successful_of attributes = attributes / 2 ^ 56 % 2

-- ---- the same with another value of one field: the bits above it and below it stay

abbrev pub with_priority : (priority attributes : ℕ) → ℕ
with_priority priority attributes = attributes / 2 ^ 52 * 2 ^ 52 + priority * 2 ^ 48 + attributes % 2 ^ 48

abbrev pub with_tries : (tries attributes : ℕ) → ℕ
with_tries tries attributes = attributes / 2 ^ 56 * 2 ^ 56 + tries * 2 ^ 52 + attributes % 2 ^ 52

abbrev pub with_successful : (successful attributes : ℕ) → ℕ
with_successful successful attributes = attributes / 2 ^ 57 * 2 ^ 57 + successful * 2 ^ 56 + attributes % 2 ^ 56

-- the highest 16 bits
abbrev pub with_highest : (bits attributes : ℕ) → ℕ
with_highest bits attributes = bits * 2 ^ 48 + attributes % 2 ^ 48
