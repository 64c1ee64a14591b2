-- CRC-8 byte by byte: a register of eight bits that takes in one byte after the other holds what the division leaves.
use Rattle.std.proofs.Common.{◌≡◌, ℕ, suc, ◌+◌, ◌*◌, ◌/◌, ◌%◌, ◌<◌, Bool, true, false, ◌&&◌, ◌==◌, if◌then◌else◌, eqb, ltb, List, [], ◌∷◌, ◌++◌, length, replicate, fold, refl, ap, sym, ◌∙◌, subst, arith}
use Rattle.std.proofs.lemmas.Bool.{agree_below_at, and_parts, cond-true, cond-false, eq-eqb, ne_eqb, eqb-true, ltb-true}
use Rattle.std.proofs.lemmas.Nat.{xor_comm, shr_split}
use Rattle.std.proofs.lemmas.Nat.Bits.{bit_at-lt, bit_at_xor, bit_at_cat_low}
use Rattle.std.specs.Int.{bit_at}
use Rattle.std.specs.Int.RustNames.{bit_and, bit_xor}
use Rattle.wire_core.proofs.Division.{AreBits, AreBits-append, less-zeros, zeros-less, less-apart, remainder-add, remainder-append, remainder-less}
use Rattle.wire_core.specs.Crc8.{byte_bits, bits_of, number_of_bits, less, remainder, crc8_divisor, crc8_of}

-- ---- eight bits and their number

-- two numbers with the same low eight bits, each as a function from places to bits
same_byte_bits : (f g : ℕ → ℕ) → ((i : ℕ) → i < 8 → f i ≡ g i) → f 7 ∷ f 6 ∷ f 5 ∷ f 4 ∷ f 3 ∷ f 2 ∷ f 1 ∷ f 0 ∷ [] ≡ g 7 ∷ g 6 ∷ g 5 ∷ g 4 ∷ g 3 ∷ g 2 ∷ g 1 ∷ g 0 ∷ []
same_byte_bits f g h =
    let e7 : f 7 ≡ g 7 = h 7 (omega arith) in
    let e6 : f 6 ≡ g 6 = h 6 (omega arith) in
    let e5 : f 5 ≡ g 5 = h 5 (omega arith) in
    let e4 : f 4 ≡ g 4 = h 4 (omega arith) in
    let e3 : f 3 ≡ g 3 = h 3 (omega arith) in
    let e2 : f 2 ≡ g 2 = h 2 (omega arith) in
    let e1 : f 1 ≡ g 1 = h 1 (omega arith) in
    let e0 : f 0 ≡ g 0 = h 0 (omega arith) in
    cc

pub AreBits-byte_bits : (byte : ℕ) → AreBits (byte_bits byte)
AreBits-byte_bits b = (bit_at-lt b 7, (bit_at-lt b 6, (bit_at-lt b 5, (bit_at-lt b 4, (bit_at-lt b 3, (bit_at-lt b 2, (bit_at-lt b 1, (bit_at-lt b 0, tt))))))))

-- only the low eight bits of a number count
byte_bits-mod : (x : ℕ) → byte_bits (x % 256) ≡ byte_bits x
byte_bits-mod x =
    let e : x / 256 * 256 + x % 256 ≡ x = shr_split x 8 in
    same_byte_bits (bit_at (x % 256)) (bit_at x) (λ i below. sym (bit_at_cat_low (x / 256) 8 (x % 256) i below) ∙ ap (λ n. bit_at n i) e)

-- over bits the difference is the exclusive or
byte_bits-xor : (a b : ℕ) → less (byte_bits b) (byte_bits a) ≡ byte_bits (bit_xor a b)
byte_bits-xor a b =
    same_byte_bits (λ i. (bit_at b i + bit_at a i) % 2) (bit_at (bit_xor a b)) (λ i below. sym (bit_at_xor b a i) ∙ ap (λ n. bit_at n i) (xor_comm b a))

-- ---- what holds of each of the 256 bytes, by computation

same_list : List ℕ → List ℕ → Bool
same_list [] [] = true
same_list [] (y ∷ ys) = false
same_list (x ∷ xs) [] = false
same_list (x ∷ xs) (y ∷ ys) = eqb x y && same_list xs ys

same_list-true : (xs ys : List ℕ) → same_list xs ys ≡ true → xs ≡ ys
unfolding same_list
same_list-true [] [] h = refl
same_list-true [] (y ∷ ys) h = cc
same_list-true (x ∷ xs) [] h = cc
same_list-true (x ∷ xs) (y ∷ ys) h =
    let parts : (eqb x y ≡ true) × (same_list xs ys ≡ true) = and_parts (eqb x y) (same_list xs ys) h in
    let first : x ≡ y = eqb-true x y parts.0 in
    let rest : xs ≡ ys = same_list-true xs ys parts.1 in
    cc

-- the register one bit on
abbrev shifted : ℕ → ℕ
shifted crc = if bit_and crc 128 == 0 then crc * 2 % 256 else bit_xor (crc * 2 % 256) 7

-- the bits of the byte write the byte
number_test : ℕ → Bool
number_test x = eqb (number_of_bits (byte_bits x)) x

-- the remainder of the byte's bits followed by eight zeros is the bits of its CRC-8, which is a byte
byte_test : ℕ → Bool
byte_test x = same_list (remainder crc8_divisor 8 (byte_bits x ++ replicate 8 0)) (byte_bits (crc8_of (x ∷ []))) && ltb (crc8_of (x ∷ [])) 256

-- the register one bit on is one step of the division
shift_test : ℕ → Bool
shift_test x = same_list (remainder crc8_divisor 1 (byte_bits x ++ 0 ∷ [])) (byte_bits (shifted x))

number_of_byte_bits : (x : ℕ) → x < 256 → number_of_bits (byte_bits x) ≡ x
unfolding number_test
number_of_byte_bits x below = eqb-true _ _ (agree_below_at number_test (λ _. true) 256 x refl below)

one_shift : (x : ℕ) → x < 256 → remainder crc8_divisor 1 (byte_bits x ++ 0 ∷ []) ≡ byte_bits (shifted x)
unfolding shift_test same_list remainder
one_shift x below = same_list-true _ _ (agree_below_at shift_test (λ _. true) 256 x refl below)

byte_facts : (x : ℕ) → x < 256 → (remainder crc8_divisor 8 (byte_bits x ++ replicate 8 0) ≡ byte_bits (crc8_of (x ∷ []))) × (crc8_of (x ∷ []) < 256)
unfolding byte_test same_list remainder crc8_of
byte_facts x below =
    let parts : (same_list (remainder crc8_divisor 8 (byte_bits x ++ replicate 8 0)) (byte_bits (crc8_of (x ∷ []))) ≡ true) × (ltb (crc8_of (x ∷ [])) 256 ≡ true) = and_parts _ _ (agree_below_at byte_test (λ _. true) 256 x refl below) in
    (same_list-true _ _ parts.0, ltb-true _ _ parts.1)

-- the CRC-8 of one byte looks at its low eight bits alone, so what holds of each byte holds of each number
crc8_of-mod : (x : ℕ) → crc8_of (x % 256 ∷ []) ≡ crc8_of (x ∷ [])
unfolding crc8_of
crc8_of-mod x = ap (λ bits. number_of_bits (remainder crc8_divisor 8 (bits ++ replicate 8 0))) (byte_bits-mod x)

crc8_of_byte-lt : (x : ℕ) → crc8_of (x ∷ []) < 256
crc8_of_byte-lt x =
    let below : x % 256 < 256 = omega arith in
    subst (λ n. n < 256) (crc8_of-mod x) (byte_facts (x % 256) below).1

byte_remainder : (x : ℕ) → remainder crc8_divisor 8 (byte_bits x ++ replicate 8 0) ≡ byte_bits (crc8_of (x ∷ []))
byte_remainder x =
    let below : x % 256 < 256 = omega arith in
    ap (λ bits. remainder crc8_divisor 8 (bits ++ replicate 8 0)) (sym (byte_bits-mod x)) ∙ (byte_facts (x % 256) below).0 ∙ ap byte_bits (crc8_of-mod x)

-- ---- byte by byte

less_byte_bits-comm : (a b : ℕ) → less (byte_bits a) (byte_bits b) ≡ less (byte_bits b) (byte_bits a)
less_byte_bits-comm a b = byte_bits-xor b a ∙ ap byte_bits (xor_comm b a) ∙ sym (byte_bits-xor a b)

-- eight steps bring a byte to 0, and take its CRC-8 away from what follows
next_byte : (x y : ℕ) (rest : List ℕ) → remainder crc8_divisor 8 (byte_bits x ++ (byte_bits y ++ rest)) ≡ less (byte_bits y ++ rest) (byte_bits (crc8_of (x ∷ [])))
next_byte x y rest =
    let apart : byte_bits x ++ byte_bits y ≡ less (byte_bits x ++ replicate 8 0) (replicate 8 0 ++ byte_bits y) = sym (less-apart (byte_bits x) (byte_bits y) (AreBits-byte_bits x) (AreBits-byte_bits y)) in
    let bits : AreBits (byte_bits x ++ replicate 8 0) = AreBits-append (byte_bits x) (byte_bits 0) (AreBits-byte_bits x) (AreBits-byte_bits 0) in
    let both : remainder crc8_divisor 8 (byte_bits x ++ byte_bits y) ≡ less (byte_bits y) (byte_bits (crc8_of (x ∷ []))) = ap (remainder crc8_divisor 8) apart ∙ remainder-less crc8_divisor 8 (byte_bits x ++ replicate 8 0) (byte_bits y) bits ∙ ap (λ t. less t (byte_bits y)) (byte_remainder x) ∙ less_byte_bits-comm (crc8_of (x ∷ [])) y in
    remainder-append crc8_divisor 8 (byte_bits x ++ byte_bits y) rest (omega arith) ∙ ap (λ t. t ++ rest) both

-- the same before the bits of some bytes and eight zeros
next_bytes : (x : ℕ) (bytes : List ℕ) → remainder crc8_divisor 8 (byte_bits x ++ (bits_of bytes ++ replicate 8 0)) ≡ less (bits_of bytes ++ replicate 8 0) (byte_bits (crc8_of (x ∷ [])))
next_bytes x [] = next_byte x 0 []
next_bytes x (b ∷ bs) = next_byte x b (bits_of bs ++ replicate 8 0)

-- the register after one more byte
abbrev pub next : ℕ → ℕ → ℕ
next crc byte = crc8_of (bit_xor crc byte ∷ [])

-- with no byte left the register is the remainder
division_end : (crc : ℕ) → crc < 256 → number_of_bits (remainder crc8_divisor 0 (less (replicate 8 0) (byte_bits crc))) ≡ crc
unfolding remainder
division_end crc below = ap number_of_bits (zeros-less (byte_bits crc) (AreBits-byte_bits crc)) ∙ number_of_byte_bits crc below

-- the register is 0 before the first byte
from_zero : (bytes : List ℕ) → bits_of bytes ++ replicate 8 0 ≡ less (bits_of bytes ++ replicate 8 0) (byte_bits 0)
from_zero [] = refl
from_zero (b ∷ bs) = ap (λ t. t ++ (bits_of bs ++ replicate 8 0)) (sym (less-zeros (byte_bits b) (AreBits-byte_bits b)))

-- the division of bytes that a register was taken away from
division_from : (crc : ℕ) (bytes : List ℕ) → crc < 256 → number_of_bits (remainder crc8_divisor (8 * length bytes) (less (bits_of bytes ++ replicate 8 0) (byte_bits crc))) ≡ fold next crc bytes
division_from crc [] below = division_end crc below
division_from crc (b ∷ bs) below =
    let steps : 8 * suc (length bs) ≡ 8 + 8 * length bs = omega arith in
    let first : less (bits_of (b ∷ bs) ++ replicate 8 0) (byte_bits crc) ≡ byte_bits (bit_xor crc b) ++ (bits_of bs ++ replicate 8 0) = ap (λ t. t ++ (bits_of bs ++ replicate 8 0)) (byte_bits-xor crc b) in
    let state : List ℕ = less (bits_of (b ∷ bs) ++ replicate 8 0) (byte_bits crc) in
    let eight : remainder crc8_divisor 8 state ≡ less (bits_of bs ++ replicate 8 0) (byte_bits (next crc b)) = ap (remainder crc8_divisor 8) first ∙ next_bytes (bit_xor crc b) bs in
    ap (λ n. number_of_bits (remainder crc8_divisor n state)) steps
    ∙ ap number_of_bits (remainder-add crc8_divisor 8 (8 * length bs) state)
    ∙ ap (λ t. number_of_bits (remainder crc8_divisor (8 * length bs) t)) eight
    ∙ division_from (next crc b) bs (crc8_of_byte-lt (bit_xor crc b))

-- the CRC-8 is what the register holds after all bytes
pub crc8_of_fold : (bytes : List ℕ) → crc8_of bytes ≡ fold next 0 bytes
unfolding crc8_of
crc8_of_fold bytes = ap (λ t. number_of_bits (remainder crc8_divisor (8 * length bytes) t)) (from_zero bytes) ∙ division_from 0 bytes (omega arith)

fold-lt : (crc : ℕ) (bytes : List ℕ) → crc < 256 → fold next crc bytes < 256
fold-lt crc [] below = below
fold-lt crc (b ∷ bs) below = fold-lt (next crc b) bs (crc8_of_byte-lt (bit_xor crc b))

-- a CRC-8 is a byte
pub crc8_of-lt : (bytes : List ℕ) → crc8_of bytes < 256
crc8_of-lt bytes = subst (λ n. n < 256) (sym (crc8_of_fold bytes)) (fold-lt 0 bytes (omega arith))

-- ---- bit by bit

-- a highest bit of 0 goes out with nothing taken away
pub shift_zero : (x : ℕ) → x < 256 → bit_and x 128 ≡ 0 → byte_bits (x * 2 % 256) ≡ remainder crc8_divisor 1 (byte_bits x ++ 0 ∷ [])
shift_zero x below zero_bit = sym (one_shift x below ∙ ap byte_bits (cond-true (eqb (bit_and x 128) 0) (x * 2 % 256) (bit_xor (x * 2 % 256) 7) (eq-eqb (bit_and x 128) 0 zero_bit)))

-- a highest bit of 1 takes the divisor away
pub shift_one : (x : ℕ) → x < 256 → (bit_and x 128 ≡ 0 → ⊥) → byte_bits (bit_xor (x * 2 % 256) 7) ≡ remainder crc8_divisor 1 (byte_bits x ++ 0 ∷ [])
shift_one x below one_bit = sym (one_shift x below ∙ ap byte_bits (cond-false (eqb (bit_and x 128) 0) (x * 2 % 256) (bit_xor (x * 2 % 256) 7) (ne_eqb (bit_and x 128) 0 one_bit)))

-- so many more steps bring the register to the CRC-8 of the byte
abbrev pub Reaches : ℕ → ℕ → ℕ → Type 0
Reaches steps crc byte = number_of_bits (remainder crc8_divisor steps (byte_bits crc ++ replicate steps 0)) ≡ crc8_of (byte ∷ [])

-- a register that holds the byte has all eight steps before it
pub Reaches-start : (byte : ℕ) → Reaches 8 byte byte
unfolding crc8_of
Reaches-start byte = refl

-- one step more
pub Reaches-more : (steps left crc after byte : ℕ) → steps ≡ suc left → byte_bits after ≡ remainder crc8_divisor 1 (byte_bits crc ++ 0 ∷ []) → Reaches steps crc byte → Reaches left after byte
Reaches-more steps left crc after byte e step here =
    let zeros : List ℕ = replicate left 0 in
    let count : 1 + left ≡ suc left = omega arith in
    let one : remainder crc8_divisor 1 (byte_bits crc ++ (0 ∷ zeros)) ≡ byte_bits after ++ zeros = remainder-append crc8_divisor 1 (byte_bits crc ++ 0 ∷ []) zeros (omega arith) ∙ ap (λ t. t ++ zeros) (sym step) in
    let whole : remainder crc8_divisor (suc left) (byte_bits crc ++ (0 ∷ zeros)) ≡ remainder crc8_divisor left (byte_bits after ++ zeros) = ap (λ n. remainder crc8_divisor n (byte_bits crc ++ (0 ∷ zeros))) (sym count) ∙ remainder-add crc8_divisor 1 left (byte_bits crc ++ (0 ∷ zeros)) ∙ ap (remainder crc8_divisor left) one in
    ap number_of_bits (sym whole) ∙ subst (λ n. Reaches n crc byte) e here

-- with no step left the register is the CRC-8
pub Reaches-end : (crc byte : ℕ) → crc < 256 → Reaches 0 crc byte → crc ≡ crc8_of (byte ∷ [])
unfolding remainder
Reaches-end crc byte below here = sym (number_of_byte_bits crc below) ∙ here
