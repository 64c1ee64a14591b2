-- Where a number ends in a text: equal texts that begin with numbers have equal numbers and equal rests.
use Rattle.std.proofs.Common.{◌≡◌, ℕ, suc, zero, ◌+◌, ◌%◌, ◌^◌, ◌<◌, ◌≤◌, List, [], ◌∷◌, ◌++◌, length, get_or, drop, refl, sym, ap, subst, ◌∙◌, arith, Ok, Result}
use Rattle.std.specs.Prelude.{decimal, ⊤}
use Rattle.std.specs.Int.{bytes_high_first, from_be_bytes, w32, w64}
use Rattle.std.proofs.lemmas.Fmt.{decimal_injective, decimal_by_steps}
use Rattle.std.proofs.lemmas.List.{append_cancel_left}
use Rattle.std.proofs.lemmas.Nat.{from_be_bytes-to_be_bytes_4, from_be_bytes-to_be_bytes_8}
use Rattle.hex.specs.Hex.{encode_lower, decode_of, IsBytes, lower_digits}
use Rattle.hex.specs.declared.error.FromHexError.{FromHexError}
use Rattle.hex.proofs.HexLemmas.{decode_of-encode_lower, length-encode_with}
use Rattle.text_core.specs.Numbers.{hex_number}

-- ---- words

-- no byte of them is a space, a line feed or one below
abbrev pub IsWord : List ℕ → Type 0
IsWord [] = ⊤
IsWord (c ∷ rest) = (32 < c) × IsWord rest

first_is : (a b : ℕ) (xs ys : List ℕ) → (◌≡◌ {A = List ℕ} (a ∷ xs) (b ∷ ys)) → a ≡ b
first_is a b xs ys e = ap (λ (text : List ℕ). get_or text 0 0) e

rest_is : (a b : ℕ) (xs ys : List ℕ) → (◌≡◌ {A = List ℕ} (a ∷ xs) (b ∷ ys)) → xs ≡ ys
rest_is a b xs ys e = ap (drop {A = ℕ} 1) e

both : (a b : ℕ) (xs ys : List ℕ) → a ≡ b → xs ≡ ys → (◌≡◌ {A = List ℕ} (a ∷ xs) (b ∷ ys))
both a b xs ys e f = cc

-- two texts that begin with a word and end it alike have the same word and the same rest
pub word_ends : (a b xs ys : List ℕ) (c d : ℕ) → IsWord a → IsWord b → c ≤ 32 → d ≤ 32 → a ++ c ∷ xs ≡ b ++ d ∷ ys → (a ≡ b) × (xs ≡ ys)
word_ends [] [] xs ys c d is_a is_b end_a end_b e = (refl, rest_is c d xs ys e)
word_ends [] (b ∷ bs) xs ys c d is_a is_b end_a end_b e = let same = first_is c b xs (bs ++ d ∷ ys) e in absurd (omega (arith, is_b.0))
word_ends (a ∷ more) [] xs ys c d is_a is_b end_a end_b e = let same = first_is a d (more ++ c ∷ xs) ys e in absurd (omega (arith, is_a.0))
word_ends (a ∷ more) (b ∷ bs) xs ys c d is_a is_b end_a end_b e =
    let behind = word_ends more bs xs ys c d is_a.1 is_b.1 end_a end_b (rest_is a b (more ++ c ∷ xs) (bs ++ d ∷ ys) e) in
    (both a b more bs (first_is a b (more ++ c ∷ xs) (bs ++ d ∷ ys) e) behind.0, behind.1)

word_then : (a b : List ℕ) → IsWord a → IsWord b → IsWord (a ++ b)
word_then [] b is_a is_b = is_b
word_then (c ∷ rest) b is_a is_b = (is_a.0, word_then rest b is_a.1 is_b)

pub decimal_word : (n : ℕ) → n < 2 ^ 64 → IsWord (decimal n)
decimal_word = decimal_by_steps (λ m ds. IsWord ds) (λ m small. (omega arith, tt)) (λ m ds large word. word_then ds ((48 + m % 10) ∷ []) word (omega arith, tt))

-- ---- numbers

-- a number in decimal digits, before a space or a line feed
pub decimal_ends : (m n : ℕ) (xs ys : List ℕ) (c d : ℕ) → m < 2 ^ 64 → n < 2 ^ 64 → c ≤ 32 → d ≤ 32 → decimal m ++ c ∷ xs ≡ decimal n ++ d ∷ ys → (m ≡ n) × (xs ≡ ys)
decimal_ends m n xs ys c d fits_m fits_n end_c end_d e =
    let split = word_ends (decimal m) (decimal n) xs ys c d (decimal_word m fits_m) (decimal_word n fits_n) end_c end_d e in
    (decimal_injective m n fits_m fits_n split.0, split.1)

-- two texts whose fronts have one length
front_ends : (a b xs ys : List ℕ) → length a ≡ length b → a ++ xs ≡ b ++ ys → (a ≡ b) × (xs ≡ ys)
front_ends [] [] xs ys same e = (refl, e)
front_ends [] (b ∷ bs) xs ys same e = absurd (omega arith)
front_ends (a ∷ more) [] xs ys same e = absurd (omega arith)
front_ends (a ∷ more) (b ∷ bs) xs ys same e =
    let behind = front_ends more bs xs ys (omega arith) (rest_is a b (more ++ xs) (bs ++ ys) e) in
    (both a b more bs (first_is a b (more ++ xs) (bs ++ ys) e) behind.0, behind.1)

ok_is : (a b : List ℕ) → (let r : Result (List ℕ) FromHexError = Ok a in r) ≡ Ok b → a ≡ b
ok_is a b e = cc

-- the digits of as many bytes tell them
digits_end : (a b xs ys : List ℕ) → IsBytes a → IsBytes b → length a ≡ length b → encode_lower a ++ xs ≡ encode_lower b ++ ys → (a ≡ b) × (xs ≡ ys)
digits_end a b xs ys is_a is_b same e =
    let split = front_ends (encode_lower a) (encode_lower b) xs ys (omega (arith, length-encode_with lower_digits a, length-encode_with lower_digits b)) e in
    (ok_is a b (sym (decode_of-encode_lower a is_a) ∙ ap decode_of split.0 ∙ decode_of-encode_lower b is_b), split.1)

high_bytes : (k n i : ℕ) → get_or (bytes_high_first k n) i 0 < 256
high_bytes zero n zero = omega arith
high_bytes zero n (suc i) = omega arith
high_bytes (suc zero) n zero = omega arith
high_bytes (suc (suc k)) n zero = omega arith
high_bytes (suc k) n (suc i) = high_bytes k n i

length_high : (k m n : ℕ) → length (bytes_high_first k m) ≡ length (bytes_high_first k n)
length_high zero m n = refl
length_high (suc k) m n = ap suc (length_high k m n)

-- a number of 4 bytes in hexadecimal digits, whatever follows it
pub hex_ends : (m n : ℕ) (xs ys : List ℕ) → m < 2 ^ 32 → n < 2 ^ 32 → hex_number 4 m ++ xs ≡ hex_number 4 n ++ ys → (m ≡ n) × (xs ≡ ys)
hex_ends m n xs ys fits_m fits_n e =
    let split = digits_end (bytes_high_first 4 m) (bytes_high_first 4 n) xs ys (high_bytes 4 m) (high_bytes 4 n) refl (ap (drop {A = ℕ} 2) e) in
    (sym (from_be_bytes-to_be_bytes_4 m fits_m) ∙ ap (from_be_bytes w32) split.0 ∙ from_be_bytes-to_be_bytes_4 n fits_n, split.1)

-- and one of 8 bytes
pub long_hex_ends : (m n : ℕ) (xs ys : List ℕ) → m < 2 ^ 64 → n < 2 ^ 64 → hex_number 8 m ++ xs ≡ hex_number 8 n ++ ys → (m ≡ n) × (xs ≡ ys)
long_hex_ends m n xs ys fits_m fits_n e =
    let split = digits_end (bytes_high_first 8 m) (bytes_high_first 8 n) xs ys (high_bytes 8 m) (high_bytes 8 n) refl (ap (drop {A = ℕ} 2) e) in
    (sym (from_be_bytes-to_be_bytes_8 m fits_m) ∙ ap (from_be_bytes w64) split.0 ∙ from_be_bytes-to_be_bytes_8 n fits_n, split.1)

-- ---- names

-- a name that is read from the front of a text, whatever follows it
pub name_ends : {K : Type 0} (name : K → List ℕ) (read : List ℕ → K) → ((k : K) (xs : List ℕ) → read (name k ++ xs) ≡ k) → (a b : K) (xs ys : List ℕ)
    → name a ++ xs ≡ name b ++ ys → (a ≡ b) × (xs ≡ ys)
name_ends {K = K} name read back a b xs ys e =
    let same : a ≡ b = sym (back a xs) ∙ ap read e ∙ back b ys in
    (same, append_cancel_left (name b) xs ys (subst (λ (k : K). name k ++ xs ≡ name b ++ ys) same e))
