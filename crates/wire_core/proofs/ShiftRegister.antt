-- CRC-32 bit by bit: a register of 32 bits that takes in one bit after the other holds what the division leaves.
use Rattle.std.proofs.Common.{◌≡◌, ℕ, zero, suc, ◌+◌, ◌*◌, ◌/◌, ◌%◌, ◌^◌, ◌<◌, ◌≤◌, Bool, true, false, ◌==◌, if◌then◌else◌, List, [], ◌∷◌, ◌++◌, length, replicate, fold, refl, ap, sym, ◌∙◌, subst, arith, ◌⊎◌, inl, inr, append_assoc, length-append}
use Rattle.std.proofs.lemmas.List.{length-replicate}
use Rattle.std.proofs.lemmas.Bool.{cond-true, cond-false, eq-eqb, ne_eqb}
use Rattle.std.proofs.lemmas.Nat.{xor_lt, xor_shr, pow-add, mod-pow-add}
use Rattle.std.proofs.lemmas.Nat.Bits.{bit_at_xor, bit_at_lowest}
use Rattle.std.specs.Int.Bits.{bit_xor, xor_zero_r}
use Rattle.wire_core.specs.Crc8.{less, remainder}
use Rattle.wire_core.specs.Crc32.{low_bits, number_of_low_bits, low_bits_of, crc32_divisor, all_ones, crc32_of}
use Rattle.wire_core.specs.Register.{shifted, shifts, after_byte}
use Rattle.wire_core.proofs.Division.{AreBits, AreBits-append, zeros-less}

-- ---- the bits of a number

pub AreBits-low_bits : (count number : ℕ) → AreBits (low_bits count number)
unfolding low_bits
AreBits-low_bits zero number = tt
AreBits-low_bits (suc count) number = (omega arith, AreBits-low_bits count (number / 2))

pub length-low_bits : (count number : ℕ) → length (low_bits count number) ≡ count
unfolding low_bits
length-low_bits zero number = refl
length-low_bits (suc count) number = ap (λ n. suc n) (length-low_bits count (number / 2))

pub double : (count : ℕ) → 2 ^ suc count ≡ 2 * 2 ^ count
double count =
    let one : suc count ≡ 1 + count = omega arith in
    ap (λ n. 2 ^ n) one ∙ pow-add 2 1 count

half_below : (count number : ℕ) → number < 2 ^ suc count → number / 2 < 2 ^ count
half_below count number below = omega (arith, double count)

number-low_bits : (count number : ℕ) → number < 2 ^ count → number_of_low_bits (low_bits count number) ≡ number
unfolding low_bits
number-low_bits zero number below = omega arith
number-low_bits (suc count) number below =
    let rest : number_of_low_bits (low_bits count (number / 2)) ≡ number / 2 = number-low_bits count (number / 2) (half_below count number below) in
    omega (arith, rest)

pub xor-lowest : (a b : ℕ) → (a % 2 + b % 2) % 2 ≡ bit_xor a b % 2
xor-lowest a b =
    omega (arith, bit_at_xor a b 0, bit_at_lowest a, bit_at_lowest b, bit_at_lowest (bit_xor a b))

pub xor-half : (a b : ℕ) → bit_xor (a / 2) (b / 2) ≡ bit_xor a b / 2
xor-half a b = sym (xor_shr a b 1)

-- the difference is the exclusive or
pub less-low_bits : (count a b : ℕ) → less (low_bits count a) (low_bits count b) ≡ low_bits count (bit_xor a b)
unfolding low_bits
less-low_bits zero a b = refl
less-low_bits (suc count) a b =
    let first : (a % 2 + b % 2) % 2 ≡ bit_xor a b % 2 = xor-lowest a b in
    let rest : less (low_bits count (a / 2)) (low_bits count (b / 2)) ≡ low_bits count (bit_xor a b / 2) = less-low_bits count (a / 2) (b / 2) ∙ ap (low_bits count) (xor-half a b) in
    cc

-- ---- differences

less-nil : (ds : List ℕ) → less [] ds ≡ []
less-nil [] = refl
less-nil (d ∷ ds) = refl

-- two differences one after the other are one
less-less : (bits ds es : List ℕ) → length ds ≡ length es → length ds ≤ length bits → less (less bits ds) es ≡ less bits (less ds es)
less-less bits [] [] same fits = refl
less-less bits [] (e ∷ es) same fits = absurd (omega arith)
less-less bits (d ∷ ds) [] same fits = absurd (omega arith)
less-less [] (d ∷ ds) (e ∷ es) same fits = absurd (omega arith)
less-less (b ∷ bs) (d ∷ ds) (e ∷ es) same fits =
    let first : ((b + d) % 2 + e) % 2 ≡ (b + (d + e) % 2) % 2 = omega arith in
    let same' : length ds ≡ length es = omega arith in
    let fits' : length ds ≤ length bs = omega arith in
    let rest : less (less bs ds) es ≡ less bs (less ds es) = less-less bs ds es same' fits' in
    cc

-- one more bit of a number that is 0 changes nothing
less-top : (count number : ℕ) (bits : List ℕ) → number < 2 ^ count → count < length bits → AreBits bits → less bits (low_bits count number) ≡ less bits (low_bits (suc count) number)
unfolding low_bits
less-top zero number [] below fits are = absurd (omega arith)
less-top zero number (b ∷ bs) below fits are =
    let none : number % 2 ≡ 0 = omega arith in
    let first : b ≡ (b + number % 2) % 2 = omega (arith, are.0, none) in
    ap (λ x. x ∷ bs) first
less-top (suc count) number [] below fits are = absurd (omega arith)
less-top (suc count) number (b ∷ bs) below fits are =
    ap (λ t. (b + number % 2) % 2 ∷ t) (less-top count (number / 2) bs (half_below count number below) (omega arith) are.1)

-- bits of a number that come in are those of the register that took the number in
less-in : (more count crc number : ℕ) (rest : List ℕ) → number < 2 ^ more → more ≤ count → less (low_bits more number ++ rest) (low_bits count crc) ≡ less (replicate more 0 ++ rest) (low_bits count (bit_xor crc number))
unfolding low_bits
less-in zero count crc number rest below fits =
    let none : number ≡ 0 = omega arith in
    ap (λ n. less rest (low_bits count n)) (sym (xor_zero_r crc) ∙ ap (bit_xor crc) (sym none))
less-in (suc more) zero crc number rest below fits = absurd (omega arith)
less-in (suc more) (suc count) crc number rest below fits =
    let flipped : (crc % 2 + number % 2) % 2 ≡ bit_xor crc number % 2 = xor-lowest crc number in
    let first : (number % 2 + crc % 2) % 2 ≡ (0 + bit_xor crc number % 2) % 2 = omega (arith, flipped) in
    let later : less (low_bits more (number / 2) ++ rest) (low_bits count (crc / 2)) ≡ less (replicate more 0 ++ rest) (low_bits count (bit_xor crc number / 2)) =
    less-in more count (crc / 2) (number / 2) rest (half_below more number below) (omega arith) ∙ ap (λ n. less (replicate more 0 ++ rest) (low_bits count n)) (xor-half crc number) in
    cc

-- ---- one step of the division

bool_cases : (b : Bool) (x y : ℕ) → x < 2 ^ 32 → y < 2 ^ 32 → (if b then x else y) < 2 ^ 32
bool_cases true x y h k = h
bool_cases false x y h k = k

-- the register stays within its bits
pub shifted-lt : (crc : ℕ) → crc < 2 ^ 32 → shifted crc < 2 ^ 32
shifted-lt crc below =
    let half : crc / 2 < 2 ^ 32 = omega arith in
    let polynomial : 3988292384 < 2 ^ 32 = omega arith in
    let flipped : bit_xor (crc / 2) 3988292384 < 2 ^ 32 = xor_lt 32 (crc / 2) 3988292384 half polynomial in
    bool_cases (crc % 2 == 0) (crc / 2) (bit_xor (crc / 2) 3988292384) half flipped

divisor-bits : crc32_divisor ≡ low_bits 32 3988292384
unfolding crc32_divisor low_bits
divisor-bits = refl

step_zero : (steps : ℕ) (bits : List ℕ) (b : ℕ) → b ≡ 0 → remainder crc32_divisor (suc steps) (b ∷ bits) ≡ remainder crc32_divisor steps bits
unfolding remainder
step_zero steps bits b zero_bit = ap (remainder crc32_divisor steps) (cond-true (b == 0) bits (less bits crc32_divisor) (eq-eqb b 0 zero_bit))

step_one : (steps : ℕ) (bits : List ℕ) (b : ℕ) → b ≡ 1 → remainder crc32_divisor (suc steps) (b ∷ bits) ≡ remainder crc32_divisor steps (less bits crc32_divisor)
unfolding remainder
step_one steps bits b one_bit = ap (remainder crc32_divisor steps) (cond-false (b == 0) bits (less bits crc32_divisor) (ne_eqb b 0 (λ e. omega arith)))

-- the register and a zero bit, as lists
register_split : (crc : ℕ) (more : List ℕ) → less (0 ∷ more) (low_bits 32 crc) ≡ (0 + crc % 2) % 2 ∷ less more (low_bits 31 (crc / 2))
unfolding low_bits
register_split crc more = refl

pub even_or_odd : (n : ℕ) → (n % 2 ≡ 0) ⊎ (n % 2 ≡ 1)
even_or_odd n = grind arith

step : (steps crc : ℕ) (more : List ℕ) → crc < 2 ^ 32 → 32 ≤ length more → AreBits more → remainder crc32_divisor (suc steps) (less (0 ∷ more) (low_bits 32 crc)) ≡ remainder crc32_divisor steps (less more (low_bits 32 (shifted crc)))
step steps crc more below long are =
    let half : crc / 2 < 2 ^ 31 = omega arith in
    let top : less more (low_bits 31 (crc / 2)) ≡ less more (low_bits 32 (crc / 2)) = less-top 31 (crc / 2) more half (omega arith) are in
    ap (remainder crc32_divisor (suc steps)) (register_split crc more)
    ∙ elim (even_or_odd crc) [
      | inl even ↦
          let out : (0 + crc % 2) % 2 ≡ 0 = omega (arith, even) in
          let is : shifted crc ≡ crc / 2 = cond-true (crc % 2 == 0) (crc / 2) (bit_xor (crc / 2) 3988292384) (eq-eqb (crc % 2) 0 even) in
          step_zero steps (less more (low_bits 31 (crc / 2))) ((0 + crc % 2) % 2) out ∙ ap (remainder crc32_divisor steps) (top ∙ ap (λ n. less more (low_bits 32 n)) (sym is))
      | inr odd ↦
          let out : (0 + crc % 2) % 2 ≡ 1 = omega (arith, odd) in
          let ne : crc % 2 ≡ 0 → ⊥ = λ e. omega (arith, odd, e) in
          let is : shifted crc ≡ bit_xor (crc / 2) 3988292384 = cond-false (crc % 2 == 0) (crc / 2) (bit_xor (crc / 2) 3988292384) (ne_eqb (crc % 2) 0 ne) in
          let same : length (low_bits 32 (crc / 2)) ≡ length (low_bits 32 3988292384) = length-low_bits 32 (crc / 2) ∙ sym (length-low_bits 32 3988292384) in
          let fits : length (low_bits 32 (crc / 2)) ≤ length more = omega (arith, length-low_bits 32 (crc / 2)) in
          let taken : less (less more (low_bits 31 (crc / 2))) crc32_divisor ≡ less more (low_bits 32 (shifted crc)) =
          ap (λ t. less t crc32_divisor) top ∙ ap (less (less more (low_bits 32 (crc / 2)))) divisor-bits ∙ less-less more (low_bits 32 (crc / 2)) (low_bits 32 3988292384) same fits
          ∙ ap (less more) (less-low_bits 32 (crc / 2) 3988292384) ∙ ap (λ n. less more (low_bits 32 n)) (sym is) in
          step_one steps (less more (low_bits 31 (crc / 2))) ((0 + crc % 2) % 2) out ∙ ap (remainder crc32_divisor steps) taken
    ]

-- ---- several steps

AreBits-zeros : (count : ℕ) → AreBits (replicate count 0)
AreBits-zeros zero = tt
AreBits-zeros (suc count) = (omega arith, AreBits-zeros count)

-- with no step left the register is the remainder
division_end : (crc : ℕ) → remainder crc32_divisor 0 (less (replicate 32 0) (low_bits 32 crc)) ≡ low_bits 32 crc
unfolding remainder
division_end crc = ap (λ n. less (replicate n 0) (low_bits 32 crc)) (sym (length-low_bits 32 crc)) ∙ zeros-less (low_bits 32 crc) (AreBits-low_bits 32 crc)

pub shifts-lt : (count crc : ℕ) → crc < 2 ^ 32 → shifts count crc < 2 ^ 32
unfolding shifts
shifts-lt zero crc below = below
shifts-lt (suc count) crc below = shifts-lt count (shifted crc) (shifted-lt crc below)

-- some zero bits that come in
zeros_in : (count steps crc : ℕ) (more : List ℕ) → crc < 2 ^ 32 → 32 ≤ length more → AreBits more
    → remainder crc32_divisor (count + steps) (less (replicate count 0 ++ more) (low_bits 32 crc)) ≡ remainder crc32_divisor steps (less more (low_bits 32 (shifts count crc)))
unfolding shifts
zeros_in zero steps crc more below long are =
    let e : 0 + steps ≡ steps = omega arith in
    ap (λ n. remainder crc32_divisor n (less more (low_bits 32 crc))) e
zeros_in (suc count) steps crc more below long are =
    let e : suc count + steps ≡ suc (count + steps) = omega arith in
    let rest : List ℕ = replicate count 0 ++ more in
    let long' : 32 ≤ length rest = omega (arith, length-append (replicate count 0) more) in
    ap (λ n. remainder crc32_divisor n (less (0 ∷ rest) (low_bits 32 crc))) e
    ∙ step (count + steps) crc rest below long' (AreBits-append (replicate count 0) more (AreBits-zeros count) are)
    ∙ zeros_in count steps (shifted crc) more (shifted-lt crc below) long are

-- ---- byte by byte

after_byte-lt : (crc byte : ℕ) → crc < 2 ^ 32 → after_byte crc byte < 2 ^ 32
after_byte-lt crc byte below =
    let small : byte % 256 < 2 ^ 32 = omega arith in
    shifts-lt 8 (bit_xor crc (byte % 256)) (xor_lt 32 crc (byte % 256) below small)

-- only the low eight bits of a byte count
low_bits-mod : (count number : ℕ) → low_bits count (number % 2 ^ count) ≡ low_bits count number
unfolding low_bits
low_bits-mod zero number = refl
low_bits-mod (suc count) number =
    let parts : number % 2 ^ (count + 1) ≡ (number / 2 ^ 1 % 2 ^ count) * 2 ^ 1 + number % 2 ^ 1 = mod-pow-add number count 1 in
    let sum : count + 1 ≡ suc count = omega arith in
    let whole : number % 2 ^ suc count ≡ (number / 2 % 2 ^ count) * 2 + number % 2 = ap (λ n. number % 2 ^ n) (sym sum) ∙ parts in
    let first : number % 2 ^ suc count % 2 ≡ number % 2 = omega (arith, whole) in
    let half : number % 2 ^ suc count / 2 ≡ number / 2 % 2 ^ count = omega (arith, whole) in
    let rest : low_bits count (number % 2 ^ suc count / 2) ≡ low_bits count (number / 2) = ap (low_bits count) half ∙ low_bits-mod count (number / 2) in
    cc

AreBits-low_bits_of : (bytes : List ℕ) → AreBits (low_bits_of bytes)
AreBits-low_bits_of [] = tt
AreBits-low_bits_of (b ∷ bs) = AreBits-append (low_bits 8 b) (low_bits_of bs) (AreBits-low_bits 8 b) (AreBits-low_bits_of bs)

-- the bits of some bytes, and 32 zeros
abbrev padded_bits : List ℕ → List ℕ
padded_bits bytes = low_bits_of bytes ++ replicate 32 0

AreBits-padded : (bytes : List ℕ) → AreBits (padded_bits bytes)
AreBits-padded bytes = AreBits-append (low_bits_of bytes) (replicate 32 0) (AreBits-low_bits_of bytes) (AreBits-zeros 32)

padded-long : (bytes : List ℕ) → 32 ≤ length (padded_bits bytes)
padded-long bytes = omega (arith, length-append (low_bits_of bytes) (replicate 32 0), length-replicate {A = ℕ} 32 0)

-- what the register holds after some bytes
division_from : (crc : ℕ) (bytes : List ℕ) → crc < 2 ^ 32 → remainder crc32_divisor (8 * length bytes) (less (padded_bits bytes) (low_bits 32 crc)) ≡ low_bits 32 (fold after_byte crc bytes)
division_from crc [] below = division_end crc
division_from crc (b ∷ bs) below =
    let steps : 8 * suc (length bs) ≡ 8 + 8 * length bs = omega arith in
    let small : b % 256 < 2 ^ 8 = omega arith in
    let wide : b % 256 < 2 ^ 32 = omega arith in
    let taken : bit_xor crc (b % 256) < 2 ^ 32 = xor_lt 32 crc (b % 256) below wide in
    let state : List ℕ = less (padded_bits (b ∷ bs)) (low_bits 32 crc) in
    let first : state ≡ less (replicate 8 0 ++ padded_bits bs) (low_bits 32 (bit_xor crc (b % 256))) =
    ap (λ t. less t (low_bits 32 crc)) (append_assoc (low_bits 8 b) (low_bits_of bs) (replicate 32 0))
    ∙ ap (λ t. less (t ++ padded_bits bs) (low_bits 32 crc)) (sym (low_bits-mod 8 b))
    ∙ less-in 8 32 crc (b % 256) (padded_bits bs) small (omega arith) in
    ap (λ n. remainder crc32_divisor n state) steps
    ∙ ap (remainder crc32_divisor (8 + 8 * length bs)) first
    ∙ zeros_in 8 (8 * length bs) (bit_xor crc (b % 256)) (padded_bits bs) taken (padded-long bs) (AreBits-padded bs)
    ∙ division_from (after_byte crc b) bs (after_byte-lt crc b below)

fold-lt : (crc : ℕ) (bytes : List ℕ) → crc < 2 ^ 32 → fold after_byte crc bytes < 2 ^ 32
fold-lt crc [] below = below
fold-lt crc (b ∷ bs) below = fold-lt (after_byte crc b) bs (after_byte-lt crc b below)

ones-bits : all_ones ≡ low_bits 32 4294967295
unfolding low_bits
ones-bits = refl

-- the CRC-32 is the complement of what the register holds after all bytes
pub crc32_of_fold : (bytes : List ℕ) → crc32_of bytes ≡ bit_xor (fold after_byte 4294967295 bytes) 4294967295
unfolding crc32_of
crc32_of_fold bytes =
    let start : 4294967295 < 2 ^ 32 = omega arith in
    let crc : ℕ = fold after_byte 4294967295 bytes in
    let ended : remainder crc32_divisor (8 * length bytes) (less (padded_bits bytes) all_ones) ≡ low_bits 32 crc =
    ap (λ t. remainder crc32_divisor (8 * length bytes) (less (padded_bits bytes) t)) ones-bits ∙ division_from 4294967295 bytes start in
    ap (λ t. number_of_low_bits (less t all_ones)) ended
    ∙ ap (λ t. number_of_low_bits (less (low_bits 32 crc) t)) ones-bits
    ∙ ap number_of_low_bits (less-low_bits 32 crc 4294967295)
    ∙ number-low_bits 32 (bit_xor crc 4294967295) (xor_lt 32 crc 4294967295 (fold-lt 4294967295 bytes start) start)

-- a CRC-32 is a u32
pub crc32_of-lt : (bytes : List ℕ) → crc32_of bytes < 2 ^ 32
crc32_of-lt bytes =
    let start : 4294967295 < 2 ^ 32 = omega arith in
    subst (λ n. n < 2 ^ 32) (sym (crc32_of_fold bytes)) (xor_lt 32 (fold after_byte 4294967295 bytes) 4294967295 (fold-lt 4294967295 bytes start) start)
