-- Four zero bits at once: the register is the sum of its low four bits and the rest, and the rest only moves down.
use Rattle.std.proofs.Common.{◌≡◌, ℕ, List, get_or, eqb, zero, suc, ◌+◌, ◌*◌, ◌/◌, ◌%◌, ◌^◌, ◌<◌, Bool, true, ◌==◌, refl, ap, sym, ◌∙◌, arith, inl, inr}
use Rattle.std.proofs.lemmas.Bool.{agree_below, agree_below_at, eqb-true, cond-true, cond-false, eq-eqb, ne_eqb}
use Rattle.std.proofs.lemmas.Nat.{xor_block, xor_comm, pow_pos, shr_split, and_mask}
use Rattle.wire_core.specs.declared.reflected.TheConstants.{HALVES}
use Rattle.std.specs.Int.Bits.{bit_and, bit_xor, xor_assoc, xor_zero_l, xor_zero_r}
use Rattle.std.proofs.Math.Nat.{mod-lt, mod-eq_of_lt}
use Rattle.wire_core.specs.Register.{shifted, shifts, after_byte}
use Rattle.wire_core.proofs.ShiftRegister.{xor-lowest, xor-half, even_or_odd, double}

shifted-even : (crc : ℕ) → crc % 2 ≡ 0 → shifted crc ≡ crc / 2
shifted-even crc even = cond-true (crc % 2 == 0) (crc / 2) (bit_xor (crc / 2) 3988292384) (eq-eqb (crc % 2) 0 even)

shifted-odd : (crc : ℕ) → crc % 2 ≡ 1 → shifted crc ≡ bit_xor (crc / 2) 3988292384
shifted-odd crc odd =
    let ne : crc % 2 ≡ 0 → ⊥ = λ e. omega (arith, odd, e) in
    cond-false (crc % 2 == 0) (crc / 2) (bit_xor (crc / 2) 3988292384) (ne_eqb (crc % 2) 0 ne)

-- what is even only moves down, also beside another number
shifted-beside : (a b : ℕ) → b % 2 ≡ 0 → shifted (bit_xor a b) ≡ bit_xor (shifted a) (b / 2)
shifted-beside a b even =
    elim (even_or_odd a) [
      | inl even' ↦
          let both : bit_xor a b % 2 ≡ 0 = omega (arith, xor-lowest a b, even, even') in
          shifted-even (bit_xor a b) both ∙ sym (xor-half a b) ∙ ap (λ n. bit_xor n (b / 2)) (sym (shifted-even a even'))
      | inr odd ↦
          let both : bit_xor a b % 2 ≡ 1 = omega (arith, xor-lowest a b, even, odd) in
          shifted-odd (bit_xor a b) both ∙ ap (λ n. bit_xor n 3988292384) (sym (xor-half a b)) ∙ xor_assoc (a / 2) (b / 2) 3988292384
          ∙ ap (bit_xor (a / 2)) (xor_comm (b / 2) 3988292384) ∙ sym (xor_assoc (a / 2) 3988292384 (b / 2)) ∙ ap (λ n. bit_xor n (b / 2)) (sym (shifted-odd a odd))
    ]

shifts-beside : (count a high : ℕ) → shifts count (bit_xor a (high * 2 ^ count)) ≡ bit_xor (shifts count a) high
unfolding shifts
shifts-beside zero a high = ap (bit_xor a) (omega arith)
shifts-beside (suc count) a high =
    let power : 2 ^ suc count ≡ 2 * 2 ^ count = double count in
    let double_of : high * 2 ^ suc count ≡ 2 * (high * 2 ^ count) = omega (arith, power, ap (λ n. high * n) power) in
    let even : high * 2 ^ suc count % 2 ≡ 0 = omega (arith, double_of) in
    let half : high * 2 ^ suc count / 2 ≡ high * 2 ^ count = omega (arith, double_of) in
    ap (shifts count) (shifted-beside a (high * 2 ^ suc count) even ∙ ap (bit_xor (shifted a)) half) ∙ shifts-beside count (shifted a) high

-- the register is its low bits and the rest
split_at : (count crc : ℕ) → bit_xor (crc % 2 ^ count) (crc / 2 ^ count * 2 ^ count) ≡ crc
split_at count crc =
    let low : ℕ = crc % 2 ^ count in
    let high : ℕ = crc / 2 ^ count in
    let below : low < 2 ^ count = mod-lt crc (pow_pos count) in
    let front : 0 * 2 ^ count + low ≡ low = omega arith in
    let back : high * 2 ^ count + 0 ≡ high * 2 ^ count = omega arith in
    ap (λ n. bit_xor n (high * 2 ^ count)) (sym front) ∙ ap (bit_xor (0 * 2 ^ count + low)) (sym back)
    ∙ xor_block count 0 high low 0 below (pow_pos count)
    ∙ ap (λ n. n * 2 ^ count + bit_xor low 0) (xor_zero_l high) ∙ ap (λ n. high * 2 ^ count + n) (xor_zero_r low) ∙ shr_split crc count

four_zeros : (crc : ℕ) → bit_xor (shifts 4 (crc % 16)) (crc / 16) ≡ shifts 4 crc
four_zeros crc = sym (shifts-beside 4 (crc % 16) (crc / 16)) ∙ ap (shifts 4) (split_at 4 crc)

-- whether an entry of a table is what four zero bits make of its place
entry_test : List ℕ → ℕ → Bool
entry_test table k = eqb (get_or table k 0) (shifts 4 k)

-- a table whose 16 entries were looked at
entries_of : (table : List ℕ) → agree_below (entry_test table) (λ _. true) 16 ≡ true → (k : ℕ) → k < 16 → get_or table k 0 ≡ shifts 4 k
unfolding entry_test
entries_of table looked k below = eqb-true _ _ (agree_below_at (entry_test table) (λ _. true) 16 k looked below)

-- the table of the code
the_table : (k : ℕ) → k < 16 → get_or HALVES k 0 ≡ shifts 4 k
unfolding entry_test shifts
the_table = entries_of HALVES refl

-- what four zero bits make of a register
pub in_table : (crc : ℕ) → bit_xor (get_or HALVES (bit_and crc 15) 0) (crc / 16) ≡ shifts 4 crc
in_table crc =
    let below : crc % 16 < 16 = omega arith in
    ap (λ n. bit_xor (get_or HALVES n 0) (crc / 16)) (and_mask crc 4) ∙ ap (λ n. bit_xor n (crc / 16)) (the_table (crc % 16) below) ∙ four_zeros crc

-- two halves of a byte, one after the other
two_halves : (crc : ℕ) → shifts 4 (shifts 4 crc) ≡ shifts 8 crc
unfolding shifts
two_halves crc = refl

pub byte_taken : (crc byte from first last : ℕ) → byte < 256 → from ≡ byte → first ≡ shifts 4 (bit_xor crc from) → last ≡ shifts 4 first → last ≡ after_byte crc byte
byte_taken crc byte from first last below is one two =
    let low : byte % 256 ≡ byte = mod-eq_of_lt below in
    two ∙ ap (shifts 4) (one ∙ ap (λ n. shifts 4 (bit_xor crc n)) (is ∙ sym low)) ∙ two_halves (bit_xor crc (byte % 256))
