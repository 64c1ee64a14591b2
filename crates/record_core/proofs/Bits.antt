-- A byte with other bits under a mask: the bits under that mask, and the bits under one that is apart from it.
use Rattle.std.proofs.Common.{◌≡◌, ℕ, ◌-◌, ◌<◌, min, max, ap, sym, ◌∙◌, arith}
use Rattle.std.specs.Prelude.{bit_and}
use Rattle.std.specs.Int.{bit_at, w8}
use Rattle.std.proofs.lemmas.Nat.{and_le_r}
use Rattle.std.proofs.lemmas.Nat.Bits.{bit_at_and, bit_at_or, bit_at_not, bit_at-lt, bit_at-zero, same_from_bits_below}
use Rattle.record_core.specs.Field.{with_bits}

-- one bit of the new byte
bit_of_with : (byte mask bits i : ℕ) → mask < 256 → i < 8 → bit_at (with_bits byte mask bits) i ≡ max (min (bit_at byte i) (1 - bit_at mask i)) (bit_at bits i)
bit_of_with byte mask bits i low within =
    bit_at_or (bit_and byte (255 - mask)) bits i
    ∙ ap (λ (x : ℕ). max x (bit_at bits i)) (bit_at_and byte (255 - mask) i ∙ ap (λ (x : ℕ). min (bit_at byte i) x) (bit_at_not w8 mask i low within))

-- the new bits stand under the mask
pub under_mask : (byte mask bits : ℕ) → mask < 256 → bit_and bits mask ≡ bits → bit_and (with_bits byte mask bits) mask ≡ bits
under_mask byte mask bits low within =
    same_from_bits_below 8 _ _ (omega (arith, and_le_r (with_bits byte mask bits) mask)) (let h : bit_and bits mask ≡ bits = within in omega (arith, and_le_r bits mask))
    (λ i lt.
    let made = bit_at_and (with_bits byte mask bits) mask i in
    let new = bit_of_with byte mask bits i low lt in
    let inside = sym (bit_at_and bits mask i) ∙ ap (λ (x : ℕ). bit_at x i) within in
    omega (arith, made, new, inside, bit_at-lt byte i, bit_at-lt mask i, bit_at-lt bits i))

-- bits under another mask stay
pub apart_from_mask : (byte mask bits other : ℕ) → mask < 256 → other < 256 → bit_and bits mask ≡ bits → bit_and mask other ≡ 0 → bit_and (with_bits byte mask bits) other ≡ bit_and byte other
apart_from_mask byte mask bits other low low' within apart =
    same_from_bits_below 8 _ _ (omega (arith, and_le_r (with_bits byte mask bits) other)) (omega (arith, and_le_r byte other))
    (λ i lt.
    let made = bit_at_and (with_bits byte mask bits) other i in
    let kept = bit_at_and byte other i in
    let new = bit_of_with byte mask bits i low lt in
    let inside = sym (bit_at_and bits mask i) ∙ ap (λ (x : ℕ). bit_at x i) within in
    let none = sym (bit_at_and mask other i) ∙ ap (λ (x : ℕ). bit_at x i) apart ∙ bit_at-zero i in
    omega (arith, made, kept, new, inside, none, bit_at-lt byte i, bit_at-lt mask i, bit_at-lt bits i, bit_at-lt other i))
