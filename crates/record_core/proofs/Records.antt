-- A good record with a field replaced is good, has the field's value, and keeps every other field.
use Rattle.std.proofs.Common.{◌≡◌, ℕ, ◌*◌, ◌+◌, ◌/◌, ◌%◌, ◌^◌, ◌<◌, ◌≤◌, ◌≢◌, Bool, true, false, List, length, get_or, take, drop, replicate, [], ◌∷◌, ◌++◌, refl, sym, ap, subst, ◌∙◌, arith, lit≤, lit<, inl, inr, get_or-set_other, get_or-set_same}
use Rattle.std.specs.Prelude.{bit_and, ◌==◌, if◌then◌else◌}
use Rattle.std.proofs.Math.ListN.{set, length-set}
use Rattle.std.proofs.Math.Nat.{mul-div_cancel, mod-eq_of_lt}
use Rattle.std.proofs.lemmas.Bool.{cases_eq, and_from, and_parts, eq-eqb, eqb-true}
use Rattle.std.proofs.lemmas.List.{take-set-le}
use Rattle.std.proofs.lemmas.Grind.{common_steps}
use Rattle.std.proofs.lemmas.Nat.{pow_pos}
use Rattle.wire_core.specs.Crc8.{crc8_of}
use Rattle.record_core.specs.declared.field.NvField.{NvField}
use Rattle.record_core.specs.declared.field.Place.{Place}
use Rattle.record_core.specs.Field.{place_of, greatest_value, field_of, with_bits}
use Rattle.record_core.specs.Nv.{IsGoodRecord, up_record, crc_at, signature_of, checked, with_field}
use Rattle.record_core.proofs.Bits.{under_mask, apart_from_mask}
use Rattle.record_core.proofs.Fields.{byte_before_crc, mask_of_byte, mask_apart_from_signature, value_is_held, apart_fields}

-- ---- what the length tells

crc_above : (long : Bool) → 15 ≤ (if long then 63 else 15)
crc_above true = lit≤ tt
crc_above false = lit≤ tt

pub crc_at-above : (r : List ℕ) → 15 ≤ crc_at r
crc_at-above r = crc_above (length r == 64)

crc_at-same : (a b : List ℕ) → length a ≡ length b → crc_at a ≡ crc_at b
crc_at-same a b same = ap (λ (n : ℕ). if n == 64 then 63 else 15) same

signature_of-same : (a b : List ℕ) → length a ≡ length b → signature_of a ≡ signature_of b
signature_of-same a b same = ap (λ (n : ℕ). if n == 64 then 0x80 else 0x40) same

-- ---- a good record

-- the parts of a good record
pub record GoodParts (r : List ℕ) : Type 0 where
  pub size : length r ≡ crc_at r + 1
  pub signature : bit_and (get_or r 0 0) 0xc0 ≡ signature_of r
  pub checksum : get_or r (crc_at r) 0 ≡ crc8_of (take (crc_at r) r)

pub good_of_parts : (r : List ℕ) → GoodParts r → IsGoodRecord r
good_of_parts r parts = and_from _ _ (and_from _ _ (eq-eqb _ _ parts.size) (eq-eqb _ _ parts.signature)) (eq-eqb _ _ parts.checksum)

pub parts_of_good : (r : List ℕ) → IsGoodRecord r → GoodParts r
parts_of_good r good =
    let both = and_parts _ _ good in
    let front = and_parts _ _ both.0 in
    record { size = eqb-true _ _ front.0; signature = eqb-true _ _ front.1; checksum = eqb-true _ _ both.1 }

-- a byte before the checksum, of a record whose byte was set and whose checksum was made afresh
checked_byte : (c : ℕ) (r : List ℕ) (at x k : ℕ) → k < c → get_or (checked c (set r at x)) k 0 ≡ get_or (set r at x) k 0
checked_byte c r at x k below = let apart : k ≢ c = omega arith in get_or-set_other (set r at x) c k _ 0 apart

set_byte : (c : ℕ) (r : List ℕ) (at x : ℕ) → at < length r → at < c → get_or (checked c (set r at x)) at 0 ≡ x
set_byte c r at x inside below = checked_byte c r at x at below ∙ get_or-set_same r at x 0 inside

other_byte : (c : ℕ) (r : List ℕ) (at x k : ℕ) → k < c → k ≢ at → get_or (checked c (set r at x)) k 0 ≡ get_or r k 0
other_byte c r at x k below apart = checked_byte c r at x k below ∙ get_or-set_other r at k x 0 apart

checked_size : (c : ℕ) (r : List ℕ) (at x : ℕ) → length (checked c (set r at x)) ≡ length r
checked_size c r at x = length-set (set r at x) c _ ∙ length-set r at x

checked_checksum : (c : ℕ) (r : List ℕ) (at x : ℕ) → c < length r → get_or (checked c (set r at x)) c 0 ≡ crc8_of (take c (checked c (set r at x)))
checked_checksum c r at x inside =
    get_or-set_same (set r at x) c _ 0 (omega (arith, length-set r at x))
    ∙ ap crc8_of (sym (take-set-le c (set r at x) c (crc8_of (take c (set r at x))) (omega arith)))

-- the byte of the field, with the bits of a value
pub new_byte : List ℕ → NvField → ℕ → ℕ
new_byte r f value = with_bits (get_or r (place_of f).byte 0) (place_of f).mask (value * 2 ^ (place_of f).shift)

pub with_field-is : (r : List ℕ) (f : NvField) (value : ℕ) → with_field r f value ≡ checked (crc_at r) (set r (place_of f).byte (new_byte r f value))
unfolding with_field new_byte
with_field-is r f value = refl

-- a field stands before the checksum
field_below : (r : List ℕ) (f : NvField) → (place_of f).byte < crc_at r
field_below r f = let low = byte_before_crc f in let above = crc_at-above r in omega arith

field_inside : (r : List ℕ) (f : NvField) → length r ≡ crc_at r + 1 → (place_of f).byte < length r
field_inside r f size = let below = field_below r f in omega arith

pub length-with_field : (r : List ℕ) (f : NvField) (value : ℕ) → length (with_field r f value) ≡ length r
unfolding new_byte
length-with_field r f value = rw (with_field-is r f value) (checked_size (crc_at r) r (place_of f).byte (new_byte r f value))

-- what stays of a record whose length stays
kept_form : (r new : List ℕ) → length new ≡ length r → GoodParts r → bit_and (get_or new 0 0) 0xc0 ≡ bit_and (get_or r 0 0) 0xc0
    → get_or new (crc_at r) 0 ≡ crc8_of (take (crc_at r) new) → IsGoodRecord new
kept_form r new same good signature checksum =
    let place : crc_at new ≡ crc_at r = crc_at-same new r same in
    let Holds : ℕ → Type 0 = λ c. get_or new c 0 ≡ crc8_of (take c new) in
    good_of_parts new (record {
      size = same ∙ good.size ∙ ap (λ (c : ℕ). c + 1) (sym place);
      signature = signature ∙ good.signature ∙ sym (signature_of-same new r same);
      checksum = subst Holds (sym place) checksum;
    })

pub with_field-good : (r : List ℕ) (f : NvField) (value : ℕ) → IsGoodRecord r → value ≤ greatest_value f → IsGoodRecord (with_field r f value)
unfolding new_byte
with_field-good r f value is_good fits =
    let good = parts_of_good r is_good in
    let at = (place_of f).byte in
    let c = crc_at r in
    let below : at < crc_at r = field_below r f in
    let inside : at < length r = field_inside r f good.size in
    let above : 15 ≤ crc_at r = crc_at-above r in
    let held = value_is_held f value fits in
    rw (with_field-is r f value) (kept_form r _ (checked_size c r at (new_byte r f value)) good
    (elim (cases_eq 0 at) [
      | inl first ↦
          let x = new_byte r f value in
          ap (λ (k : ℕ). bit_and (get_or (checked (crc_at r) (set r at x)) k 0) 0xc0) first
          ∙ ap (λ (b : ℕ). bit_and b 0xc0) (set_byte (crc_at r) r at x inside below)
          ∙ apart_from_mask (get_or r at 0) (place_of f).mask (value * 2 ^ (place_of f).shift) 0xc0 (mask_of_byte f) (omega arith) held.under (mask_apart_from_signature f (sym first))
          ∙ ap (λ (k : ℕ). bit_and (get_or r k 0) 0xc0) (sym first)
      | inr other ↦ ap (λ (b : ℕ). bit_and b 0xc0) (other_byte (crc_at r) r at (new_byte r f value) 0 (omega arith) other)
    ])
    (checked_checksum c r at (new_byte r f value) (omega (arith, good.size))))

pub with_field-value : (r : List ℕ) (f : NvField) (value : ℕ) → length r ≡ crc_at r + 1 → value ≤ greatest_value f → field_of (with_field r f value) f ≡ value
unfolding new_byte
with_field-value r f value size fits =
    let place = place_of f in
    let held = value_is_held f value fits in
    rw (with_field-is r f value)
    (ap (λ (b : ℕ). bit_and b place.mask / 2 ^ place.shift) (set_byte (crc_at r) r place.byte (new_byte r f value) (field_inside r f size) (field_below r f))
    ∙ ap (λ (b : ℕ). b / 2 ^ place.shift) (under_mask (get_or r place.byte 0) place.mask (value * 2 ^ place.shift) (mask_of_byte f) held.under)
    ∙ mul-div_cancel value (pow_pos place.shift))

pub with_field-other : (r : List ℕ) (f : NvField) (value : ℕ) (other : NvField) → length r ≡ crc_at r + 1 → value ≤ greatest_value f → other ≢ f
    → field_of (with_field r f value) other ≡ field_of r other
unfolding new_byte
with_field-other r f value other size fits differ =
    let place = place_of f in
    let at = (place_of other).byte in
    let c = crc_at r in
    let held = value_is_held f value fits in
    rw (with_field-is r f value)
    (ap (λ (b : ℕ). b / 2 ^ (place_of other).shift) (elim (cases_eq place.byte at) as (λ _. bit_and (get_or (checked (crc_at r) (set r place.byte (new_byte r f value))) at 0) (place_of other).mask ≡ bit_and (get_or r at 0) (place_of other).mask) [
      | inl same ↦
          ap (λ (k : ℕ). bit_and (get_or (checked (crc_at r) (set r place.byte (new_byte r f value))) k 0) (place_of other).mask) (sym same)
          ∙ ap (λ (b : ℕ). bit_and b (place_of other).mask) (set_byte (crc_at r) r place.byte (new_byte r f value) (field_inside r f size) (field_below r f))
          ∙ apart_from_mask (get_or r place.byte 0) place.mask (value * 2 ^ place.shift) (place_of other).mask (mask_of_byte f) (mask_of_byte other) held.under (apart_fields f other differ same)
          ∙ ap (λ (k : ℕ). bit_and (get_or r k 0) (place_of other).mask) same
      | inr apart ↦ ap (λ (b : ℕ). bit_and b (place_of other).mask) (other_byte (crc_at r) r place.byte (new_byte r f value) at (field_below r other) (λ e. apart (sym e)))
    ]))

-- what is written is the record with the field replaced
pub written_is : (r : List ℕ) (f : NvField) (value crc at : ℕ) (place : Place) → at ≡ crc_at r → place ≡ place_of f → value ≤ greatest_value f
    → crc ≡ crc8_of (take at (set r place.byte (with_bits (get_or r place.byte 0) place.mask (value * 2 ^ place.shift % 256))))
    → set (set r place.byte (with_bits (get_or r place.byte 0) place.mask (value * 2 ^ place.shift % 256))) at crc ≡ with_field r f value
unfolding new_byte
written_is r f value crc at place is_at is_place fits is_crc =
    let held = value_is_held f value fits in
    let bits : value * 2 ^ (place_of f).shift % 256 ≡ value * 2 ^ (place_of f).shift = mod-eq_of_lt held.of_byte in
    let written : Place → List ℕ = λ p. set r p.byte (with_bits (get_or r p.byte 0) p.mask (value * 2 ^ p.shift % 256)) in
    ap (λ (x : ℕ). set (written place) at x) is_crc
    ∙ ap (λ (n : ℕ). checked n (written place)) is_at
    ∙ ap (λ (p : Place). checked (crc_at r) (written p)) is_place
    ∙ ap (λ (b : ℕ). checked (crc_at r) (set r (place_of f).byte (with_bits (get_or r (place_of f).byte 0) (place_of f).mask b))) bits
    ∙ sym (with_field-is r f value)

-- what a record with a field replaced has
pub record SetsField (r new : List ℕ) (f : NvField) (value : ℕ) : Type 0 where
  pub size : length new ≡ length r
  pub good : IsGoodRecord new
  pub value_is : field_of new f ≡ value
  pub others : (other : NvField) → other ≢ f → field_of new other ≡ field_of r other

pub sets_field : (r new : List ℕ) (f : NvField) (value : ℕ) → new ≡ with_field r f value → IsGoodRecord r → value ≤ greatest_value f → SetsField r new f value
sets_field r new f value is good fits =
    let size = (parts_of_good r good).size in
    let P : List ℕ → Type 0 = λ n. SetsField r n f value in
    subst P (sym is) (record {
      size = length-with_field r f value;
      good = with_field-good r f value good fits;
      value_is = with_field-value r f value size fits;
      others = λ other differ. with_field-other r f value other size fits differ;
    })

-- ---- the record in form V2

-- a list of 64 bytes, with the signature of form V2 and a checksum that was made afresh
v2_good : (r : List ℕ) (byte : ℕ) → length r ≡ 64 → get_or r 0 0 ≡ with_bits byte 0xc0 0x80 → IsGoodRecord (checked 63 r)
v2_good r byte size first =
    let long : length (checked 63 r) ≡ 64 = length-set r 63 _ ∙ size in
    let place : crc_at (checked 63 r) ≡ 63 = ap (λ (n : ℕ). if n == 64 then 63 else 15) long in
    let Holds : ℕ → Type 0 = λ c. get_or (checked 63 r) c 0 ≡ crc8_of (take c (checked 63 r)) in
    let apart : 0 ≢ 63 = omega arith in
    good_of_parts (checked 63 r) (record {
      size = long ∙ ap (λ (c : ℕ). c + 1) (sym place);
      signature =
          ap (λ (b : ℕ). bit_and b 0xc0) (get_or-set_other r 63 0 _ 0 apart ∙ first)
          ∙ under_mask byte 0xc0 0x80 (lit< tt) refl
          ∙ sym (ap (λ (n : ℕ). if n == 64 then 0x80 else 0x40) long);
      checksum = subst Holds (sym place)
          (get_or-set_same r 63 _ 0 (omega (arith, size)) ∙ ap crc8_of (sym (take-set-le 63 r 63 (crc8_of (take 63 r)) (omega arith))));
    })

-- what a record of 16 bytes becomes in form V2, but for the checksum
abbrev up_bytes : List ℕ → List ℕ
up_bytes r = with_bits (get_or r 0 0) 0xc0 0x80 ∷ take 14 (drop 1 r) ++ 0 ∷ [] ++ replicate 8 0xff ++ replicate 40 0

length-up_bytes : (r : List ℕ) → length r ≡ 16 → length (up_bytes r) ≡ 64
length-up_bytes r size = grind (arith, common_steps)

pub up_record-good : (r : List ℕ) → length r ≡ 16 → IsGoodRecord (up_record r)
up_record-good r size =
    let short : (length r == 64) ≡ false = ap (λ (n : ℕ). n == 64) size in
    let P : Bool → Type 0 = λ long. IsGoodRecord (if long then r else checked 63 (up_bytes r)) in
    subst P (sym short) (v2_good (up_bytes r) (get_or r 0 0) (length-up_bytes r size) refl)

pub length-up_record : (r : List ℕ) → length r ≡ 16 → length (up_record r) ≡ 64
length-up_record r size =
    let short : (length r == 64) ≡ false = ap (λ (n : ℕ). n == 64) size in
    ap (λ (long : Bool). length (if long then r else checked 63 (up_bytes r))) short ∙ length-set (up_bytes r) 63 _ ∙ length-up_bytes r size
