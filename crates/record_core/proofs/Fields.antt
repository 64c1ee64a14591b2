-- The table of fields: what is true of each row and of each two rows, by computation.
use Rattle.std.proofs.Common.{◌≡◌, ℕ, ◌*◌, ◌^◌, ◌<◌, ◌≤◌, ◌≢◌, Bool, true, List, [], ◌∷◌, get_or, refl, sym, ap, subst, ◌∙◌, arith, inl, inr, lit<}
use Rattle.std.specs.Prelude.{bit_and, ◌==◌, ◌&&◌, ◌||◌, nat_lt, not}
use Rattle.std.proofs.lemmas.Bool.{and_parts, or_cases, eqb-true, eq-eqb, ltb-true, not_from_true, false≢true, agree_below, agree_below_at}
use Rattle.record_core.specs.declared.field.NvField.{NvField}
use Rattle.record_core.specs.declared.field.NvField.TheVariants as field
use Rattle.record_core.specs.Field.{place_of, greatest_value}

all_fields : List NvField
all_fields =
    field.KernelReset ∷ field.FirmwareReset ∷ field.TryCount ∷ field.DisableDev ∷ field.RecoveryRequest ∷ field.Localization ∷ field.ExternalBoot ∷ field.SignedOnly
    ∷ field.DefaultBoot ∷ field.RecoverySubcode ∷ field.Result ∷ field.Tried ∷ field.TryNext ∷ field.PrevResult ∷ field.PrevTried ∷ []

-- the field of a row
field_at : ℕ → NvField
field_at n = get_or all_fields n field.PrevTried

-- each field has a row
row_of : (f : NvField) → (n : ℕ) × (n < 15) × (field_at n ≡ f)
unfolding all_fields field_at
row_of field.KernelReset = (0, lit< tt, refl)
row_of field.FirmwareReset = (1, lit< tt, refl)
row_of field.TryCount = (2, lit< tt, refl)
row_of field.DisableDev = (3, lit< tt, refl)
row_of field.RecoveryRequest = (4, lit< tt, refl)
row_of field.Localization = (5, lit< tt, refl)
row_of field.ExternalBoot = (6, lit< tt, refl)
row_of field.SignedOnly = (7, lit< tt, refl)
row_of field.DefaultBoot = (8, lit< tt, refl)
row_of field.RecoverySubcode = (9, lit< tt, refl)
row_of field.Result = (10, lit< tt, refl)
row_of field.Tried = (11, lit< tt, refl)
row_of field.TryNext = (12, lit< tt, refl)
row_of field.PrevResult = (13, lit< tt, refl)
row_of field.PrevTried = (14, lit< tt, refl)

always : ℕ → Bool
always n = true

-- a test that every row passes
each_row : (test : NvField → Bool) → agree_below (λ n. test (field_at n)) always 15 ≡ true → (f : NvField) → test f ≡ true
unfolding always
each_row test h f =
    let row = row_of f in
    subst (λ (g : NvField). test g ≡ true) row.2 (agree_below_at (λ n. test (field_at n)) always 15 row.0 h row.1)

-- ---- one row

-- the place is a byte before the checksum and some bits of a byte, and the two bits of the signature are in no field
is_sound : NvField → Bool
is_sound f = nat_lt (place_of f).byte 15 && nat_lt (place_of f).mask 256 && (not ((place_of f).byte == 0) || (bit_and (place_of f).mask 0xc0 == 0))

is_sound_all : (f : NvField) → is_sound f ≡ true
unfolding is_sound all_fields field_at always
is_sound_all f = each_row is_sound refl f

pub byte_before_crc : (f : NvField) → (place_of f).byte < 15
unfolding is_sound
byte_before_crc f = let h = and_parts _ _ (is_sound_all f) in ltb-true _ _ (and_parts _ _ h.0).0

pub mask_of_byte : (f : NvField) → (place_of f).mask < 256
unfolding is_sound
mask_of_byte f = let h = and_parts _ _ (is_sound_all f) in ltb-true _ _ (and_parts _ _ h.0).1

pub mask_apart_from_signature : (f : NvField) → (place_of f).byte ≡ 0 → bit_and (place_of f).mask 0xc0 ≡ 0
unfolding is_sound
mask_apart_from_signature f zero_byte =
    let h = and_parts _ _ (is_sound_all f) in
    elim (or_cases _ _ h.1) [
      | inl other ↦ absurd (false≢true (sym (not_from_true _ (eq-eqb _ _ zero_byte)) ∙ other))
      | inr apart ↦ eqb-true _ _ apart
    ]

-- ---- the values of a field

-- the bits of a value stand under the field's mask
holds_value : NvField → ℕ → Bool
holds_value f value =
    nat_lt (greatest_value f) value
    || ((bit_and (value * 2 ^ (place_of f).shift) (place_of f).mask == value * 2 ^ (place_of f).shift) && nat_lt (value * 2 ^ (place_of f).shift) 256)

holds_values : NvField → Bool
holds_values f = agree_below (holds_value f) always 256

holds_values_all : (f : NvField) → holds_values f ≡ true
unfolding holds_values holds_value all_fields field_at always
holds_values_all f = each_row holds_values refl f

greatest_of_byte : (f : NvField) → nat_lt (greatest_value f) 256 ≡ true
unfolding all_fields field_at always
greatest_of_byte f = each_row (λ g. nat_lt (greatest_value g) 256) refl f

-- what a field's bits are at a value
pub record IsHeld (f : NvField) (value : ℕ) : Type 0 where
  pub under : bit_and (value * 2 ^ (place_of f).shift) (place_of f).mask ≡ value * 2 ^ (place_of f).shift
  pub of_byte : value * 2 ^ (place_of f).shift < 256

pub value_is_held : (f : NvField) (value : ℕ) → value ≤ greatest_value f → IsHeld f value
unfolding holds_values holds_value always
value_is_held f value fits =
    let low : greatest_value f < 256 = ltb-true _ _ (greatest_of_byte f) in
    let h : holds_value f value ≡ true = agree_below_at (holds_value f) always 256 value (holds_values_all f) (omega arith) in
    elim (or_cases _ _ h) [
      | inl above ↦ let lt : greatest_value f < value = ltb-true _ _ above in absurd (omega arith)
      | inr both ↦ let p = and_parts _ _ both in record { under = eqb-true _ _ p.0; of_byte = ltb-true _ _ p.1 }
    ]

-- ---- two rows

-- two fields stand in two bytes, or have no bit in common
is_apart : NvField → NvField → Bool
is_apart f g = not ((place_of f).byte == (place_of g).byte) || (bit_and (place_of f).mask (place_of g).mask == 0)

-- each two rows are apart
apart_rows : ℕ → Bool
apart_rows n = agree_below (λ m. (m == n) || is_apart (field_at n) (field_at m)) always 15

apart_rows_all : agree_below apart_rows always 15 ≡ true
unfolding apart_rows is_apart all_fields field_at always
apart_rows_all = refl

pub apart_fields : (f g : NvField) → g ≢ f → (place_of f).byte ≡ (place_of g).byte → bit_and (place_of f).mask (place_of g).mask ≡ 0
unfolding is_apart apart_rows always
apart_fields f g other same_byte =
    let n = row_of f in
    let m = row_of g in
    let row : apart_rows n.0 ≡ true = agree_below_at apart_rows always 15 n.0 apart_rows_all n.1 in
    let h : ((m.0 == n.0) || is_apart (field_at n.0) (field_at m.0)) ≡ true = agree_below_at (λ k. (k == n.0) || is_apart (field_at n.0) (field_at k)) always 15 m.0 row m.1 in
    elim (or_cases _ _ h) [
      | inl same ↦ absurd (other (sym m.2 ∙ ap field_at (eqb-true _ _ same) ∙ n.2))
      | inr apart ↦
          let here : is_apart f g ≡ true = subst (λ (x : NvField). is_apart f x ≡ true) m.2 (subst (λ (x : NvField). is_apart x (field_at m.0) ≡ true) n.2 apart) in
          elim (or_cases _ _ here) [
            | inl differ ↦ absurd (false≢true (sym (not_from_true _ (eq-eqb _ _ same_byte)) ∙ differ))
            | inr none ↦ eqb-true _ _ none
          ]
    ]
