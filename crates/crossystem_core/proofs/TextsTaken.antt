-- The texts that are shown are taken.
use Rattle.std.proofs.Common.{◌≡◌, ◌∙◌, ℕ, zero, suc, ◌+◌, ◌-◌, ◌<◌, ◌%◌, refl, sym, ap, arith, Bool, true, List, [], ◌∷◌, length, Option, Some, None, Result, Ok}
use Rattle.std.specs.Prelude.{if◌then◌else◌, bytes_eq, ◌==◌}
use Rattle.std.specs.Int.{w32, from_be_bytes, bytes_high_first}
use Rattle.std.proofs.lemmas.Nat.{from_be_bytes-to_be_bytes_4}
use Rattle.std.proofs.lemmas.Slice.Eq.{bytes_eq-Decides}
use Rattle.hex.specs.Hex.{decode_sized, encode_lower, lower_digits, IsBytes}
use Rattle.hex.specs.declared.error.FromHexError.{FromHexError}
use Rattle.hex.proofs.HexLemmas.{decode_sized-encode_lower, length-encode_with}
use Rattle.text_core.specs.Numbers.{hex_number}
use Rattle.crossystem_core.specs.Values.{value_text, value_below, value_with, whose_text, version_read}
use Rattle.crossystem_core.specs.Laws.{TakesValues, TakesVersions}
use Rattle.crossystem_core.proofs.ValuesFound.{below_more, found_below, below_shown}

same_bytes : (text : List ℕ) → bytes_eq text text ≡ true
same_bytes text = (bytes_eq-Decides text text).1 refl

-- ---- values

pub takes_values : TakesValues
takes_values form count value small = by (value_below form value (value_text form value)) refl
  where
    text : List ℕ
    text = value_text form value

    by : (o : Option ℕ) → value_below form value (value_text form value) ≡ o
        → (taken : ℕ) × (value_below form count (value_text form value) ≡ Some taken) × (value_text form taken ≡ value_text form value)
    by (Some w) found =
        let sum : count ≡ (count - value) + value = omega (arith, small) in (
          w,
          ap (λ (m : ℕ). value_below form m (value_text form value)) sum ∙ below_more form (count - value) value w (value_text form value) found,
          below_shown form value (value_text form value) w found,
        )
    by None none =
        let is : value_with form value (value_text form value) ≡ Some value = ap (λ (b : Bool). if b then Some value else None) (same_bytes (value_text form value)) in
        (value, sym (found_below form count value (value_text form value) small none is), refl)

-- ---- versions

a_byte : (n : ℕ) → n % 256 < 256
a_byte n = omega arith

four_bytes : (a b c d : ℕ) → a < 256 → b < 256 → c < 256 → d < 256 → IsBytes (a ∷ b ∷ c ∷ d ∷ [])
four_bytes a b c d p q r s zero = p
four_bytes a b c d p q r s (suc zero) = q
four_bytes a b c d p q r s (suc (suc zero)) = r
four_bytes a b c d p q r s (suc (suc (suc zero))) = s
four_bytes a b c d p q r s (suc (suc (suc (suc i)))) = omega arith

pub takes_versions : TakesVersions
takes_versions version small =
    let bytes : List ℕ = bytes_high_first 4 version in
    let are_bytes : IsBytes bytes = four_bytes _ _ _ _ (a_byte _) (a_byte _) (a_byte _) (a_byte version) in
    let digits : decode_sized (encode_lower bytes) 4 ≡ Ok bytes = decode_sized-encode_lower bytes 4 refl are_bytes in
    let long : length (hex_number 4 version) ≡ 10 = ap (λ (n : ℕ). suc (suc n)) (length-encode_with lower_digits bytes) in
    let number : from_be_bytes w32 bytes ≡ version = from_be_bytes-to_be_bytes_4 version small in
    ap (λ (n : ℕ). if n == 10 then version_read (decode_sized (encode_lower bytes) 4) (hex_number 4 version) else None) long
    ∙ ap (λ (r : Result (List ℕ) FromHexError). version_read r (hex_number 4 version)) digits
    ∙ ap (λ (n : ℕ). whose_text n (hex_number 4 version)) number
    ∙ ap (λ (b : Bool). if b then Some version else None) (same_bytes (hex_number 4 version))
