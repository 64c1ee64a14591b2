-- What is shown of a type stands for that type again.
use Rattle.std.proofs.Common.{◌≡◌, ◌∙◌, inl, inr, ℕ, ◌<◌, Bool, true, false, List, length, Option, Some, refl, sym, ap, arith}
use Rattle.std.specs.Prelude.{All, codes, if◌then◌else◌, option_map}
use Rattle.std.specs.Str.{bytes_eq}
use Rattle.std.proofs.lemmas.Bool.{cases_Bool}
use Rattle.std.proofs.lemmas.Slice.Eq.{bytes_eq-Decides}
use Rattle.uuid.specs.Parts.{swap_fields}
use Rattle.uuid.specs.Text.{hyphenated_text, lower, parsed}
use Rattle.uuid.proofs.RoundTrips.{parses_hyphenated, swap_twice}
use Rattle.uuid.proofs.TextLemmas.{by_index_length}
use Rattle.cgpt_core.specs.Text.{guid_text, type_name}
use Rattle.cgpt_core.specs.Values.{guid_in, named_guid}
use Rattle.cgpt_core.specs.TypeLaw.{TypesReadBack}

-- a text of another length is another one
other_length : (text name : List ℕ) → length text ≡ 36 → length name < 36 → bytes_eq text name ≡ false
other_length text name long short = elim (cases_Bool (bytes_eq text name)) [
  | inl same ↦
      let is : text ≡ name = (bytes_eq-Decides text name).0 same in
      absurd (omega (arith, long, short, ap (λ (t : List ℕ). length t) is))
  | inr other ↦ other
]

skipped : (b : Bool) (one two : List ℕ) → b ≡ false → (if b then one else two) ≡ two
skipped true one two is = cc
skipped false one two is = refl

taken : (b : Bool) (one two : List ℕ) → b ≡ true → (if b then one else two) ≡ one
taken true one two is = refl
taken false one two is = cc

-- a text of 36 bytes is no name
no_name : (text : List ℕ) → length text ≡ 36 → named_guid text ≡ text
no_name text long =
    skipped (bytes_eq text (codes "kernel")) _ _ (other_length text (codes "kernel") long (omega arith))
    ∙ skipped (bytes_eq text (codes "rootfs")) _ _ (other_length text (codes "rootfs") long (omega arith))
    ∙ skipped (bytes_eq text (codes "efi")) _ _ (other_length text (codes "efi") long (omega arith))
    ∙ skipped (bytes_eq text (codes "data")) _ _ (other_length text (codes "data") long (omega arith))
    ∙ skipped (bytes_eq text (codes "unused")) _ _ (other_length text (codes "unused") long (omega arith))

-- the name of a type stands for its GUID
named : (text guid name : List ℕ) → bytes_eq text guid ≡ true → named_guid name ≡ guid → named_guid name ≡ text
named text guid name same is = is ∙ sym ((bytes_eq-Decides text guid).0 same)

name_back : (text : List ℕ) → length text ≡ 36 → named_guid (type_name text) ≡ text
name_back text long = elim (cases_Bool (bytes_eq text (codes "fe3a2a5d-4f32-41a7-b725-accc3285a309"))) [
  | inl kernel ↦ ap named_guid (taken _ (codes "kernel") _ kernel) ∙ named text (codes "fe3a2a5d-4f32-41a7-b725-accc3285a309") (codes "kernel") kernel refl
  | inr no_kernel ↦ ap named_guid (skipped _ (codes "kernel") _ no_kernel) ∙
      elim (cases_Bool (bytes_eq text (codes "3cb8e202-3b7e-47dd-8a3c-7ff2a13cfcec"))) [
        | inl rootfs ↦ ap named_guid (taken _ (codes "rootfs") _ rootfs) ∙ named text (codes "3cb8e202-3b7e-47dd-8a3c-7ff2a13cfcec") (codes "rootfs") rootfs refl
        | inr no_rootfs ↦ ap named_guid (skipped _ (codes "rootfs") _ no_rootfs) ∙
            elim (cases_Bool (bytes_eq text (codes "c12a7328-f81f-11d2-ba4b-00a0c93ec93b"))) [
              | inl efi ↦ ap named_guid (taken _ (codes "efi") _ efi) ∙ named text (codes "c12a7328-f81f-11d2-ba4b-00a0c93ec93b") (codes "efi") efi refl
              | inr no_efi ↦ ap named_guid (skipped _ (codes "efi") _ no_efi) ∙
                  elim (cases_Bool (bytes_eq text (codes "ebd0a0a2-b9e5-4433-87c0-68b6b72699c7"))) [
                    | inl is_data ↦ ap named_guid (taken _ (codes "data") _ is_data) ∙ named text (codes "ebd0a0a2-b9e5-4433-87c0-68b6b72699c7") (codes "data") is_data refl
                    | inr no_data ↦ ap named_guid (skipped _ (codes "data") _ no_data) ∙ no_name text long
                  ]
            ]
      ]
]

-- the text of a GUID stands for it
guid_back : (guid : List ℕ) → length guid ≡ 16 → All (λ b. b < 256) guid → guid_in (guid_text (swap_fields guid)) ≡ Some (swap_fields guid)
unfolding guid_in guid_text
guid_back guid size small =
    ap (λ (g : List ℕ). option_map swap_fields (parsed (hyphenated_text lower g))) (swap_twice guid size)
    ∙ ap (λ (o : Option (List ℕ)). option_map swap_fields o) (sym (parses_hyphenated lower guid (inl refl) size small))

text_long : (guid : List ℕ) → length (guid_text guid) ≡ 36
unfolding guid_text
text_long guid = by_index_length 36 _

pub types_read_back : TypesReadBack
types_read_back guid size small =
    ap guid_in (name_back (guid_text (swap_fields guid)) (text_long (swap_fields guid))) ∙ guid_back guid size small
