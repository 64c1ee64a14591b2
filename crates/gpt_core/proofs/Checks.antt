-- The tests of a copy, as its code takes them.
use Rattle.std.proofs.Common.{◌≡◌, ℕ, ◌≤◌, Bool, true, false, ◌&&◌, List, Some, None, refl, ap, sym, ◌∙◌}
use Rattle.std.specs.Prelude.{nat_le}
use Rattle.std.proofs.lemmas.Bool.{cond-true, cond-false, le-leb}
use Rattle.gpt_core.specs.declared.side.Side.{Side}
use Rattle.gpt_core.specs.declared.header.Head.{Head}
use Rattle.gpt_core.specs.Format.{header_in, entries_in, has_size, is_good_header, are_good_entries, is_good_copy, table_from, table_of_parts, table_of_image}
use Rattle.gpt_core.specs.Heads.{head_in, table_with, with_entries}

pub size_fits : (sectors : ℕ) → 69 ≤ sectors → sectors ≤ 4294967296 → has_size sectors ≡ true
size_fits sectors enough most = ap (λ (b : Bool). b && nat_le sectors 4294967296) (le-leb 69 sectors enough) ∙ le-leb sectors 4294967296 most

-- a copy that passes gives its table
pub table_there : (side : Side) (sectors : ℕ) (header entries : List ℕ) → has_size sectors ≡ true → (is_good_header side sectors header && are_good_entries header entries) ≡ true → table_of_parts side sectors header entries ≡ Some (table_from header entries)
table_there side sectors header entries size passes =
    cond-true (is_good_copy side sectors header entries) (Some (table_from header entries)) None
    (ap (λ (b : Bool). b && (is_good_header side sectors header && are_good_entries header entries)) size ∙ passes)

pub and-false : (b : Bool) → (b && false) ≡ false
and-false true = refl
and-false false = refl

table_not_there : (side : Side) (sectors : ℕ) (header entries : List ℕ) → (is_good_header side sectors header && are_good_entries header entries) ≡ false → table_of_parts side sectors header entries ≡ None
table_not_there side sectors header entries fails =
    cond-false (is_good_copy side sectors header entries) (Some (table_from header entries)) None
    (ap (λ (b : Bool). has_size sectors && b) fails ∙ and-false (has_size sectors))

-- a disk of too few sectors or of too many has no table
pub table_wrong_size : (side : Side) (sectors : ℕ) (copy : List ℕ) → has_size sectors ≡ false → table_of_image side sectors copy ≡ None
unfolding table_of_image
table_wrong_size side sectors copy wrong =
    let header : List ℕ = header_in side copy in
    let entries : List ℕ = entries_in side copy in
    cond-false (is_good_copy side sectors header entries) (Some (table_from header entries)) None
    (ap (λ (b : Bool). b && (is_good_header side sectors header && are_good_entries header entries)) wrong)

image_is : (side : Side) (sectors : ℕ) (copy header entries : List ℕ) → header ≡ header_in side copy → entries ≡ entries_in side copy → table_of_parts side sectors header entries ≡ table_of_image side sectors copy
unfolding table_of_image
image_is side sectors copy header entries h e = ap (λ (x : List ℕ). table_of_parts side sectors x entries) h ∙ ap (λ (x : List ℕ). table_of_parts side sectors (header_in side copy) x) e

pub copy_passes : (side : Side) (sectors : ℕ) (copy header entries : List ℕ) (passed : Bool) (head : Head) → 69 ≤ sectors → sectors ≤ 4294967296 → header ≡ header_in side copy → entries ≡ entries_in side copy → head ≡ head_in header
    → passed ≡ (is_good_header side sectors header && are_good_entries header entries) → passed ≡ true → with_entries (Some head) (entries_in side copy) ≡ table_of_image side sectors copy
copy_passes side sectors copy header entries passed head enough most h e is tests passing =
    ap (λ (x : List ℕ). Some (table_with head x)) (sym e)
    ∙ ap (λ (x : Head). Some (table_with x entries)) is
    ∙ sym (table_there side sectors header entries (size_fits sectors enough most) (sym tests ∙ passing)) ∙ image_is side sectors copy header entries h e

pub copy_fails : (side : Side) (sectors : ℕ) (copy header entries : List ℕ) (passed : Bool) → header ≡ header_in side copy → entries ≡ entries_in side copy
    → passed ≡ (is_good_header side sectors header && are_good_entries header entries) → passed ≡ false → with_entries None (entries_in side copy) ≡ table_of_image side sectors copy
copy_fails side sectors copy header entries passed h e tests failing =
    sym (table_not_there side sectors header entries (sym tests ∙ failing)) ∙ image_is side sectors copy header entries h e
