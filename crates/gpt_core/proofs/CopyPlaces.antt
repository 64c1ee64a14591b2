-- The places of the copies, and what stands in them after they were put in.
use Rattle.std.proofs.Common.{◌≡◌, ℕ, ◌+◌, ◌-◌, ◌*◌, ◌≤◌, ◌⊎◌, inl, inr, List, ◌++◌, length, take, drop, refl, sym, ap, ◌∙◌, arith, length-append}
use Rattle.std.proofs.lemmas.List.{take-take, drop-take, drop-drop, take_at, drop_at}
use Rattle.board_core.specs.Flash.{range, spliced}
use Rattle.board_core.proofs.Overlays.{length-spliced, spliced_then}
use Rattle.gpt_core.specs.declared.side.Side.{Side}
use Rattle.gpt_core.specs.declared.side.Side.TheVariants.{Primary, Backup}
use Rattle.gpt_core.specs.Copies.{other_side, entries_lba, header_lba, copy_at, copy_of, Content, image_of, header_of, with_copy, committed}
use Rattle.board_core.proofs.OverlaidRanges.{range-spliced_same, range-spliced_apart, spliced_swap}

-- The sizes of what is to be written.
pub record FitsContent (content : Content) : Type 0 where
  pub entries : length content.entries ≡ 16384
  pub primary : length content.primary ≡ 512
  pub backup : length content.backup ≡ 512

pub length-header : (side : Side) (content : Content) → FitsContent content → length (header_of side content.primary content.backup) ≡ 512
length-header Primary content fits = fits.primary
length-header Backup content fits = fits.backup

pub length-image : (side : Side) (content : Content) → FitsContent content → length (image_of side content) ≡ 16896
length-image Primary content fits = omega (arith, fits.primary, fits.entries, length-append content.primary content.entries)
length-image Backup content fits = omega (arith, fits.backup, fits.entries, length-append content.entries content.backup)

-- ---- places

pub copy_inside : (side : Side) (sectors : ℕ) → 69 ≤ sectors → copy_at side sectors + 16896 ≤ sectors * 512
copy_inside Primary sectors enough = omega arith
copy_inside Backup sectors enough = omega arith

pub copies_apart : (side : Side) (sectors : ℕ) → 69 ≤ sectors → (copy_at side sectors + 16896 ≤ copy_at (other_side side) sectors) ⊎ (copy_at (other_side side) sectors + 16896 ≤ copy_at side sectors)
copies_apart Primary sectors enough = inl (omega arith)
copies_apart Backup sectors enough = inr (omega arith)

-- The two ranges of a copy, as numbers.
pub record FitsCopy (side : Side) (sectors : ℕ) : Type 0 where
  pub entries_from : copy_at side sectors ≤ entries_lba side sectors * 512
  pub entries_to : entries_lba side sectors * 512 + 16384 ≤ copy_at side sectors + 16896
  pub header_from : copy_at side sectors ≤ header_lba side sectors * 512
  pub header_to : header_lba side sectors * 512 + 512 ≤ copy_at side sectors + 16896

pub fits_copy : (side : Side) (sectors : ℕ) → 69 ≤ sectors → FitsCopy side sectors
fits_copy Primary sectors enough = record { entries_from = omega arith; entries_to = omega arith; header_from = omega arith; header_to = omega arith }
fits_copy Backup sectors enough = record { entries_from = omega arith; entries_to = omega arith; header_from = omega arith; header_to = omega arith }

-- ---- ranges of a range

range_front : (bytes : List ℕ) (at : ℕ) (one two : List ℕ) → range bytes at (length (one ++ two)) ≡ one ++ two → range bytes at (length one) ≡ one
range_front bytes at one two is =
    let more : length one ≤ length (one ++ two) = omega (arith, length-append one two) in
    sym (take-take (length one) (length (one ++ two)) (drop at bytes) more) ∙ ap (take (length one)) is ∙ take_at one two (length one) refl

range_rest : (bytes : List ℕ) (at : ℕ) (one two : List ℕ) → range bytes at (length (one ++ two)) ≡ one ++ two → range bytes (at + length one) (length two) ≡ two
range_rest bytes at one two is =
    let split : length one + length two ≡ length (one ++ two) = sym (length-append one two) in
    ap (take (length two)) (sym (drop-drop (length one) at bytes)) ∙ sym (drop-take (length one) (length two) (drop at bytes)) ∙ ap (λ (k : ℕ). drop (length one) (take k (drop at bytes))) split
    ∙ ap (drop (length one)) is ∙ drop_at one two (length one) refl

-- where a copy stands, its entries and its header do
pub entries_stand : (side : Side) (sectors : ℕ) (content : Content) (bytes : List ℕ) → 69 ≤ sectors → FitsContent content → copy_of side sectors bytes ≡ image_of side content → range bytes (entries_lba side sectors * 512) (length content.entries) ≡ content.entries
entries_stand Primary sectors content bytes enough fits stands =
    let place : 512 + length content.primary ≡ 1024 = omega (arith, fits.primary) in
    ap (λ (k : ℕ). range bytes k (length content.entries)) (sym place) ∙ range_rest bytes 512 content.primary content.entries (ap (range bytes 512) (length-image Primary content fits) ∙ stands)
entries_stand Backup sectors content bytes enough fits stands =
    range_front bytes ((sectors - 33) * 512) content.entries content.backup (ap (range bytes ((sectors - 33) * 512)) (length-image Backup content fits) ∙ stands)

pub header_stands : (side : Side) (sectors : ℕ) (content : Content) (bytes : List ℕ) → 69 ≤ sectors → FitsContent content → copy_of side sectors bytes ≡ image_of side content
    → range bytes (header_lba side sectors * 512) (length (header_of side content.primary content.backup)) ≡ header_of side content.primary content.backup
header_stands Primary sectors content bytes enough fits stands =
    range_front bytes 512 content.primary content.entries (ap (range bytes 512) (length-image Primary content fits) ∙ stands)
header_stands Backup sectors content bytes enough fits stands =
    let place : (sectors - 33) * 512 + length content.entries ≡ (sectors - 1) * 512 = omega (arith, fits.entries) in
    ap (λ (k : ℕ). range bytes k (length content.backup)) (sym place) ∙ range_rest bytes ((sectors - 33) * 512) content.entries content.backup (ap (range bytes ((sectors - 33) * 512)) (length-image Backup content fits) ∙ stands)

-- ---- copies put in

-- the entries and then the header are the copy
pub both_ranges : (side : Side) (sectors : ℕ) (content : Content) (bytes : List ℕ) → 69 ≤ sectors → FitsContent content → length bytes ≡ sectors * 512
    → spliced (spliced bytes (entries_lba side sectors * 512) content.entries) (header_lba side sectors * 512) (header_of side content.primary content.backup) ≡ with_copy side sectors content bytes
both_ranges Primary sectors content bytes enough fits size =
    let place : 512 + length content.primary ≡ 1024 = omega (arith, fits.primary) in
    spliced_swap bytes 1024 content.entries 512 content.primary (omega (arith, fits.entries)) (omega (arith, fits.primary)) (inr (omega (arith, fits.primary)))
    ∙ ap (λ (k : ℕ). spliced (spliced bytes 512 content.primary) k content.entries) (sym place)
    ∙ spliced_then bytes 512 content.primary content.entries (omega (arith, fits.primary))
both_ranges Backup sectors content bytes enough fits size =
    let at = (sectors - 33) * 512 in
    let place : at + length content.entries ≡ (sectors - 1) * 512 = omega (arith, fits.entries) in
    ap (λ (k : ℕ). spliced (spliced bytes at content.entries) k content.backup) (sym place) ∙ spliced_then bytes at content.entries content.backup (omega (arith, fits.entries))

pub length-with_copy : (side : Side) (sectors : ℕ) (content : Content) (bytes : List ℕ) → 69 ≤ sectors → FitsContent content → length bytes ≡ sectors * 512 → length (with_copy side sectors content bytes) ≡ sectors * 512
length-with_copy side sectors content bytes enough fits size =
    length-spliced bytes (copy_at side sectors) (image_of side content) (omega (arith, copy_inside side sectors enough, length-image side content fits)) ∙ size

-- the copy stands
pub copy_put : (side : Side) (sectors : ℕ) (content : Content) (bytes : List ℕ) → 69 ≤ sectors → FitsContent content → length bytes ≡ sectors * 512 → copy_of side sectors (with_copy side sectors content bytes) ≡ image_of side content
copy_put side sectors content bytes enough fits size =
    let long : length (image_of side content) ≡ 16896 = length-image side content fits in
    ap (range (with_copy side sectors content bytes) (copy_at side sectors)) (sym long)
    ∙ range-spliced_same bytes (copy_at side sectors) (image_of side content) (omega (arith, copy_inside side sectors enough))

-- a range that a copy does not meet stays
pub range-with_copy : (side : Side) (sectors : ℕ) (content : Content) (bytes : List ℕ) (lo n : ℕ) → 69 ≤ sectors → FitsContent content → length bytes ≡ sectors * 512 → lo + n ≤ sectors * 512 → (copy_at side sectors + 16896 ≤ lo) ⊎ (lo + n ≤ copy_at side sectors)
    → range (with_copy side sectors content bytes) lo n ≡ range bytes lo n
range-with_copy side sectors content bytes lo n enough fits size inside (inl past) =
    range-spliced_apart bytes (copy_at side sectors) (image_of side content) lo n (omega (arith, copy_inside side sectors enough, length-image side content fits)) (omega arith) (inl (omega (arith, length-image side content fits)))
range-with_copy side sectors content bytes lo n enough fits size inside (inr short) =
    range-spliced_apart bytes (copy_at side sectors) (image_of side content) lo n (omega (arith, copy_inside side sectors enough, length-image side content fits)) (omega arith) (inr short)

apart_swap : (a b : ℕ) → (a + 16896 ≤ b) ⊎ (b + 16896 ≤ a) → (b + 16896 ≤ a) ⊎ (a + 16896 ≤ b)
apart_swap a b (inl low) = inr low
apart_swap a b (inr high) = inl high

-- the other copy stays
pub other_stays : (side : Side) (sectors : ℕ) (content : Content) (bytes : List ℕ) → 69 ≤ sectors → FitsContent content → length bytes ≡ sectors * 512 → copy_of (other_side side) sectors (with_copy side sectors content bytes) ≡ copy_of (other_side side) sectors bytes
other_stays side sectors content bytes enough fits size =
    range-with_copy side sectors content bytes (copy_at (other_side side) sectors) 16896 enough fits size (copy_inside (other_side side) sectors enough) (copies_apart side sectors enough)

-- in either order
pub committed_from : (side : Side) (sectors : ℕ) (content : Content) (bytes : List ℕ) → 69 ≤ sectors → FitsContent content → length bytes ≡ sectors * 512
    → with_copy (other_side side) sectors content (with_copy side sectors content bytes) ≡ committed sectors content bytes
committed_from Primary sectors content bytes enough fits size = refl
committed_from Backup sectors content bytes enough fits size =
    spliced_swap bytes ((sectors - 33) * 512) (image_of Backup content) 512 (image_of Primary content) (omega (arith, length-image Backup content fits)) (omega (arith, length-image Primary content fits)) (inr (omega (arith, length-image Primary content fits)))

-- both copies stand
pub copy_committed : (side : Side) (sectors : ℕ) (content : Content) (bytes : List ℕ) → 69 ≤ sectors → FitsContent content → length bytes ≡ sectors * 512 → copy_of side sectors (committed sectors content bytes) ≡ image_of side content
copy_committed Backup sectors content bytes enough fits size = copy_put Backup sectors content (with_copy Primary sectors content bytes) enough fits (length-with_copy Primary sectors content bytes enough fits size)
copy_committed Primary sectors content bytes enough fits size =
    other_stays Backup sectors content (with_copy Primary sectors content bytes) enough fits (length-with_copy Primary sectors content bytes enough fits size) ∙ copy_put Primary sectors content bytes enough fits size
