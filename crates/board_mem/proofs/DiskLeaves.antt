-- What a failed call of a disk in memory leaves, sector by sector.
use Rattle.std.proofs.Common.{◌≡◌, ℕ, ◌+◌, ◌*◌, ◌/◌, ◌%◌, ◌<◌, ◌≤◌, arith, List, [], ◌∷◌, ◌++◌, length, get_or, map, take, refl, sym, ap, ◌∙◌, append_assoc, drop, length-take, length-drop}
use Rattle.std.proofs.lemmas.List.{map_more, take_all, length-replicate}
use Rattle.std.proofs.lemmas.List.Elements.{All-append, All-head, All-tail}
use Rattle.std.specs.Prelude.{All}
use Rattle.board_core.specs.declared.torn.Torn.{Torn}
use Rattle.board_core.specs.Torn.{torn_records}
use Rattle.board_core.specs.Flash.{range, spliced}
use Rattle.board_core.specs.Disk.{overlaid, IsSectorOf, AreRecordsOf}
use Rattle.board_core.proofs.TornRange.{spliced_same}
use Rattle.board_core.proofs.Overlays.{overlaid-append, sectors_of-range}
use Rattle.board_mem.specs.declared.fails.Remains.{Remains}
use Rattle.board_mem.specs.declared.fails.Remains.TheVariants.{Old, New, Fill}
use Rattle.board_mem.specs.Fails.{left_by}
use Rattle.board_mem.specs.Remains.{record_left, record_standing}

-- one more sector is torn
pub overlaid_more : (remains : Remains) (writes : List Torn) (i : ℕ) (d : Torn) (old now new : List ℕ) → i < length writes → now ≡ overlaid old (map (record_left remains) (take i writes))
    → new ≡ overlaid now (record_left remains (get_or writes i d) ∷ []) → new ≡ overlaid old (map (record_left remains) (take (i + 1) writes))
overlaid_more remains writes i d old now new here so_far more =
    more ∙ ap (λ (b : List ℕ). overlaid b (record_left remains (get_or writes i d) ∷ [])) so_far
    ∙ sym (overlaid-append old (map (record_left remains) (take i writes)) (record_left remains (get_or writes i d) ∷ []))
    ∙ ap (overlaid old) (sym (map_more (record_left remains) writes i d here))

-- one more sector is noted
pub noted_more : (remains : Remains) (writes : List Torn) (i : ℕ) (d : Torn) (old now new : List Torn) → i < length writes → now ≡ old ++ map (record_left remains) (take i writes)
    → new ≡ now ++ record_left remains (get_or writes i d) ∷ [] → new ≡ old ++ map (record_left remains) (take (i + 1) writes)
noted_more remains writes i d old now new here so_far more =
    more ∙ ap (λ (l : List Torn). l ++ record_left remains (get_or writes i d) ∷ []) so_far
    ∙ append_assoc old (map (record_left remains) (take i writes)) (record_left remains (get_or writes i d) ∷ [])
    ∙ ap (λ (l : List Torn). old ++ l) (sym (map_more (record_left remains) writes i d here))

-- what remains fills a sector
length-remains : (remains : Remains) (size : ℕ) (write : Torn) → IsSectorOf size write → length (left_by remains write.was write.meant) ≡ length write.left
length-remains Old size write sector = sector.was ∙ sym sector.left
length-remains New size write sector = sector.meant ∙ sym sector.left
length-remains (Fill byte) size write sector = length-replicate {A = ℕ} (length write.meant) byte ∙ sector.meant ∙ sym sector.left

-- each write has its record
pub records_of-left : (remains : Remains) (size : ℕ) (writes : List Torn) → All (IsSectorOf size) writes → AreRecordsOf writes (map (record_left remains) writes)
records_of-left remains size [] sectors = tt
records_of-left remains size (write ∷ writes) sectors = (
  record { at = refl; len = refl; was = refl; meant = refl; size = length-remains remains size write (All-head (IsSectorOf size) write writes sectors) },
  records_of-left remains size writes (All-tail (IsSectorOf size) write writes sectors),
)

-- the sectors of one more write are sectors too
pub noted_sectors : (size size' lba : ℕ) (was meant : List ℕ) (old new : List Torn) → size' ≡ size → All (IsSectorOf size) old → length meant % 512 ≡ 0 → lba + length meant / 512 ≤ size / 512
    → new ≡ old ++ torn_records (lba * 512) was meant meant → All (IsSectorOf size') new
noted_sectors size size' lba was meant old new same sectors whole inside noted =
    rw (same, noted) (All-append (IsSectorOf size) old (torn_records (lba * 512) was meant meant) sectors (sectors_of-range size (lba * 512) was meant meant whole (omega arith)))

-- ---- the sectors that a failed read notes

-- one more sector is noted with the bytes that stand there
pub standing_more : (bytes : List ℕ) (writes : List Torn) (i : ℕ) (d : Torn) (old now new : List Torn) → i < length writes → now ≡ old ++ map (record_standing bytes) (take i writes)
    → new ≡ now ++ record_standing bytes (get_or writes i d) ∷ [] → new ≡ old ++ map (record_standing bytes) (take (i + 1) writes)
standing_more bytes writes i d old now new here so_far more =
    more ∙ ap (λ (l : List Torn). l ++ record_standing bytes (get_or writes i d) ∷ []) so_far
    ∙ append_assoc old (map (record_standing bytes) (take i writes)) (record_standing bytes (get_or writes i d) ∷ [])
    ∙ ap (λ (l : List Torn). old ++ l) (sym (map_more (record_standing bytes) writes i d here))

-- the bytes of a sector fill it
length-standing : (bytes : List ℕ) (write : Torn) → IsSectorOf (length bytes) write → length (range bytes write.at 512) ≡ 512
length-standing bytes write sector = omega (arith, sector.inside, length-take 512 (drop write.at bytes), length-drop write.at bytes)

-- they change nothing where they are put over what stands there
pub overlaid-standing : (bytes : List ℕ) (writes : List Torn) → All (IsSectorOf (length bytes)) writes → overlaid bytes (map (record_standing bytes) writes) ≡ bytes
overlaid-standing bytes [] sectors = refl
overlaid-standing bytes (write ∷ writes) sectors =
    let sector = All-head (IsSectorOf (length bytes)) write writes sectors in
    let whole : take write.len (range bytes write.at 512) ≡ range bytes write.at 512 = take_all write.len (range bytes write.at 512) (omega (arith, sector.len, length-standing bytes write sector)) in
    let same : spliced bytes write.at (take write.len (range bytes write.at 512)) ≡ bytes = ap (spliced bytes write.at) whole ∙ sym (spliced_same bytes write.at 512 sector.inside) in
    ap (λ (b : List ℕ). overlaid b (map (record_standing bytes) writes)) same ∙ overlaid-standing bytes writes (All-tail (IsSectorOf (length bytes)) write writes sectors)

-- each write has its record
pub records_of-standing : (bytes : List ℕ) (writes : List Torn) → All (IsSectorOf (length bytes)) writes → AreRecordsOf writes (map (record_standing bytes) writes)
records_of-standing bytes [] sectors = tt
records_of-standing bytes (write ∷ writes) sectors =
    let sector = All-head (IsSectorOf (length bytes)) write writes sectors in (
      record { at = refl; len = refl; was = refl; meant = refl; size = length-standing bytes write sector ∙ sym sector.left },
      records_of-standing bytes writes (All-tail (IsSectorOf (length bytes)) write writes sectors),
    )
