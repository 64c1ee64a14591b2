-- What each half of a commit leaves: the bytes outside the copies, the records, and the table.
use Rattle.std.proofs.Common.{◌≡◌, ℕ, ◌+◌, ◌-◌, ◌*◌, ◌≤◌, ◌⊎◌, inl, inr, List, [], ◌∷◌, length, Option, Some, None, Result, Ok, IsTrue, refl, sym, ap, ◌∙◌, subst, arith}
use Rattle.std.proofs.lemmas.List.Elements.{All-nil, All-cons, All-head, All-tail, All-weaker}
use Rattle.std.specs.Prelude.{All, OnOk}
use Rattle.board_core.specs.declared.torn.Torn.{Torn}
use Rattle.board_core.specs.Torn.{Logs, Grown, added}
use Rattle.board_core.specs.Flash.{range, spliced}
use Rattle.board_core.specs.Disk.{DiskMedium, DiskState, LeftDiskTorn, Flushed, IsSectorOf, overlaid}
use Rattle.board_core.specs.OrderedWrites.{with_range, records_of_both}
use Rattle.board_core.proofs.Stops.{made_then}
use Rattle.board_core.proofs.Overlays.{length-overlaid}
use Rattle.board_core.proofs.TornRange.{grown_same, added_same}
use Rattle.gpt_core.specs.declared.side.Side.{Side}
use Rattle.gpt_core.specs.declared.side.Side.TheVariants.{Primary, Backup}
use Rattle.gpt_core.specs.Copies.{other_side, first_side, entries_lba, header_lba, copy_at, copy_of, Content, image_of, header_of, with_copy, committed}
use Rattle.gpt_core.specs.Format.{PartitionTable, table_of_image}
use Rattle.gpt_core.specs.Tables.{copy_table, table_in, table_on, BothHold, GivesTable, IsSource, IsFairCopy, IsFairDisk}
use Rattle.gpt_core.specs.Commits.{InOrder, SameButCopies, IsOfCommit, WritesBoth}
use Rattle.gpt_core.specs.Writes.{WritesCopy}
use Rattle.board_core.proofs.OverlaidRanges.{IsApart, range-range, range-overlaid_apart, range-overlaid_agree}
use Rattle.gpt_core.proofs.TornParts.{IsPartOf, TornIn, torn_in-both}
use Rattle.gpt_core.proofs.CopyPlaces.{FitsContent, length-header, copy_inside, copies_apart, fits_copy, entries_stand, header_stands, both_ranges, length-with_copy, copy_put, range-with_copy, other_stays, committed_from, copy_committed}
use Rattle.gpt_core.proofs.TableRows.{IsEither, first_torn, second_torn}

-- ---- one copy

-- a copy was written
pub side_written : (side : Side) (sectors : ℕ) (content : Content) (header : List ℕ) (old new : DiskMedium) → 69 ≤ sectors → FitsContent content → length old.bytes ≡ sectors * 512 → header ≡ header_of side content.primary content.backup
    → Flushed (with_range (header_lba side sectors) header (with_range (entries_lba side sectors) content.entries old)) new → new.bytes ≡ with_copy side sectors content old.bytes
side_written side sectors content header old new enough fits size is flushed =
    flushed.bytes ∙ ap (spliced (spliced old.bytes (entries_lba side sectors * 512) content.entries) (header_lba side sectors * 512)) is ∙ both_ranges side sectors content old.bytes enough fits size

-- a copy was torn; `bytes` are those before the whole commit
pub side_torn : (side : Side) (sectors : ℕ) (content : Content) (header : List ℕ) (bytes : List ℕ) (old new : DiskMedium) → 69 ≤ sectors → FitsContent content → length bytes ≡ sectors * 512 → header ≡ header_of side content.primary content.backup
    → LeftDiskTorn [] (records_of_both (entries_lba side sectors) content.entries (header_lba side sectors) header old) old new → TornIn (sectors * 512) (copy_at side sectors) 16896 (committed sectors content bytes) old new
side_torn side sectors content header bytes old new enough fits size is left_torn =
    let target = committed sectors content bytes in
    let places = fits_copy side sectors enough in
    let stands : copy_of side sectors target ≡ image_of side content = copy_committed side sectors content bytes enough fits size in
    let long : length header ≡ 512 = ap length is ∙ length-header side content fits in
    let header_is : range target (header_lba side sectors * 512) (length header) ≡ header =
    subst (λ (h : List ℕ). range target (header_lba side sectors * 512) (length h) ≡ h) (sym is) (header_stands side sectors content target enough fits stands) in
    torn_in-both (sectors * 512) (copy_at side sectors) 16896 target (entries_lba side sectors) content.entries (header_lba side sectors) header old new (copy_inside side sectors enough) (omega (arith, fits.entries)) (omega arith)
    places.entries_from (omega (arith, fits.entries, places.entries_to)) places.header_from (omega (arith, places.header_to)) (entries_stand side sectors content target enough fits stands) header_is left_torn

part_apart : (at lo n : ℕ) (target : List ℕ) (torn : Torn) → (at + 16896 ≤ lo) ⊎ (lo + n ≤ at) → IsPartOf at 16896 target torn → IsApart lo n torn
part_apart at lo n target torn (inl past) part = inl (omega (arith, part.to))
part_apart at lo n target torn (inr short) part = inr (omega (arith, part.from))

-- a range that the copy does not meet stays
pub range-torn : (size at : ℕ) (target : List ℕ) (old new : DiskMedium) (lo n : ℕ) → length old.bytes ≡ size → lo + n ≤ size → (at + 16896 ≤ lo) ⊎ (lo + n ≤ at) → TornIn size at 16896 target old new → range new.bytes lo n ≡ range old.bytes lo n
range-torn size at target old new lo n whole inside apart torn =
    ap (λ (b : List ℕ). range b lo n) torn.bytes
    ∙ range-overlaid_apart size old.bytes (added old.torn new.torn) lo n whole inside torn.sectors
    (All-weaker (IsPartOf at 16896 target) (IsApart lo n) (λ t part. part_apart at lo n target t apart part) (added old.torn new.torn) torn.parts)

-- the records are those of the commit
place_of : (side : Side) (sectors : ℕ) (target : List ℕ) (torn : Torn) → IsSectorOf (sectors * 512) torn → IsPartOf (copy_at side sectors) 16896 target torn → IsOfCommit sectors target torn
place_of Primary sectors target torn sector part = record { sector = sector; place = inl (part.from, part.to); meant = part.meant }
place_of Backup sectors target torn sector part = record { sector = sector; place = inr (part.from, part.to); meant = part.meant }

pub of_commit : (side : Side) (sectors : ℕ) (target : List ℕ) (records : List Torn) → All (IsSectorOf (sectors * 512)) records → All (IsPartOf (copy_at side sectors) 16896 target) records → All (IsOfCommit sectors target) records
of_commit side sectors target [] sectors_of parts = All-nil (IsOfCommit sectors target)
of_commit side sectors target (torn ∷ rest) sectors_of parts =
    All-cons (IsOfCommit sectors target) torn rest
    (place_of side sectors target torn (All-head (IsSectorOf (sectors * 512)) torn rest sectors_of) (All-head (IsPartOf (copy_at side sectors) 16896 target) torn rest parts))
    (of_commit side sectors target rest (All-tail (IsSectorOf (sectors * 512)) torn rest sectors_of) (All-tail (IsPartOf (copy_at side sectors) 16896 target) torn rest parts))

-- ---- the bytes outside both copies

before_apart : (side : Side) (sectors : ℕ) → 69 ≤ sectors → (copy_at side sectors + 16896 ≤ 0) ⊎ (0 + 512 ≤ copy_at side sectors)
before_apart Primary sectors enough = inr (omega arith)
before_apart Backup sectors enough = inr (omega arith)

between_apart : (side : Side) (sectors : ℕ) → 69 ≤ sectors → (copy_at side sectors + 16896 ≤ 17408) ⊎ (17408 + (sectors - 67) * 512 ≤ copy_at side sectors)
between_apart Primary sectors enough = inl (omega arith)
between_apart Backup sectors enough = inr (omega arith)

pub keeps_then : (sectors : ℕ) (old mid new : List ℕ) → SameButCopies sectors old mid → SameButCopies sectors mid new → SameButCopies sectors old new
keeps_then sectors old mid new one two = record { size = two.size ∙ one.size; before = two.before ∙ one.before; between = two.between ∙ one.between }

pub keeps_written : (side : Side) (sectors : ℕ) (content : Content) (old new : List ℕ) → 69 ≤ sectors → FitsContent content → length old ≡ sectors * 512 → new ≡ with_copy side sectors content old → SameButCopies sectors old new
keeps_written side sectors content old new enough fits size is =
    subst (SameButCopies sectors old) (sym is) (record {
      size = length-with_copy side sectors content old enough fits size ∙ sym size;
      before = range-with_copy side sectors content old 0 512 enough fits size (omega arith) (before_apart side sectors enough);
      between = range-with_copy side sectors content old 17408 ((sectors - 67) * 512) enough fits size (omega arith) (between_apart side sectors enough);
    })

pub keeps_torn : (side : Side) (sectors : ℕ) (target : List ℕ) (old new : DiskMedium) → 69 ≤ sectors → length old.bytes ≡ sectors * 512 → TornIn (sectors * 512) (copy_at side sectors) 16896 target old new → SameButCopies sectors old.bytes new.bytes
keeps_torn side sectors target old new enough size torn = record {
  size = ap length torn.bytes ∙ length-overlaid (sectors * 512) old.bytes (added old.torn new.torn) size torn.sectors ∙ sym size;
  before = range-torn (sectors * 512) (copy_at side sectors) target old new 0 512 size (omega arith) (before_apart side sectors enough) torn;
  between = range-torn (sectors * 512) (copy_at side sectors) target old new 17408 ((sectors - 67) * 512) size (omega arith) (between_apart side sectors enough) torn;
}

-- ---- both copies

-- What a commit that failed leaves, whichever copy was torn.
pub record CommitLeft (content : Content) (old new : DiskMedium) : Type 0 where
  pub frame : SameButCopies old.sectors old.bytes new.bytes
  pub kept : Grown old.torn new.torn
  pub noted : All (IsOfCommit old.sectors (committed old.sectors content old.bytes)) (added old.torn new.torn)

-- the first copy was torn
pub left_first : (side : Side) (content : Content) (old new : DiskMedium) → 69 ≤ old.sectors → length old.bytes ≡ old.sectors * 512
    → TornIn (old.sectors * 512) (copy_at side old.sectors) 16896 (committed old.sectors content old.bytes) old new → CommitLeft content old new
left_first side content old new enough size torn = record {
  frame = keeps_torn side old.sectors (committed old.sectors content old.bytes) old new enough size torn;
  kept = torn.kept;
  noted = of_commit side old.sectors (committed old.sectors content old.bytes) (added old.torn new.torn) torn.sectors torn.parts;
}

-- the first copy was written, and the second was torn
pub left_second : (side second : Side) (content : Content) (old mid new : DiskMedium) → 69 ≤ old.sectors → FitsContent content → length old.bytes ≡ old.sectors * 512 → mid.bytes ≡ with_copy side old.sectors content old.bytes → mid.torn ≡ old.torn
    → TornIn (old.sectors * 512) (copy_at second old.sectors) 16896 (committed old.sectors content old.bytes) mid new → CommitLeft content old new
left_second side second content old mid new enough fits size is same torn =
    let whole : length mid.bytes ≡ old.sectors * 512 = ap length is ∙ length-with_copy side old.sectors content old.bytes enough fits size in
    record {
      frame = keeps_then old.sectors old.bytes mid.bytes new.bytes (keeps_written side old.sectors content old.bytes mid.bytes enough fits size is)
          (keeps_torn second old.sectors (committed old.sectors content old.bytes) mid new enough whole torn);
      kept = subst (λ (t : Logs). Grown t new.torn) same torn.kept;
      noted = subst (λ (t : Logs). All (IsOfCommit old.sectors (committed old.sectors content old.bytes)) (added t new.torn)) same
          (of_commit second old.sectors (committed old.sectors content old.bytes) (added mid.torn new.torn) torn.sectors torn.parts);
    }

-- both were written
pub left_none : (side second : Side) (content : Content) (old mid new : DiskMedium) → second ≡ other_side side → 69 ≤ old.sectors → FitsContent content → length old.bytes ≡ old.sectors * 512 → mid.bytes ≡ with_copy side old.sectors content old.bytes → mid.torn ≡ old.torn
    → new.bytes ≡ with_copy second old.sectors content mid.bytes → new.torn ≡ mid.torn → CommitLeft content old new
left_none side second content old mid new other enough fits size is same is' same' =
    let whole : length mid.bytes ≡ old.sectors * 512 = ap length is ∙ length-with_copy side old.sectors content old.bytes enough fits size in
    record {
      frame = keeps_then old.sectors old.bytes mid.bytes new.bytes (keeps_written side old.sectors content old.bytes mid.bytes enough fits size is) (keeps_written second old.sectors content mid.bytes new.bytes enough fits whole is');
      kept = subst (Grown old.torn) (sym (same' ∙ same)) (grown_same old.torn);
      noted = subst (All (IsOfCommit old.sectors (committed old.sectors content old.bytes))) (sym (ap (added old.torn) (same' ∙ same) ∙ added_same old.torn)) (All-nil (IsOfCommit old.sectors (committed old.sectors content old.bytes)));
    }

-- the first half is done, and this is what both did
pub both_tried : {E E' : Type 0} (content : Content) (first second first' second' : ℕ) (one two one' two' : List ℕ) (old mid new : DiskState) (done : Unit) (result : Result Unit E')
    → WritesCopy {E = E} first one second two old mid (Ok done) → WritesCopy first' one' second' two' mid new result → (IsTrue old.medium.told → CommitLeft content old.medium new.medium)
    → (IsTrue old.medium.told → OnOk result (Flushed (record old.medium { bytes = committed old.medium.sectors content old.medium.bytes }) new.medium)) → WritesBoth content old new result
both_tried content first second first' second' one two one' two' old mid new done result half rest left ok = record {
  counters = made_then _ _ _ 3 3 _ half.counters rest.counters;
  broke = λ failed. omega (arith, rest.broke failed, half.counters.none_failed refl);
  sectors = rest.sectors ∙ half.sectors;
  told = rest.told ∙ half.told;
  sectors_read = rest.sectors_read ∙ half.sectors_read;
  none_pending = rest.none_pending;
  frame = λ told. (left told).frame;
  ok = ok;
  kept = λ told. (left told).kept;
  noted = λ told. (left told).noted;
}

pub bytes_both : (side second : Side) (sectors : ℕ) (content : Content) (old mid new : List ℕ) → second ≡ other_side side → 69 ≤ sectors → FitsContent content → length old ≡ sectors * 512 → mid ≡ with_copy side sectors content old
    → new ≡ with_copy second sectors content mid → new ≡ committed sectors content old
bytes_both side second sectors content old mid new other enough fits size is is' =
    is' ∙ ap (with_copy second sectors content) is ∙ ap (λ (s : Side). with_copy s sectors content (with_copy side sectors content old)) other ∙ committed_from side sectors content old enough fits size

-- ---- the order

apart_of : (side : Side) (sectors : ℕ) → 69 ≤ sectors → (copy_at (other_side side) sectors + 16896 ≤ copy_at side sectors) ⊎ (copy_at side sectors + 16896 ≤ copy_at (other_side side) sectors)
apart_of Primary sectors enough = inr (omega arith)
apart_of Backup sectors enough = inl (omega arith)

-- the first copy was torn, and the other one stays
pub first_stays : (side : Side) (sectors : ℕ) (target : List ℕ) (old new : DiskMedium) → 69 ≤ sectors → length old.bytes ≡ sectors * 512 → TornIn (sectors * 512) (copy_at side sectors) 16896 target old new
    → copy_of (other_side side) sectors new.bytes ≡ copy_of (other_side side) sectors old.bytes
first_stays side sectors target old new enough size torn =
    range-torn (sectors * 512) (copy_at side sectors) target old new (copy_at (other_side side) sectors) 16896 size (copy_inside (other_side side) sectors enough) (copies_apart side sectors enough) torn

-- the second copy was torn, and the first one stands
pub second_stays : (side : Side) (sectors : ℕ) (content : Content) (target bytes : List ℕ) (mid new : DiskMedium) → 69 ≤ sectors → FitsContent content → length bytes ≡ sectors * 512 → mid.bytes ≡ with_copy side sectors content bytes
    → TornIn (sectors * 512) (copy_at (other_side side) sectors) 16896 target mid new → copy_of side sectors new.bytes ≡ image_of side content
second_stays side sectors content target bytes mid new enough fits size is torn =
    let whole : length mid.bytes ≡ sectors * 512 = ap length is ∙ length-with_copy side sectors content bytes enough fits size in
    range-torn (sectors * 512) (copy_at (other_side side) sectors) target mid new (copy_at side sectors) 16896 whole (copy_inside side sectors enough) (apart_of side sectors enough) torn
    ∙ ap (copy_of side sectors) is ∙ copy_put side sectors content bytes enough fits size

pub order_first : (source : Option Side) (side : Side) (content : Content) (target : List ℕ) (old new : DiskMedium) → 69 ≤ old.sectors → length old.bytes ≡ old.sectors * 512 → side ≡ first_side source
    → TornIn (old.sectors * 512) (copy_at side old.sectors) 16896 target old new → InOrder source content old new
order_first source side content target old new enough size first torn =
    inl (subst (λ (p : Side). copy_of (other_side p) old.sectors new.bytes ≡ copy_of (other_side p) old.sectors old.bytes) first (first_stays side old.sectors target old new enough size torn))

pub order_second : (source : Option Side) (side second : Side) (content : Content) (target : List ℕ) (old mid new : DiskMedium) → 69 ≤ old.sectors → FitsContent content → length old.bytes ≡ old.sectors * 512 → side ≡ first_side source → second ≡ other_side side
    → mid.bytes ≡ with_copy side old.sectors content old.bytes → TornIn (old.sectors * 512) (copy_at second old.sectors) 16896 target mid new → InOrder source content old new
order_second source side second content target old mid new enough fits size first other is torn =
    let torn' = subst (λ (p : Side). TornIn (old.sectors * 512) (copy_at p old.sectors) 16896 target mid new) other torn in
    inr (subst (λ (p : Side). copy_of p old.sectors new.bytes ≡ image_of p content) first (second_stays side old.sectors content target old.bytes mid new enough fits size is torn'))

-- ---- the table

-- the table of what was written
pub table_written : (table : PartitionTable) (side : Side) (sectors : ℕ) (content : Content) (bytes : List ℕ) → GivesTable content table sectors → copy_of side sectors bytes ≡ image_of side content → copy_table side sectors bytes ≡ Some table
table_written table Primary sectors content bytes gives stands = ap (table_of_image Primary sectors) stands ∙ gives.primary
table_written table Backup sectors content bytes gives stands = ap (table_of_image Backup sectors) stands ∙ gives.backup

-- both copies stand, and give the table
pub both_made : (table : PartitionTable) (sectors : ℕ) (content : Content) (old new : List ℕ) → 69 ≤ sectors → FitsContent content → length old ≡ sectors * 512
    → GivesTable content table sectors → new ≡ committed sectors content old → BothHold table sectors new
both_made table sectors content old new enough fits size gives is = record {
  primary = table_written table Primary sectors content new gives (ap (copy_of Primary sectors) is ∙ copy_committed Primary sectors content old enough fits size);
  backup = table_written table Backup sectors content new gives (ap (copy_of Backup sectors) is ∙ copy_committed Backup sectors content old enough fits size);
}

fair_of : (table : PartitionTable) (side : Side) (old new : DiskMedium) → IsFairDisk table old new → IsFairCopy table side old.sectors old.bytes (overlaid old.bytes (added old.torn new.torn))
fair_of table Primary old new fair = fair.primary
fair_of table Backup old new fair = fair.backup

-- what is fair of a copy depends on its bytes alone
fair_from : (table : PartitionTable) (side : Side) (sectors : ℕ) (old left left' : List ℕ) → copy_of side sectors left ≡ copy_of side sectors left' → IsFairCopy table side sectors old left → IsFairCopy table side sectors old left'
fair_from table side sectors old left left' same fair =
    subst (λ (copy : List ℕ). (table_of_image side sectors copy ≡ None) ⊎ ((copy ≡ copy_of side sectors old) ⊎ (table_of_image side sectors copy ≡ Some table))) same fair

-- the number of sectors stays
either_in : (table : PartitionTable) (old new : DiskMedium) → new.sectors ≡ old.sectors → IsEither table old.sectors old.bytes new.bytes → (table_on new ≡ table_on old) ⊎ (table_on new ≡ Some table)
either_in table old new sectors (inl same) = inl (ap (λ (n : ℕ). table_in n new.bytes) sectors ∙ same)
either_in table old new sectors (inr made) = inr (ap (λ (n : ℕ). table_in n new.bytes) sectors ∙ made)

-- the first copy was torn
pub table_first : (source : Option Side) (table : PartitionTable) (side : Side) (target : List ℕ) (old new : DiskMedium) → 69 ≤ old.sectors → length old.bytes ≡ old.sectors * 512 → new.sectors ≡ old.sectors → side ≡ first_side source
    → TornIn (old.sectors * 512) (copy_at side old.sectors) 16896 target old new → IsSource source old.sectors old.bytes → IsFairDisk table old new → (table_on new ≡ table_on old) ⊎ (table_on new ≡ Some table)
table_first source table side target old new enough size sectors first torn is_source fair =
    let n = old.sectors in
    let s = first_side source in
    let torn' = subst (λ (p : Side). TornIn (n * 512) (copy_at p n) 16896 target old new) first torn in
    let stays = first_stays s n target old new enough size torn' in
    either_in table old new sectors
    (first_torn source table n old.bytes new.bytes is_source stays
    (fair_from table s n old.bytes (overlaid old.bytes (added old.torn new.torn)) new.bytes (ap (copy_of s n) (sym torn.bytes)) (fair_of table s old new fair)))

-- the first copy was written, and the second was torn
pub table_second : (source : Option Side) (table : PartitionTable) (side second : Side) (content : Content) (target : List ℕ) (old mid new : DiskMedium) → 69 ≤ old.sectors → FitsContent content → length old.bytes ≡ old.sectors * 512
    → new.sectors ≡ old.sectors → side ≡ first_side source → second ≡ other_side side → GivesTable content table old.sectors → mid.bytes ≡ with_copy side old.sectors content old.bytes → mid.torn ≡ old.torn
    → TornIn (old.sectors * 512) (copy_at second old.sectors) 16896 target mid new → IsSource source old.sectors old.bytes → IsFairDisk table old new → (table_on new ≡ table_on old) ⊎ (table_on new ≡ Some table)
table_second source table side second content target old mid new enough fits size sectors first other gives is same torn is_source fair =
    let n = old.sectors in
    let s = first_side source in
    let o = other_side s in
    let is' : mid.bytes ≡ with_copy s n content old.bytes = is ∙ ap (λ (p : Side). with_copy p n content old.bytes) first in
    let is_other : second ≡ o = other ∙ ap other_side first in
    let torn' = subst (λ (p : Side). TornIn (n * 512) (copy_at p n) 16896 target mid new) is_other torn in
    let whole : length mid.bytes ≡ n * 512 = ap length is' ∙ length-with_copy s n content old.bytes enough fits size in
    let stays = second_stays s n content target old.bytes mid new enough fits size is' torn' in
    let before : copy_of o n mid.bytes ≡ copy_of o n old.bytes = ap (copy_of o n) is' ∙ other_stays s n content old.bytes enough fits size in
    let records = added mid.torn new.torn in
    let now : copy_of o n (overlaid old.bytes (added old.torn new.torn)) ≡ copy_of o n new.bytes =
    ap (λ (t : Logs). copy_of o n (overlaid old.bytes (added t new.torn))) (sym same)
    ∙ range-overlaid_agree (n * 512) old.bytes mid.bytes records (copy_at o n) 16896 size whole (copy_inside o n enough) torn.sectors (sym before)
    ∙ ap (copy_of o n) (sym torn.bytes) in
    either_in table old new sectors
    (second_torn source table n old.bytes new.bytes is_source (table_written table s n content new.bytes gives stays)
    (fair_from table o n old.bytes (overlaid old.bytes (added old.torn new.torn)) new.bytes now (fair_of table o old new fair)))

-- ---- for callers

-- a range between the copies, as one of a partition, stays
pub keeps_range : (sectors : ℕ) (old new : List ℕ) (lo n : ℕ) → SameButCopies sectors old new → 17408 ≤ lo → lo + n ≤ 17408 + (sectors - 67) * 512 → range new lo n ≡ range old lo n
keeps_range sectors old new lo n keeps from to =
    let place : 17408 + (lo - 17408) ≡ lo = omega arith in
    let within : lo - 17408 + n ≤ (sectors - 67) * 512 = omega arith in
    ap (λ (k : ℕ). range new k n) (sym place) ∙ sym (range-range new 17408 ((sectors - 67) * 512) (lo - 17408) n within)
    ∙ ap (λ (l : List ℕ). range l (lo - 17408) n) keeps.between ∙ range-range old 17408 ((sectors - 67) * 512) (lo - 17408) n within ∙ ap (λ (k : ℕ). range old k n) place

-- a copy that no new record meets is fair
pub fair_unmet : (table : PartitionTable) (side : Side) (sectors : ℕ) (old : List ℕ) (records : List Torn) → 69 ≤ sectors → length old ≡ sectors * 512 → All (IsSectorOf (sectors * 512)) records
    → All (IsApart (copy_at side sectors) 16896) records → IsFairCopy table side sectors old (overlaid old records)
fair_unmet table side sectors old records enough size sectors_of apart =
    inr (inl (range-overlaid_apart (sectors * 512) old records (copy_at side sectors) 16896 size (copy_inside side sectors enough) sectors_of apart))
