-- Writes and the records that tell them.
use Rattle.std.proofs.Common.{◌≡◌, ℕ, ◌+◌, ◌*◌, ◌%◌, ◌≤◌, List, length, true, refl, sym, ap, ◌∙◌}
use Rattle.std.proofs.lemmas.Bool.{false≢true}
use Rattle.std.specs.Prelude.{All}
use Rattle.board_core.specs.declared.counters.Counters.{Counters}
use Rattle.board_core.specs.Counters.{MadeChanges}
use Rattle.board_core.specs.Torn.{torn_records}
use Rattle.board_core.specs.Flash.{range, spliced}
use Rattle.board_core.specs.Disk.{DiskMedium, IsSectorOf, overlaid, write_records}
use Rattle.board_core.proofs.Stops.{moved_weaker}
use Rattle.board_core.proofs.Overlays.{overlaid-range, sectors_of-range}

pub made_within : (a b : Counters) (k n : ℕ) → k ≤ n → MadeChanges a b k true → MadeChanges a b n true
made_within a b k n within made = record {
  later = made.later;
  cause = made.cause;
  no_fault = λ t. absurd (false≢true (sym t));
  more_failed = made.more_failed;
  few_failed = made.few_failed;
  none_failed = made.none_failed;
  stop = moved_weaker a.stop b.stop k n true within made.stop;
  settings = made.settings;
}

-- a write stands in the disk as its records tell
pub over_range : (lba : ℕ) (meant : List ℕ) (old new : DiskMedium) → length meant % 512 ≡ 0 → lba * 512 + length meant ≤ length old.bytes → new.bytes ≡ spliced old.bytes (lba * 512) meant → new.bytes ≡ overlaid old.bytes (write_records lba meant old)
over_range lba meant old new whole inside bytes = bytes ∙ sym (overlaid-range (lba * 512) old.bytes (range old.bytes (lba * 512) (length meant)) meant meant whole refl inside)

-- the records of a write depend only on the bytes before it
pub same_records : (lba : ℕ) (meant : List ℕ) (old old' : DiskMedium) → old.bytes ≡ old'.bytes → write_records lba meant old ≡ write_records lba meant old'
same_records lba meant old old' bytes = ap (λ (b : List ℕ). torn_records (lba * 512) (range b (lba * 512) (length meant)) meant meant) bytes

-- they are those of sectors
pub sectors_of-write : (lba size : ℕ) (meant : List ℕ) (medium : DiskMedium) → length meant % 512 ≡ 0 → lba * 512 + length meant ≤ size → All (IsSectorOf size) (write_records lba meant medium)
sectors_of-write lba size meant medium whole inside = sectors_of-range size (lba * 512) (range medium.bytes (lba * 512) (length meant)) meant meant whole inside
