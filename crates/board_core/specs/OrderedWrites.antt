-- What a disk holds after a write, and the sectors of two writes, one after the other.
use Rattle.std.specs.Prelude.{ℕ, ◌*◌, List, ◌++◌}
use Rattle.board_core.specs.declared.torn.Torn.{Torn}
use Rattle.board_core.specs.Flash.{spliced}
use Rattle.board_core.specs.Disk.{DiskMedium, write_records}

-- what a disk holds with these bytes written from a sector
abbrev pub with_range : ℕ → List ℕ → DiskMedium → DiskMedium
with_range lba meant medium = record medium { bytes = spliced medium.bytes (lba * 512) meant }

-- the sectors of two writes, one after the other
abbrev pub records_of_both : ℕ → List ℕ → ℕ → List ℕ → DiskMedium → List Torn
records_of_both first one second two medium = write_records first one medium ++ write_records second two (with_range first one medium)
