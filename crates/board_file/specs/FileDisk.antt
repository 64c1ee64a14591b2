-- What a disk over a file tells.
use Rattle.std.specs.Prelude.{ℕ, [], false}
use Rattle.board_core.specs.Disk.{DiskMedium}

-- a disk of so many sectors, of which so many are pending, that tells no content
abbrev pub untold_disk : ℕ → ℕ → DiskMedium
untold_disk sectors pending = record {
  sectors = sectors;
  pending = pending;
  told = false;
  bytes = [];
  writes = [];
  torn = [];
  sectors_read = 0;
}
