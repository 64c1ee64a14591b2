-- What is left of a drive by a call that writes an image of 256 pieces of 64 sectors, each with one write and one flush.
use Rattle.std.specs.Prelude.{◌≡◌, ℕ, zero, suc, ◌*◌, ◌<◌, List, [], Bool, false, IsTrue}
use Rattle.board_core.specs.Counters.{MadeChanges}
use Rattle.board_core.specs.Disk.{DiskMedium, DiskState, LeftDiskTorn, write_records}
use Rattle.board_core.specs.Flash.{range, spliced}
use Rattle.make_core.specs.Writing.{begun}

-- the disk with these bytes in place of its own
abbrev pub with_bytes : List ℕ → DiskMedium → DiskMedium
with_bytes bytes medium = record medium { bytes = bytes }

-- The piece from a sector was written and flushed, or the disk failed.
pub record WritesPiece (lba : ℕ) (meant : List ℕ) (old new : DiskState) (failed : Bool) : Type 0 where
  pub counters : MadeChanges old.counters new.counters 2 failed
  pub sectors : new.medium.sectors ≡ old.medium.sectors
  pub told : new.medium.told ≡ old.medium.told
  pub sectors_read : new.medium.sectors_read ≡ old.medium.sectors_read
  pub none_pending : new.medium.pending ≡ 0
  pub bytes : IsTrue old.medium.told → failed ≡ false → new.medium.bytes ≡ spliced old.medium.bytes (lba * 512) meant
  pub torn : IsTrue old.medium.told → failed ≡ false → new.medium.torn ≡ old.medium.torn
  pub err : IsTrue old.medium.told → IsTrue failed → LeftDiskTorn [] (write_records lba meant old.medium) old.medium new.medium

-- Which piece failed, and what it left.
pub record StoppedAt (image : List ℕ) (old new : DiskMedium) : Type 0 where
  pub piece : ℕ
  pub among : piece < 256
  pub left : LeftDiskTorn [] (write_records (piece * 64) (range image (piece * 32768) 32768)
      (with_bytes (begun (piece * 32768) image old.bytes) old))
      (with_bytes (begun (piece * 32768) image old.bytes) old) new

-- The drive was made this image, or it failed.
pub record WritesDrive (image : List ℕ) (old new : DiskState) (failed : Bool) : Type 0 where
  -- two changing calls for each piece
  pub counters : MadeChanges old.counters new.counters 512 failed
  pub sectors : new.medium.sectors ≡ old.medium.sectors
  pub told : new.medium.told ≡ old.medium.told
  pub sectors_read : new.medium.sectors_read ≡ old.medium.sectors_read
  -- nothing is pending, whatever the answer
  pub none_pending : new.medium.pending ≡ 0
  -- the bytes are the image's
  pub bytes : IsTrue old.medium.told → failed ≡ false → new.medium.bytes ≡ image
  -- and nothing is torn
  pub torn : IsTrue old.medium.told → failed ≡ false → new.medium.torn ≡ old.medium.torn
  -- the pieces before some piece are the image's, those behind it are as they were, and of it the new records tell what
  -- is left
  pub err : IsTrue old.medium.told → IsTrue failed → StoppedAt image old.medium new.medium

-- a stick of so many sectors was made this image; one without sectors is not touched
abbrev pub WritesStick : List ℕ → ℕ → DiskState → DiskState → Bool → Type 0
WritesStick image zero old new failed = (new ≡ old) × (failed ≡ false)
WritesStick image (suc sectors) old new failed = WritesDrive image old new failed
