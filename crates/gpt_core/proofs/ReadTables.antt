-- What reading a table does, where no copy is read.
use Rattle.std.proofs.Common.{◌≡◌, ℕ, ◌<◌, ◌⊎◌, inl, inr, Bool, false, ◌&&◌, List, [], IsTrue, Ok, refl, ap, ◌∙◌, arith}
use Rattle.std.specs.Prelude.{nat_le}
use Rattle.std.proofs.lemmas.Bool.{lt-leb}
use Rattle.board_core.specs.declared.device.Failed.{Failed}
use Rattle.board_core.specs.Counters.{Observed}
use Rattle.board_core.specs.Disk.{DiskState}
use Rattle.gpt_core.specs.declared.found.Found.TheVariants as found
use Rattle.gpt_core.specs.declared.side.Side.TheVariants.{Primary, Backup}
use Rattle.gpt_core.specs.Copies.{copy_of}
use Rattle.gpt_core.specs.Format.{has_size}
use Rattle.gpt_core.specs.Room.{RoomView, empty_room, ReadsTable}
use Rattle.gpt_core.proofs.Checks.{and-false, table_wrong_size}

wrong_size : (sectors : ℕ) → (sectors < 69) ⊎ (4294967296 < sectors) → has_size sectors ≡ false
wrong_size sectors (inl few) = ap (λ (b : Bool). b && nat_le sectors 4294967296) (lt-leb 69 sectors few)
wrong_size sectors (inr many) = ap (λ (b : Bool). nat_le 69 sectors && b) (lt-leb sectors 4294967296 many) ∙ and-false (nat_le 69 sectors)

pub reads_none : (disk : DiskState) (room : RoomView) → Observed disk.counters disk.counters false → (disk.medium.sectors < 69) ⊎ (4294967296 < disk.medium.sectors) → disk.medium.pending ≡ 0 → (IsTrue disk.medium.told → disk.medium.writes ≡ [])
    → room ≡ empty_room → ReadsTable {E = Failed} disk disk room (Ok found.None)
reads_none disk room same outside settled no_writes empty =
    let sectors : ℕ = disk.medium.sectors in
    let bytes : List ℕ = disk.medium.bytes in
    record {
      counters = same;
      keeps = record { sectors = refl; told = refl; none_pending = settled; bytes = λ told. refl; torn = λ told. refl; writes = no_writes };
      no_fewer = λ told. omega arith;
      no_more = λ told. omega arith;
      holds = empty;
      fits = tt;
      found = λ told. (table_wrong_size Primary sectors (copy_of Primary sectors bytes) (wrong_size sectors outside), table_wrong_size Backup sectors (copy_of Backup sectors bytes) (wrong_size sectors outside));
      failed = tt;
    }
