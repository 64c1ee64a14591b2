-- A room into which a table was read, or in which one was started where none was found, can be committed.
use Rattle.std.proofs.Common.{◌≡◌, ℕ, ◌≤◌, List, Option, Some, IsTrue, Ok, refl, ap, sym, ◌∙◌, subst, arith}
use Rattle.std.specs.Prelude.{nat_le}
use Rattle.std.proofs.lemmas.Bool.{and_parts, leb-true}
use Rattle.board_core.specs.declared.device.Failed.{Failed}
use Rattle.board_core.specs.Disk.{DiskState}
use Rattle.gpt_core.specs.declared.side.Side.{Side}
use Rattle.gpt_core.specs.declared.side.Side.TheVariants.{Primary, Backup}
use Rattle.gpt_core.specs.declared.found.Found.{Found}
use Rattle.gpt_core.specs.declared.found.Found.TheVariants as found
use Rattle.gpt_core.specs.Format.{PartitionTable, IsValidTable}
use Rattle.gpt_core.specs.Tables.{IsGood, IsSource, copy_table}
use Rattle.gpt_core.specs.Room.{RoomView, found_room, IsFoundOn, IsValidFound, ReadsTable, CanCommit}

good_some : (one : Option PartitionTable) (table : PartitionTable) → one ≡ Some table → IsGood one
good_some one table is = subst IsGood (sym is) tt

-- the source of what was found
found_source : (what : Found) (sectors : ℕ) (bytes : List ℕ) (table : PartitionTable) → IsFoundOn what sectors bytes table → IsSource (found_room what sectors table).source sectors bytes
found_source (found.Primary agree) sectors bytes table h = good_some (copy_table Primary sectors bytes) table h.0
found_source found.Backup sectors bytes table h = (h.0, good_some (copy_table Backup sectors bytes) table h.1)
found_source found.None sectors bytes table h = h

-- and of the room that holds it
pub room_source : (what : Found) (sectors : ℕ) (bytes : List ℕ) (room : RoomView) → room ≡ found_room what sectors room.table → IsFoundOn what sectors bytes room.table → IsSource room.source sectors bytes
room_source what sectors bytes room holds h = subst (λ (s : Option Side). IsSource s sectors bytes) (sym (ap (λ (r : RoomView). r.source) holds)) (found_source what sectors bytes room.table h)

-- there is a table
abbrev pub IsThere : Found → Type 0
IsThere (found.Primary agree) = Unit {0}
IsThere found.Backup = Unit {0}
IsThere found.None = ⊥

pub is_there : (what : Found) → (what ≡ found.None → ⊥) → IsThere what
is_there (found.Primary agree) some = tt
is_there found.Backup some = tt
is_there found.None some = some refl

pub valid_size : (sectors : ℕ) (table : PartitionTable) → IsValidTable sectors table → 69 ≤ sectors
valid_size sectors table valid = leb-true 69 sectors (and_parts (nat_le 69 sectors) (nat_le sectors 4294967296) valid.size).0

found_sectors : (what : Found) (sectors : ℕ) (table : PartitionTable) → IsThere what → (found_room what sectors table).sectors ≡ sectors
found_sectors (found.Primary agree) sectors table there = refl
found_sectors found.Backup sectors table there = refl
found_sectors found.None sectors table there = absurd there

found_valid : (what : Found) (sectors : ℕ) (table : PartitionTable) → IsThere what → IsValidFound what sectors table → IsValidTable sectors table
found_valid (found.Primary agree) sectors table there valid = valid
found_valid found.Backup sectors table there valid = valid
found_valid found.None sectors table there valid = absurd there

-- what was read can be committed, also after changes of the room's table
pub can_commit : (what : Found) (old new : DiskState) (room : RoomView) → IsThere what → ReadsTable {E = Failed} old new room (Ok what) → CanCommit new room
can_commit what old new room there reads =
    let sectors : room.sectors ≡ old.medium.sectors = ap (λ (r : RoomView). r.sectors) reads.holds ∙ found_sectors what old.medium.sectors room.table there in
    let size : 69 ≤ old.medium.sectors = valid_size old.medium.sectors room.table (found_valid what old.medium.sectors room.table there reads.fits) in
    record {
      settled = reads.keeps.none_pending;
      known = omega (arith, sectors, size);
      same_disk = sectors ∙ sym reads.keeps.sectors;
      source = λ told.
          let told' : IsTrue old.medium.told = subst IsTrue reads.keeps.told told in
          subst (λ (n : ℕ). IsSource room.source n new.medium.bytes) (sym reads.keeps.sectors)
          (subst (IsSource room.source old.medium.sectors) (sym (reads.keeps.bytes told')) (room_source what old.medium.sectors old.medium.bytes room reads.holds (reads.found told')));
    }

-- and so can what was started where none was found
pub can_start : (old new : DiskState) (room started : RoomView) → ReadsTable {E = Failed} old new room (Ok found.None) → started.source ≡ room.source → started.sectors ≡ new.medium.sectors → 69 ≤ new.medium.sectors → CanCommit new started
can_start old new room started reads source sectors size = record {
  settled = reads.keeps.none_pending;
  known = omega (arith, sectors, size);
  same_disk = sectors;
  source = λ told.
      let told' : IsTrue old.medium.told = subst IsTrue reads.keeps.told told in
      subst (λ (n : ℕ). IsSource started.source n new.medium.bytes) (sym reads.keeps.sectors)
      (subst (IsSource started.source old.medium.sectors) (sym (reads.keeps.bytes told'))
      (subst (λ (s : Option Side). IsSource s old.medium.sectors old.medium.bytes) (sym source) (room_source found.None old.medium.sectors old.medium.bytes room reads.holds (reads.found told'))));
}
