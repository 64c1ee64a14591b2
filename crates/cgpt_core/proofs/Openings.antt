-- The table that was found in the copies of a disk.
use Rattle.std.proofs.Common.{◌≡◌, ◌∙◌, ℕ, ◌<◌, ◌≤◌, refl, sym, ap, subst, arith, Bool, true, false, List, Option, Some, None, Ok}
use Rattle.std.specs.Prelude.{nat_le, is_some}
use Rattle.std.proofs.lemmas.Bool.{false≢true, and_parts, leb-true}
use Rattle.board_core.specs.declared.device.Failed.{Failed}
use Rattle.board_core.specs.Disk.{DiskState}
use Rattle.gpt_core.specs.declared.entry.Entry.{Entry}
use Rattle.gpt_core.specs.declared.side.Side.TheVariants as side
use Rattle.gpt_core.specs.declared.found.Found.{Found}
use Rattle.gpt_core.specs.declared.found.Found.TheVariants as found
use Rattle.gpt_core.specs.Entries.{is_used, entry_in}
use Rattle.gpt_core.specs.Format.{PartitionTable, IsValidTable}
use Rattle.gpt_core.specs.Room.{RoomView, ReadsTable, IsFoundOn}
use Rattle.gpt_core.specs.Tables.{IsGood}
use Rattle.gpt_core.proofs.FoundTables.{table_there, used_says}
use Rattle.gpt_core.proofs.UsedEntries.{used_between}
use Rattle.gpt_core.proofs.Sources.{valid_size}
use Rattle.cgpt_core.specs.Tables.{IsOpened, Opens, opened_of}

none≢some : (table : PartitionTable) → ◌≡◌ {A = Option PartitionTable} None (Some table) → ⊥
none≢some table same = false≢true (ap (λ (o : Option PartitionTable). is_some o) same)

primary_opened : (agree : Bool) (sectors : ℕ) (bytes : List ℕ) (table : PartitionTable) → IsFoundOn (found.Primary agree) sectors bytes table
    → IsOpened (record { side = side.Primary; agree = agree }) sectors bytes table
primary_opened agree sectors bytes table is = record {
  good = table_there (found.Primary agree) sectors bytes table tt is;
  source = subst IsGood (sym is.0) tt;
  agrees = (
    λ agreed. (table, record { primary = is.0; backup = is.1.0 agreed }),
    λ both. is.1.1 (both.1.backup ∙ sym both.1.primary ∙ is.0),
  );
}

backup_opened : (sectors : ℕ) (bytes : List ℕ) (table : PartitionTable) → IsFoundOn found.Backup sectors bytes table
    → IsOpened (record { side = side.Backup; agree = false }) sectors bytes table
backup_opened sectors bytes table is = record {
  good = table_there found.Backup sectors bytes table tt is;
  source = (is.0, subst IsGood (sym is.1) tt);
  agrees = (λ agreed. absurd (false≢true agreed), λ both. absurd (none≢some both.0 (sym is.0 ∙ both.1.primary)));
}

-- the room with a table that was found
holds_found : (old : DiskState) (room whole : RoomView) (n : ℕ) → room ≡ whole → whole.sectors ≡ n → IsValidTable n room.table → (room.sectors ≡ n) × IsValidTable room.sectors room.table
holds_found old room whole n is sectors valid =
    let same : room.sectors ≡ n = ap (λ (r : RoomView). r.sectors) is ∙ sectors in
    (same, subst (λ (m : ℕ). IsValidTable m room.table) (sym same) valid)

pub opens_by : (old new : DiskState) (room : RoomView) (what : Found) → ReadsTable {E = Failed} old new room (Ok what) → Opens {E = Failed} old new room (Ok (opened_of what))
opens_by old new room (found.Primary agree) reads =
    let whole = holds_found old room _ old.medium.sectors reads.holds refl reads.fits in
    record {
      counters = reads.counters;
      keeps = reads.keeps;
      no_fewer = reads.no_fewer;
      holds = record { is = reads.holds; known = omega (arith, valid_size room.sectors room.table whole.1); valid = whole.1 };
      found = λ told. primary_opened agree old.medium.sectors old.medium.bytes room.table (reads.found told);
      none = λ told. tt;
      empty = tt;
    }
opens_by old new room found.Backup reads =
    let whole = holds_found old room _ old.medium.sectors reads.holds refl reads.fits in
    record {
      counters = reads.counters;
      keeps = reads.keeps;
      no_fewer = reads.no_fewer;
      holds = record { is = reads.holds; known = omega (arith, valid_size room.sectors room.table whole.1); valid = whole.1 };
      found = λ told. backup_opened old.medium.sectors old.medium.bytes room.table (reads.found told);
      none = λ told. tt;
      empty = tt;
    }
opens_by old new room found.None reads = record {
  counters = reads.counters;
  keeps = reads.keeps;
  no_fewer = reads.no_fewer;
  holds = tt;
  found = λ told. tt;
  none = λ told. reads.found told;
  empty = reads.holds;
}

-- where a used entry lies
pub entry_within : (sectors : ℕ) (table : PartitionTable) (k : ℕ) (entry : Entry) → IsValidTable sectors table → k < 128 → is_used table.entries k ≡ true → entry ≡ entry_in table.entries k
    → (entry.first ≤ entry.last) × (entry.last < 4294967296)
entry_within sectors table k entry valid below used is =
    let lies = used_between sectors table k valid below (used_says table.entries k used) in
    let most : sectors ≤ 4294967296 = leb-true sectors 4294967296 (and_parts (nat_le 69 sectors) (nat_le sectors 4294967296) valid.size).1 in
    let first = ap (λ (e : Entry). e.first) is in
    let last = ap (λ (e : Entry). e.last) is in
    (omega (arith, lies.ordered, first, last), omega (arith, lies.ends, most, last))
