-- What the callers of `read_table` cite: a disk that is only read, the table that was found, and an entry that is used.
use Rattle.std.proofs.Common.{◌≡◌, ◌∙◌, ℕ, length, refl, ap, sym, subst, true, false, List, Option, Some, None}
use Rattle.std.specs.Prelude.{IsTrue, not, replicate, nat_eq}
use Rattle.std.specs.Cmp.Lexicographic.{pointwise}
use Rattle.std.proofs.lemmas.Bool.{false≢true}
use Rattle.board_core.specs.Disk.{DiskMedium}
use Rattle.board_core.proofs.FuseDiskLemmas.{settled_writes}
use Rattle.gpt_core.specs.declared.found.Found.{Found}
use Rattle.gpt_core.specs.declared.found.Found.TheVariants as found
use Rattle.gpt_core.specs.declared.side.Side.TheVariants.{Backup}
use Rattle.gpt_core.specs.Entries.{is_used, IsUsed}
use Rattle.gpt_core.specs.Format.{PartitionTable}
use Rattle.gpt_core.specs.Reads.{KeepsDisk}
use Rattle.gpt_core.specs.Room.{IsFoundOn}
use Rattle.gpt_core.specs.Tables.{table_in, copy_table, or_else}
use Rattle.gpt_core.proofs.Sources.{IsThere}

-- a disk that is not called
pub keeps_same : (medium : DiskMedium) → medium.pending ≡ 0 → (IsTrue medium.told → length medium.writes ≡ medium.pending) → KeepsDisk medium medium
keeps_same medium settled as_many = record {
  sectors = refl;
  told = refl;
  none_pending = settled;
  bytes = λ told. refl;
  torn = λ told. refl;
  writes = settled_writes medium settled as_many;
}

-- and one that is read twice
pub keeps_then : (a b c : DiskMedium) → KeepsDisk a b → KeepsDisk b c → KeepsDisk a c
keeps_then a b c first second = record {
  sectors = second.sectors ∙ first.sectors;
  told = second.told ∙ first.told;
  none_pending = second.none_pending;
  bytes = λ told. second.bytes (subst IsTrue (sym first.told) told) ∙ first.bytes told;
  torn = λ told. second.torn (subst IsTrue (sym first.told) told) ∙ first.torn told;
  writes = λ told. second.writes (subst IsTrue (sym first.told) told);
}

-- the table of a disk is the one that was found, or there is none
pub table_there : (what : Found) (sectors : ℕ) (bytes : List ℕ) (table : PartitionTable) → IsThere what → IsFoundOn what sectors bytes table → table_in sectors bytes ≡ Some table
table_there (found.Primary agree) sectors bytes table there is = ap (λ (o : Option PartitionTable). or_else o (copy_table Backup sectors bytes)) is.0
table_there found.Backup sectors bytes table there is = ap (λ (o : Option PartitionTable). or_else o (copy_table Backup sectors bytes)) is.0 ∙ is.1
table_there found.None sectors bytes table there is = absurd there

pub none_there : (sectors : ℕ) (bytes : List ℕ) (table : PartitionTable) → IsFoundOn found.None sectors bytes table → table_in sectors bytes ≡ None
none_there sectors bytes table is = ap (λ (o : Option PartitionTable). or_else o (copy_table Backup sectors bytes)) is.0 ∙ is.1

-- a test of the type says that the entry is used
pub used_says : (entries : List ℕ) (k : ℕ) → is_used entries k ≡ true → IsUsed entries k
used_says entries k used same =
    let unused : is_used entries k ≡ false = ap (λ (x : List ℕ). not (pointwise nat_eq x (replicate 16 0))) same in
    false≢true (sym unused ∙ used)
