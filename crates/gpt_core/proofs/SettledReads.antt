-- A read of a disk on which nothing is pending leaves all that the disk holds, also where it fails.
use Rattle.std.proofs.Common.{◌≡◌, ℕ, ◌*◌, List, [], ◌∷◌, ◌++◌, length, take, drop, IsTrue, Ok, Err, refl, sym, ap, ◌∙◌, subst, arith}
use Rattle.std.proofs.lemmas.List.{take-append-drop, take_all, append-nil}
use Rattle.std.specs.Prelude.{Result, OnOk}
use Rattle.board_core.specs.declared.torn.Torn.{Torn}
use Rattle.board_core.specs.Torn.{Logs, Grown, added}
use Rattle.board_core.specs.Flash.{range}
use Rattle.board_core.specs.Disk.{DiskMedium, DiskState, LeftDiskTorn, AreRecordsOf, ReadsDisk}
use Rattle.board_core.proofs.FuseDiskLemmas.{settled_writes}
use Rattle.gpt_core.specs.declared.side.Side.{Side}
use Rattle.gpt_core.specs.declared.side.Side.TheVariants.{Primary, Backup}
use Rattle.gpt_core.specs.Copies.{copy_lba, copy_at, copy_of}
use Rattle.gpt_core.specs.Reads.{KeepsDisk, ReadsCopy}

left_none : (front back : List Torn) → front ++ back ≡ [] → front ≡ []
left_none [] back none = refl
left_none (torn ∷ front) back none = absurd (cc)

right_none : (front back : List Torn) → front ++ back ≡ [] → back ≡ []
right_none [] back none = none
right_none (torn ∷ front) back none = absurd (cc)

-- where no record is new and none is lost, the logs are the same
pub logs_same : (old new : Logs) → Grown old new → added old new ≡ [] → new ≡ old
logs_same [] [] grown none = refl
logs_same (o ∷ os) (n ∷ ns) grown none =
    let ends : drop (length o) n ≡ [] = left_none (drop (length o) n) (added os ns) none in
    let head : n ≡ o = sym (take-append-drop (length o) n) ∙ ap (λ (l : List Torn). take (length o) n ++ l) ends ∙ append-nil (take (length o) n) ∙ grown.0 in
    let tail : ns ≡ os = logs_same os ns grown.1 (right_none (drop (length o) n) (added os ns) none) in
    ap (λ (l : List Torn). l ∷ ns) head ∙ ap (λ (l : Logs). o ∷ l) tail
logs_same [] (n ∷ ns) grown none = absurd grown
logs_same (o ∷ os) [] grown none = absurd grown

records_none : (records : List Torn) → AreRecordsOf [] records → records ≡ []
records_none [] noted = refl
records_none (torn ∷ rest) noted = absurd noted

-- a call that failed with nothing pending and no write of its own adds no record
pub torn_none : (old new : DiskMedium) → LeftDiskTorn [] [] old new → new.torn ≡ old.torn
torn_none old new left_torn =
    let none : take left_torn.count [] ≡ [] = take_all {A = Torn} left_torn.count [] (omega arith) in
    logs_same old.torn new.torn left_torn.kept (records_none (added old.torn new.torn) (subst (λ (l : List Torn). AreRecordsOf l (added old.torn new.torn)) none left_torn.noted))

pub keeps_read : {E : Type 0} (lba : ℕ) (buf : List ℕ) (old new : DiskState) (result : Result Unit E) → old.medium.pending ≡ 0 → (IsTrue old.medium.told → old.medium.writes ≡ []) → ReadsDisk lba buf old new result → KeepsDisk old.medium new.medium
keeps_read lba buf old new (Ok done) settled no_writes reads = record {
  sectors = reads.sectors;
  told = reads.told;
  none_pending = ap (λ (m : DiskMedium). m.pending) reads.ok ∙ settled;
  bytes = reads.bytes;
  torn = λ told. ap (λ (m : DiskMedium). m.torn) reads.ok;
  writes = λ told. ap (λ (m : DiskMedium). m.writes) reads.ok ∙ no_writes told;
}
keeps_read lba buf old new (Err failed) settled no_writes reads = record {
  sectors = reads.sectors;
  told = reads.told;
  none_pending = reads.none_pending;
  bytes = reads.bytes;
  torn = λ told. torn_none old.medium new.medium (subst (λ (l : List Torn). LeftDiskTorn l [] old.medium new.medium) (no_writes told) (reads.err told));
  writes = λ told. (reads.err told).writes_end;
}

copy_byte : (side : Side) (sectors : ℕ) → copy_lba side sectors * 512 ≡ copy_at side sectors
copy_byte Primary sectors = refl
copy_byte Backup sectors = refl

filled_copy : {E : Type 0} (side : Side) (sectors : ℕ) (bytes buf : List ℕ) (result : Result Unit E) → length buf ≡ 16896 → OnOk result (buf ≡ range bytes (copy_lba side sectors * 512) (length buf)) → OnOk result (buf ≡ copy_of side sectors bytes)
filled_copy side sectors bytes buf (Ok done) size filled = filled ∙ ap (λ (n : ℕ). range bytes (copy_lba side sectors * 512) n) size ∙ ap (λ (at : ℕ). range bytes at 16896) (copy_byte side sectors)
filled_copy side sectors bytes buf (Err failed) size filled = tt

pub reads_copy : {E : Type 0} (side : Side) (buf : List ℕ) (old new : DiskState) (result : Result Unit E) → length buf ≡ 16896 → old.medium.pending ≡ 0 → (IsTrue old.medium.told → length old.medium.writes ≡ old.medium.pending)
    → ReadsDisk (copy_lba side old.medium.sectors) buf old new result → ReadsCopy side buf old new result
reads_copy side buf old new result size settled as_many reads = record {
  counters = reads.counters;
  keeps = keeps_read (copy_lba side old.medium.sectors) buf old new result settled (settled_writes old.medium settled as_many) reads;
  filled = λ told. filled_copy side old.medium.sectors old.medium.bytes buf result size (reads.filled told);
  no_fewer = reads.no_fewer;
  no_more = λ told. omega (arith, reads.no_more told, size);
}
