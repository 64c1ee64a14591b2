-- A command follows its plan: what it leaves of the disk after the table was read.
use Rattle.std.proofs.Common.{◌≡◌, ◌∙◌, inl, inr, ℕ, refl, sym, ap, ap₂, subst, arith, Bool, true, false, List, Option, Some, None, Ok, Err, Result}
use Rattle.std.specs.Prelude.{IsTrue, All}
use Rattle.std.proofs.lemmas.Bool.{false≢true}
use Rattle.board_core.specs.declared.device.Failed.{Failed}
use Rattle.board_core.specs.Counters.{MadeChanges, Observed, Rose}
use Rattle.board_core.specs.Disk.{DiskMedium, DiskState, overlaid}
use Rattle.board_core.specs.Streams.{StreamState, PutsText}
use Rattle.board_core.specs.Torn.{Logs, Grown, added}
use Rattle.board_core.proofs.Stops.{made_only_observed, observed_made}
use Rattle.gpt_core.specs.declared.side.Side.{Side}
use Rattle.gpt_core.specs.declared.side.Side.TheVariants as side
use Rattle.gpt_core.specs.Commits.{Commits, SameButCopies, IsOfCommit, FailsToCommit, bytes_with_table}
use Rattle.gpt_core.specs.Format.{PartitionTable}
use Rattle.gpt_core.specs.Reads.{KeepsDisk}
use Rattle.gpt_core.specs.Room.{RoomView}
use Rattle.gpt_core.specs.Tables.{table_on, table_in, or_else, copy_table, BothHold, IsFairCopy, IsFairDisk}
use Rattle.cgpt_core.specs.declared.call.CgptCall.{CgptCall}
use Rattle.cgpt_core.specs.declared.fault.CgptFault.{CgptFault}
use Rattle.cgpt_core.specs.declared.fault.CgptFault.TheVariants as fault
use Rattle.cgpt_core.specs.declared.opening.Opened.{Opened}
use Rattle.cgpt_core.specs.Plans.{Plan, refused, told, plan_of, is_reader}
use Rattle.cgpt_core.specs.Faults.{is_device, is_write}
use Rattle.cgpt_core.specs.Tables.{BreaksTable, CallsSink, IsBroken, IsStanding, IsWritten, LeavesTable, Opens, standing_of, Tells, Works}
use Rattle.cgpt_core.proofs.Telling.{silent_sink, silent_tells, failed_tells, text_sink, front_sink, text_tells, front_tells}

-- ---- a disk that was read before

told_there : (old mid : DiskMedium) → KeepsDisk old mid → IsTrue old.told → IsTrue mid.told
told_there old mid keeps told = subst IsTrue (sym keeps.told) told

frame_same : (old mid : DiskMedium) → KeepsDisk old mid → IsTrue old.told → SameButCopies old.sectors old.bytes mid.bytes
frame_same old mid keeps told =
    subst (λ (b : List ℕ). SameButCopies old.sectors old.bytes b) (sym (keeps.bytes told)) (record { size = refl; before = refl; between = refl })

frame_back : (old mid : DiskMedium) (new : List ℕ) → KeepsDisk old mid → IsTrue old.told → SameButCopies mid.sectors mid.bytes new
    → SameButCopies old.sectors old.bytes new
frame_back old mid new keeps told same =
    subst (λ (n : ℕ). SameButCopies n old.bytes new) keeps.sectors
    (subst (λ (b : List ℕ). SameButCopies mid.sectors b new) (keeps.bytes told) same)

fair_copy : (table : PartitionTable) (part : Side) (old mid new : DiskMedium) → KeepsDisk old mid → IsTrue old.told
    → IsFairCopy table part old.sectors old.bytes (overlaid old.bytes (added old.torn new.torn))
    → IsFairCopy table part mid.sectors mid.bytes (overlaid mid.bytes (added mid.torn new.torn))
fair_copy table part old mid new keeps told fair =
    let torn = subst (λ (t : Logs). IsFairCopy table part old.sectors old.bytes (overlaid old.bytes (added t new.torn))) (sym (keeps.torn told)) fair in
    let bytes = subst (λ (b : List ℕ). IsFairCopy table part old.sectors b (overlaid b (added mid.torn new.torn))) (sym (keeps.bytes told)) torn in
    subst (λ (n : ℕ). IsFairCopy table part n mid.bytes (overlaid mid.bytes (added mid.torn new.torn))) (sym keeps.sectors) bytes

table_same : (old mid : DiskMedium) → KeepsDisk old mid → IsTrue old.told → table_on mid ≡ table_on old
table_same old mid keeps told = ap₂ table_in keeps.sectors (keeps.bytes told)

fails_back : (table : PartitionTable) (old mid new : DiskMedium) → KeepsDisk old mid → IsTrue old.told → FailsToCommit table mid new
    → FailsToCommit table old new
fails_back table old mid new keeps told fails fair =
    let fair' : IsFairDisk table mid new = record {
      primary = fair_copy table side.Primary old mid new keeps told fair.primary;
      backup = fair_copy table side.Backup old mid new keeps told fair.backup;
    } in
    elim (fails fair') [
      | inl same ↦ inl (same ∙ table_same old mid keeps told)
      | inr here ↦ inr here
    ]

-- the records of a disk that was read before
abbrev NotesFrom : PartitionTable → ℕ → List ℕ → Logs → Logs → Type 0
NotesFrom table sectors bytes torn torn' = All (IsOfCommit sectors (bytes_with_table sectors table bytes)) (added torn torn')

noted_back : (table : PartitionTable) (old mid new : DiskMedium) → KeepsDisk old mid → IsTrue old.told
    → NotesFrom table mid.sectors mid.bytes mid.torn new.torn → NotesFrom table old.sectors old.bytes old.torn new.torn
noted_back table old mid new keeps told noted =
    let torn : NotesFrom table mid.sectors mid.bytes old.torn new.torn =
    subst (λ (t : Logs). NotesFrom table mid.sectors mid.bytes t new.torn) (keeps.torn told) noted in
    let bytes : NotesFrom table mid.sectors old.bytes old.torn new.torn =
    subst (λ (b : List ℕ). NotesFrom table mid.sectors b old.torn new.torn) (keeps.bytes told) torn in
    subst (λ (n : ℕ). NotesFrom table n old.bytes old.torn new.torn) keeps.sectors bytes

-- ---- a disk that could not be read

pub works_unread : (call : CgptCall) (guid : List ℕ) (old mid : DiskState) (room : RoomView) (put : StreamState) (failed : Failed)
    → Opens {E = Failed} old mid room (Err failed) → Works call guid old mid put put (Err fault.Device)
works_unread call guid old mid room put failed opens = record {
  calls = 0;
  disk = record {
    counters = made_only_observed old.counters mid.counters true opens.counters;
    all_or_none = inl refl;
    sectors = opens.keeps.sectors;
    told = opens.keeps.told;
    none_pending = opens.keeps.none_pending;
    no_fewer = opens.no_fewer;
    frame = λ told. frame_same old.medium mid.medium opens.keeps told;
  };
  sink = silent_sink put (Err fault.Device) refl;
  reads = λ reader. opens.counters;
  planned = λ told. inl (record { answer = refl; none = refl; keeps = opens.keeps });
}

-- ---- a disk whose table was read

stands : (old mid : DiskState) (room : RoomView) (found : Option Opened) → Opens {E = Failed} old mid room (Ok found) → IsTrue old.medium.told
    → IsStanding (standing_of found room.table) old.medium
stands old mid room (Some opened) opens told = opens.found told
stands old mid room None opens told =
    let none = opens.none told in
    ap (λ (o : Option PartitionTable). or_else o (copy_table side.Backup old.medium.sectors old.medium.bytes)) none.0 ∙ none.1

module _ (call : CgptCall) (guid : List ℕ) (old mid : DiskState) (room : RoomView) (found : Option Opened)
    (opens : Opens {E = Failed} old mid room (Ok found)) where
  abbrev plan : Plan
  plan = plan_of old.medium.sectors (standing_of found room.table) call guid

  -- nothing is written
  pub works_kept : (put put' : StreamState) (result : Result Unit CgptFault) → plan.table ≡ None → is_device result ≡ false
      → CallsSink put put' result → Tells plan put put' result → Works call guid old mid put put' result
  works_kept put put' result none device sink tells =
      let counters = subst (λ (b : Bool). Observed old.counters mid.counters b) (sym device) opens.counters in
      record {
        calls = 0;
        disk = record {
          counters = made_only_observed old.counters mid.counters (is_device result) counters;
          all_or_none = inl refl;
          sectors = opens.keeps.sectors;
          told = opens.keeps.told;
          none_pending = opens.keeps.none_pending;
          no_fewer = opens.no_fewer;
          frame = λ told. frame_same old.medium mid.medium opens.keeps told;
        };
        sink = sink;
        reads = λ reader. counters;
        planned = λ told. inr (record {
          standing = standing_of found room.table;
          stands = stands old mid room found opens told;
          tells = tells;
          leaves = λ is. subst (λ (t : Option PartitionTable). LeavesTable t 0 old.medium mid.medium) (sym none) (refl, opens.keeps);
          breaks = λ is. absurd (false≢true (sym device ∙ is));
        });
      }

  module _ (source : Option Side) (table : PartitionTable) (new : DiskState) (writes : plan.table ≡ Some table)
      (no_reader : is_reader call.command ≡ false) where
    -- this table is written
    pub works_written : (put put' : StreamState) (result : Result Unit CgptFault) → Commits {E = Failed} source table mid new (Ok tt)
        → is_device result ≡ false → CallsSink put put' result → Tells plan put put' result → Works call guid old new put put' result
    works_written put put' result commits device sink tells =
        let keeps = opens.keeps in
        let there = told_there old.medium mid.medium keeps in
        let counters = subst (λ (b : Bool). MadeChanges old.counters new.counters 6 b) (sym device)
        (observed_made old.counters mid.counters new.counters 6 false opens.counters commits.writes.counters) in
        let written : IsTrue old.medium.told → IsWritten table old.medium new.medium = λ told. record {
          written = record {
            bytes = (commits.writes.ok (there told)).bytes
                ∙ ap₂ (λ (n : ℕ) (b : List ℕ). bytes_with_table n table b) keeps.sectors (keeps.bytes told);
            writes = (commits.writes.ok (there told)).writes;
            torn = (commits.writes.ok (there told)).torn ∙ keeps.torn told;
          };
          holds = subst (λ (n : ℕ). BothHold table n new.medium.bytes) keeps.sectors (commits.holds (there told));
        } in
        record {
          calls = 6;
          disk = record {
            counters = counters;
            all_or_none = inr refl;
            sectors = commits.writes.sectors ∙ keeps.sectors;
            told = commits.writes.told ∙ keeps.told;
            none_pending = commits.writes.none_pending;
            no_fewer = λ told. omega (arith, opens.no_fewer told, commits.writes.sectors_read);
            frame = λ told. frame_back old.medium mid.medium new.medium.bytes keeps told (commits.writes.frame (there told));
          };
          sink = sink;
          reads = λ reader. absurd (false≢true (sym no_reader ∙ reader));
          planned = λ told. inr (record {
            standing = standing_of found room.table;
            stands = stands old mid room found opens told;
            tells = tells;
            leaves = λ is. subst (λ (t : Option PartitionTable). LeavesTable t 6 old.medium new.medium) (sym writes) (refl, written told);
            breaks = λ is. absurd (false≢true (sym device ∙ is));
          });
        }

    -- its commit failed
    pub works_broken : (put : StreamState) (failed : Failed) → Commits {E = Failed} source table mid new (Err failed)
        → Works call guid old new put put (Err fault.Device)
    works_broken put failed commits =
        let keeps = opens.keeps in
        let there = told_there old.medium mid.medium keeps in
        let broken : IsTrue old.medium.told → IsBroken table old new = λ told. record {
          broke = subst (λ (n : ℕ). Rose n new.counters.failed_changes) opens.counters.failed_changes (commits.writes.broke refl);
          kept = subst (λ (t : Logs). Grown t new.medium.torn) (keeps.torn told) (commits.writes.kept (there told));
          noted = noted_back table old.medium mid.medium new.medium keeps told (commits.writes.noted (there told));
          fails = fails_back table old.medium mid.medium new.medium keeps told (commits.fails (there told));
        } in
        record {
          calls = 6;
          disk = record {
            counters = observed_made old.counters mid.counters new.counters 6 true opens.counters commits.writes.counters;
            all_or_none = inr refl;
            sectors = commits.writes.sectors ∙ keeps.sectors;
            told = commits.writes.told ∙ keeps.told;
            none_pending = commits.writes.none_pending;
            no_fewer = λ told. omega (arith, opens.no_fewer told, commits.writes.sectors_read);
            frame = λ told. frame_back old.medium mid.medium new.medium.bytes keeps told (commits.writes.frame (there told));
          };
          sink = silent_sink put (Err fault.Device) refl;
          reads = λ reader. absurd (false≢true (sym no_reader ∙ reader));
          planned = λ told. inr (record {
            standing = standing_of found room.table;
            stands = stands old mid room found opens told;
            tells = failed_tells plan put;
            leaves = λ is. absurd (false≢true (sym is));
            breaks = λ is. subst (λ (t : Option PartitionTable). BreaksTable t 6 old new) (sym writes) (refl, broken told);
          });
        }

  -- a text is put
  pub works_told : (put put' : StreamState) (text : List ℕ) → plan ≡ told text → PutsText {E = Failed} text put put' (Ok tt)
      → Works call guid old mid put put' (Ok tt)
  works_told put put' text is puts =
      works_kept put put' (Ok tt) (ap (λ (p : Plan). p.table) is) refl (text_sink text put put' puts)
      (text_tells plan text put put' (ap (λ (p : Plan). p.answer) is) (ap (λ (p : Plan). p.lines) is) puts)

  -- or a beginning of it
  pub works_cut : (put put' : StreamState) (text : List ℕ) (failed : Failed) → plan ≡ told text
      → PutsText {E = Failed} text put put' (Err failed) → Works call guid old mid put put' (Err fault.Write)
  works_cut put put' text failed is puts =
      works_kept put put' (Err fault.Write) (ap (λ (p : Plan). p.table) is) refl (front_sink text put put' failed puts)
      (front_tells plan text put put' (ap (λ (p : Plan). p.answer) is) (ap (λ (p : Plan). p.lines) is) failed puts)

  -- a refusal
  pub works_refused : (put : StreamState) (why : CgptFault) → plan ≡ refused why → is_device (Err why) ≡ false → is_write (Err why) ≡ false
      → Works call guid old mid put put (Err why)
  works_refused put why is device write =
      works_kept put put (Err why) (ap (λ (p : Plan). p.table) is) device (silent_sink put (Err why) write)
      (silent_tells plan put (Err why) write (sym (ap (λ (p : Plan). p.answer) is)) (ap (λ (p : Plan). p.lines) is))
