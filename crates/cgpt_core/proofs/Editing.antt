-- A command that changes the table that stands.
use Rattle.std.proofs.Common.{◌≡◌, ◌∙◌, ℕ, refl, sym, ap, true, false, List, Some, None, Ok, Err, Result}
use Rattle.std.proofs.lemmas.Bool.{false≢true}
use Rattle.board_core.specs.declared.device.Failed.{Failed}
use Rattle.board_core.specs.Disk.{DiskState}
use Rattle.board_core.specs.Streams.{StreamState}
use Rattle.gpt_core.specs.Format.{PartitionTable}
use Rattle.gpt_core.specs.Room.{RoomView}
use Rattle.cgpt_core.specs.declared.call.CgptCall.{CgptCall}
use Rattle.cgpt_core.specs.declared.call.CgptCommand.{CgptCommand}
use Rattle.cgpt_core.specs.declared.call.CgptCommand.TheVariants as command
use Rattle.cgpt_core.specs.declared.fault.CgptFault.{CgptFault}
use Rattle.cgpt_core.specs.declared.fault.CgptFault.TheVariants as fault
use Rattle.cgpt_core.specs.declared.opening.Opened.{Opened}
use Rattle.cgpt_core.specs.Adding.{table_after, Edits}
use Rattle.cgpt_core.specs.Plans.{Standing, changed, edit_by, is_editor, is_reader, plan_by, plan_of, refused}
use Rattle.cgpt_core.specs.Tables.{Opens, Saves, standing_of, Works}
use Rattle.cgpt_core.proofs.Planned.{works_refused}
use Rattle.cgpt_core.proofs.Changes.{saves_all, saves_none}

no_reader : (asked : CgptCommand) → is_editor asked ≡ true → is_reader asked ≡ false
no_reader command.Add editor = refl
no_reader command.Prioritize editor = refl
no_reader command.Create editor = absurd (false≢true editor)
no_reader command.Repair editor = absurd (false≢true editor)
no_reader command.Show editor = absurd (false≢true editor)
no_reader command.Find editor = absurd (false≢true editor)

-- where no table stands
no_table : (asked : CgptCommand) (sectors : ℕ) (call : CgptCall) (guid : List ℕ) → is_editor asked ≡ true
    → plan_by asked sectors None call guid ≡ refused fault.NoTable
no_table command.Add sectors call guid editor = refl
no_table command.Prioritize sectors call guid editor = refl
no_table command.Create sectors call guid editor = absurd (false≢true editor)
no_table command.Repair sectors call guid editor = absurd (false≢true editor)
no_table command.Show sectors call guid editor = absurd (false≢true editor)
no_table command.Find sectors call guid editor = absurd (false≢true editor)

a_table : (asked : CgptCommand) (sectors : ℕ) (standing : Standing) (call : CgptCall) (guid : List ℕ) → is_editor asked ≡ true
    → plan_by asked sectors (Some standing) call guid ≡ changed (Some standing) (edit_by asked call guid standing.table)
a_table command.Add sectors standing call guid editor = refl
a_table command.Prioritize sectors standing call guid editor = refl
a_table command.Create sectors standing call guid editor = absurd (false≢true editor)
a_table command.Repair sectors standing call guid editor = absurd (false≢true editor)
a_table command.Show sectors standing call guid editor = absurd (false≢true editor)
a_table command.Find sectors standing call guid editor = absurd (false≢true editor)

module _ (call : CgptCall) (guid : List ℕ) (old mid : DiskState) (room : RoomView) (editor : is_editor call.command ≡ true) where
  pub edits_nothing : (put : StreamState) → Opens {E = Failed} old mid room (Ok None) → Works call guid old mid put put (Err fault.NoTable)
  edits_nothing put opens =
      works_refused call guid old mid room None opens put fault.NoTable (no_table call.command old.medium.sectors call guid editor) refl refl

  module _ (opened : Opened) (opens : Opens {E = Failed} old mid room (Ok (Some opened))) (now : RoomView) (put : StreamState) where
    abbrev standing : Standing
    standing = record { opened = opened; table = room.table }

    plan_is : (result : Result Unit CgptFault) → Edits (edit_by call.command call guid room.table) room now result
        → plan_of old.medium.sectors (standing_of (Some opened) room.table) call guid ≡ changed (Some standing) (table_after result now.table)
    plan_is result edits =
        a_table call.command old.medium.sectors standing call guid editor
        ∙ ap (λ (r : Result PartitionTable CgptFault). changed (Some standing) r) (sym edits.table)

    pub edit_refused : (why : CgptFault) → Edits (edit_by call.command call guid room.table) room now (Err why)
        → Works call guid old mid put put (Err why)
    edit_refused why edits =
        works_refused call guid old mid room (Some opened) opens put why (plan_is (Err why) edits) edits.no_device edits.no_write

    module _ (edits : Edits (edit_by call.command call guid room.table) room now (Ok tt)) (new : DiskState) where
      pub edits_all : Saves {E = Failed} now mid new (Ok tt) → Works call guid old new put put (Ok tt)
      edits_all saves =
          saves_all old mid room call guid (Some opened) opens (no_reader call.command editor) now (ap (λ (r : RoomView). r.agree) edits.rest)
          (ap (λ (r : RoomView). r.found) edits.rest) (plan_is (Ok tt) edits) new put saves

      pub edits_broken : (failed : Failed) → Saves {E = Failed} now mid new (Err failed) → Works call guid old new put put (Err fault.Device)
      edits_broken failed saves =
          saves_none old mid room call guid (Some opened) opens (no_reader call.command editor) now (ap (λ (r : RoomView). r.agree) edits.rest)
          (ap (λ (r : RoomView). r.found) edits.rest) (plan_is (Ok tt) edits) new put failed saves
