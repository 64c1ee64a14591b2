-- A table that a change makes is written, unless it stands already.
use Rattle.std.proofs.Common.{◌≡◌, ◌∙◌, ◌↔◌, inl, inr, ℕ, List, refl, sym, ap, subst, Bool, true, false, Option, Some, None, Ok, Err, Result}
use Rattle.std.specs.Prelude.{IsTrue, if◌then◌else◌}
use Rattle.std.proofs.lemmas.Bool.{false≢true, true≢false, and_parts, and_from, cases_Bool}
use Rattle.board_core.specs.declared.device.Failed.{Failed}
use Rattle.board_core.specs.Disk.{DiskState}
use Rattle.board_core.specs.Streams.{StreamState}
use Rattle.gpt_core.specs.Format.{PartitionTable}
use Rattle.gpt_core.specs.Room.{RoomView}
use Rattle.gpt_core.specs.Tables.{says_same}
use Rattle.gpt_core.proofs.SameTables.{says_same-Decides}
use Rattle.cgpt_core.specs.declared.call.CgptCall.{CgptCall}
use Rattle.cgpt_core.specs.declared.fault.CgptFault.TheVariants as fault
use Rattle.cgpt_core.specs.declared.opening.Opened.{Opened}
use Rattle.cgpt_core.specs.Plans.{Plan, changed, plan_of, is_reader, stands_as}
use Rattle.cgpt_core.specs.Tables.{Opens, Saves, standing_of, Tells, Works}
use Rattle.cgpt_core.proofs.Planned.{works_kept, works_written, works_broken}
use Rattle.cgpt_core.proofs.Telling.{silent_sink, silent_tells}

module _ (old mid : DiskState) (room : RoomView) where
  -- a room says whether its table stands
  pub stands_by : (found : Option Opened) → Opens {E = Failed} old mid room (Ok found) → (table : PartitionTable)
      → (IsTrue room.agree × (table ≡ room.found)) ↔ (stands_as (standing_of found room.table) table ≡ true)
  stands_by (Some opened) opens table =
      let agree : room.agree ≡ opened.agree = ap (λ (r : RoomView). r.agree) opens.holds.is in
      let same : room.found ≡ room.table = ap (λ (r : RoomView). r.found) opens.holds.is in
      let test = says_same-Decides table room.table in (
        λ both. and_from opened.agree (says_same table room.table) (sym agree ∙ both.0) (test.1 (both.1 ∙ same)),
        λ stands. let parts = and_parts opened.agree (says_same table room.table) stands in (agree ∙ parts.0, test.0 parts.1 ∙ sym same),
      )
  stands_by None opens table = (
    λ both. absurd (false≢true (sym (ap (λ (r : RoomView). r.agree) opens.empty) ∙ both.0)),
    λ stands. absurd (false≢true stands),
  )

  module _ (call : CgptCall) (guid : List ℕ) (found : Option Opened) (opens : Opens {E = Failed} old mid room (Ok found))
      (no_reader : is_reader call.command ≡ false) (now : RoomView) (agree : now.agree ≡ room.agree) (same : now.found ≡ room.found)
      (planned : plan_of old.medium.sectors (standing_of found room.table) call guid ≡ changed (standing_of found room.table) (Ok now.table)) where
    abbrev stands : Bool
    stands = stands_as (standing_of found room.table) now.table

    abbrev plan : Plan
    plan = plan_of old.medium.sectors (standing_of found room.table) call guid

    table_is : (b : Bool) → stands ≡ b → plan.table ≡ (if b then None else Some now.table)
    table_is b is = ap (λ (p : Plan). p.table) planned ∙ ap (λ (x : Bool). if x then None else Some now.table) is

    silent : (put : StreamState) → Tells plan put put (Ok tt)
    silent put = silent_tells plan put (Ok tt) refl (sym (ap (λ (p : Plan). p.answer) planned)) (ap (λ (p : Plan). p.lines) planned)

    -- a table that is to be written does not stand
    unstood : {E : Type 0} (new : DiskState) (result : Result Unit E) → (saves : Saves {E = E} now mid new result) → saves.is_written ≡ true
        → stands ≡ false
    unstood new result saves written = elim (cases_Bool stands) [
      | inl holds ↦
          let both = (stands_by found opens now.table).1 holds in
          absurd (true≢false (sym written ∙ saves.stood.1 (agree ∙ both.0, both.1 ∙ sym same)))
      | inr none ↦ none
    ]

    module _ (new : DiskState) (put : StreamState) where
      -- what was saved or stood
      pub saves_all : Saves {E = Failed} now mid new (Ok tt) → Works call guid old new put put (Ok tt)
      saves_all saves = elim (cases_Bool saves.is_written) [
        | inl written ↦
            works_written call guid old mid room found opens now.source now.table new (table_is false (unstood new _ saves written)) no_reader
            put put (Ok tt) (saves.written written) refl (silent_sink put (Ok tt) refl) (silent put)
        | inr kept ↦
            let stood = saves.stood.0 kept in
            let holds = (stands_by found opens now.table).0 (sym agree ∙ stood.0, stood.1 ∙ same) in
            subst (λ (d : DiskState). Works call guid old d put put (Ok tt)) (sym (saves.kept kept).0)
            (works_kept call guid old mid room found opens put put (Ok tt) (table_is true holds) refl (silent_sink put (Ok tt) refl) (silent put))
      ]

      -- a failure
      pub saves_none : (failed : Failed) → Saves {E = Failed} now mid new (Err failed) → Works call guid old new put put (Err fault.Device)
      saves_none failed saves = elim (cases_Bool saves.is_written) [
        | inl written ↦
            works_broken call guid old mid room found opens now.source now.table new (table_is false (unstood new _ saves written)) no_reader
            put failed (saves.written written)
        | inr kept ↦ absurd (true≢false (saves.kept kept).1)
      ]
