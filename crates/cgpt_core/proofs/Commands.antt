-- Each command follows its plan.
use Rattle.std.proofs.Common.{◌≡◌, ◌∙◌, ℕ, refl, sym, ap, Bool, true, false, List, Option, Some, None, Ok, Err, Result}
use Rattle.std.specs.Prelude.{codes, if◌then◌else◌, ◌++◌}
use Rattle.board_core.specs.declared.device.Failed.{Failed}
use Rattle.board_core.specs.Disk.{DiskState}
use Rattle.board_core.specs.Streams.{StreamState, PutsText}
use Rattle.gpt_core.specs.declared.side.Side.{Side}
use Rattle.gpt_core.specs.Commits.{Commits}
use Rattle.gpt_core.specs.Room.{RoomView}
use Rattle.cgpt_core.specs.declared.call.CgptCall.{CgptCall}
use Rattle.cgpt_core.specs.declared.call.CgptCommand.{CgptCommand}
use Rattle.cgpt_core.specs.declared.call.CgptCommand.TheVariants as command
use Rattle.cgpt_core.specs.declared.fault.CgptFault.{CgptFault}
use Rattle.cgpt_core.specs.declared.fault.CgptFault.TheVariants as fault
use Rattle.cgpt_core.specs.declared.opening.Opened.{Opened}
use Rattle.cgpt_core.specs.Plans.{Plan, Standing, refused, told, repair_word, found_line, is_none_found, plan_by, plan_of, is_reader}
use Rattle.cgpt_core.specs.Tables.{Opens, PutsWord, standing_of, Works}
use Rattle.cgpt_core.specs.Text.{lines_below, table_text}
use Rattle.text_core.specs.Shown.{line_end}
use Rattle.cgpt_core.proofs.Planned.{works_kept, works_told, works_cut, works_refused, works_written, works_broken}
use Rattle.cgpt_core.proofs.Telling.{tells_as}

module _ (call : CgptCall) (guid : List ℕ) (old mid : DiskState) (room : RoomView) where
  -- the plan of this command
  abbrev planned : CgptCommand → Option Opened → Plan
  planned asked found = plan_by asked old.medium.sectors (standing_of found room.table) call guid

  plan_is : (asked : CgptCommand) (found : Option Opened) → call.command ≡ asked
      → plan_of old.medium.sectors (standing_of found room.table) call guid ≡ planned asked found
  plan_is asked found same = ap (λ (x : CgptCommand). planned x found) same

  -- no table stands
  pub works_without : (asked : CgptCommand) (put : StreamState) → call.command ≡ asked → planned asked None ≡ refused fault.NoTable
      → Opens {E = Failed} old mid room (Ok None) → Works call guid old mid put put (Err fault.NoTable)
  works_without asked put same none opens =
      works_refused call guid old mid room None opens put fault.NoTable (plan_is asked None same ∙ none) refl refl

  module _ (opened : Opened) (opens : Opens {E = Failed} old mid room (Ok (Some opened))) where
    abbrev standing : Standing
    standing = record { opened = opened; table = room.table }

    -- ---- show

    module _ (show : call.command ≡ command.Show) (sectors : ℕ) (same : sectors ≡ mid.medium.sectors) (put put' : StreamState) where
      abbrev text : List ℕ
      text = table_text call.drive sectors opened.side opened.agree room.table

      text_is : plan_of old.medium.sectors (standing_of (Some opened) room.table) call guid ≡ told text
      text_is =
          plan_is command.Show (Some opened) show
          ∙ ap (λ (n : ℕ). told (table_text call.drive n opened.side opened.agree room.table)) (sym (same ∙ opens.keeps.sectors))

      pub shows_all : PutsText {E = Failed} text put put' (Ok tt) → Works call guid old mid put put' (Ok tt)
      shows_all puts = works_told call guid old mid room (Some opened) opens put put' text text_is puts

      pub shows_front : (failed : Failed) → PutsText {E = Failed} text put put' (Err failed) → Works call guid old mid put put' (Err fault.Write)
      shows_front failed puts = works_cut call guid old mid room (Some opened) opens put put' text failed text_is puts

    -- ---- find

    module _ (find : call.command ≡ command.Find) (put put' : StreamState) where
      abbrev lines : List ℕ
      lines = lines_below 128 (found_line call room.table.entries)

      found_is : (none : Bool) → is_none_found call room.table.entries 128 ≡ none
          → plan_of old.medium.sectors (standing_of (Some opened) room.table) call guid ≡ (if none then refused fault.NoEntry else told lines)
      found_is none is =
          plan_is command.Find (Some opened) find ∙ ap (λ (b : Bool). if b then refused fault.NoEntry else told lines) is

      pub finds_none : is_none_found call room.table.entries 128 ≡ true → Works call guid old mid put put (Err fault.NoEntry)
      finds_none none = works_refused call guid old mid room (Some opened) opens put fault.NoEntry (found_is true none) refl refl

      pub finds_all : is_none_found call room.table.entries 128 ≡ false → PutsText {E = Failed} lines put put' (Ok tt)
          → Works call guid old mid put put' (Ok tt)
      finds_all some puts = works_told call guid old mid room (Some opened) opens put put' lines (found_is false some) puts

      pub finds_front : (failed : Failed) → is_none_found call room.table.entries 128 ≡ false → PutsText {E = Failed} lines put put' (Err failed)
          → Works call guid old mid put put' (Err fault.Write)
      finds_front failed some puts =
          works_cut call guid old mid room (Some opened) opens put put' lines failed (found_is false some) puts

    -- ---- repair

    module _ (repair : call.command ≡ command.Repair) where
      repair_is : (agree : Bool) → opened.agree ≡ agree → plan_of old.medium.sectors (standing_of (Some opened) room.table) call guid
          ≡ record { answer = Ok tt; lines = repair_word agree ++ line_end; table = if agree then None else Some room.table }
      repair_is agree is =
          plan_is command.Repair (Some opened) repair
          ∙ ap (λ (b : Bool). record { answer = Ok tt; lines = repair_word b ++ line_end; table = if b then None else Some room.table }) is

      is_no_reader : is_reader call.command ≡ false
      is_no_reader = ap is_reader repair

      pub repairs_nothing : (put put' : StreamState) (result : Result Unit CgptFault) → opened.agree ≡ true
          → PutsWord (codes "agree" ++ line_end) put put' result → Works call guid old mid put put' result
      repairs_nothing put put' result agree puts =
          let is = repair_is true agree in
          works_kept call guid old mid room (Some opened) opens put put' result (ap (λ (p : Plan). p.table) is) puts.device puts.sink
          (tells_as (told (codes "agree" ++ line_end)) (plan_of old.medium.sectors (standing_of (Some opened) room.table) call guid) put put' result
          (sym (ap (λ (p : Plan). p.answer) is)) (sym (ap (λ (p : Plan). p.lines) is)) puts.tells)

      module _ (new : DiskState) (source : Option Side) (differ : opened.agree ≡ false) where
        pub repairs_both : (put put' : StreamState) (result : Result Unit CgptFault) → Commits {E = Failed} source room.table mid new (Ok tt)
            → PutsWord (codes "repaired" ++ line_end) put put' result → Works call guid old new put put' result
        repairs_both put put' result commits puts =
            let is = repair_is false differ in
            works_written call guid old mid room (Some opened) opens source room.table new (ap (λ (p : Plan). p.table) is) is_no_reader
            put put' result commits puts.device puts.sink
            (tells_as (told (codes "repaired" ++ line_end)) (plan_of old.medium.sectors (standing_of (Some opened) room.table) call guid) put put' result
            (sym (ap (λ (p : Plan). p.answer) is)) (sym (ap (λ (p : Plan). p.lines) is)) puts.tells)

        pub repair_fails : (put : StreamState) (failed : Failed) → Commits {E = Failed} source room.table mid new (Err failed)
            → Works call guid old new put put (Err fault.Device)
        repair_fails put failed commits =
            let is = repair_is false differ in
            works_broken call guid old mid room (Some opened) opens source room.table new (ap (λ (p : Plan). p.table) is) is_no_reader
            put failed commits
