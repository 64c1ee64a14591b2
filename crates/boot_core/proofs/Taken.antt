-- No good choice is refused.
use Rattle.std.proofs.Common.{◌≡◌, ℕ, ◌<◌, Bool, true, false, List, Option, Some, None, Result, Ok, Err, refl, sym, ap, subst, ◌∙◌}
use Rattle.std.specs.Option.{option_map_or}
use Rattle.std.proofs.lemmas.Bool.{false≢true}
use Rattle.board_core.specs.World.{World}
use Rattle.fwsel_core.specs.declared.boot_mode.Mode.{Mode}
use Rattle.fwsel_core.specs.Selection.{selected_slot}
use Rattle.rom_core.specs.declared.fault.MapFault.{MapFault}
use Rattle.gpt_core.specs.Format.{PartitionTable}
use Rattle.gpt_core.specs.Tables.{table_on}
use Rattle.chain_core.specs.Slot.{SlotQuestion, slot_fault, slot_ok}
use Rattle.chain_core.specs.declared.slot_fault.SlotFault.{SlotFault}
use Rattle.chain_core.specs.declared.slot_fault.SlotOk.{SlotOk}
use Rattle.walk_core.specs.Kernels as kernels
use Rattle.walk_core.specs.Chosen.{is_good_candidate, Chosen}
use Rattle.walk_core.specs.Choice.{chosen_in}
use Rattle.walk_core.specs.Seen.{kernel_at, seen_by, seen_in, kernel_of}
use Rattle.walk_core.specs.declared.walked.Kernel.{Kernel}
use Rattle.walk_core.specs.declared.drive.Seen.{Seen}
use Rattle.walk_core.specs.declared.drive.Seen.TheVariants as seen
use Rattle.walk_core.proofs.Choices.{is_chosen}
use Rattle.boot_core.specs.declared.switches.Switches.{Switches}
use Rattle.boot_core.specs.declared.found.Found.{Found}
use Rattle.board_core.specs.declared.device.Drive.{Drive}
use Rattle.board_core.specs.declared.device.Drive.TheVariants.{Disk, Stick}
use Rattle.boot_core.specs.declared.plan.Plan.{Plan}
use Rattle.boot_core.specs.Slots.{slot_asked, slot_answer}
use Rattle.boot_core.specs.Drives.{drive_of, asked_at}
use Rattle.boot_core.specs.Plan.{missing_subcode, stick_plan_of, disk_plan_of, drive_plan_of, kernel_plan_of, slot_look, selected_answer, slot_plan_of, plan_in, plan_of}
use Rattle.boot_core.specs.Boots.{boot_plan_by, boot_plan, slot_mode, IsHandOver, TakesGoodChoice}

answer_good : (q : SlotQuestion) → slot_fault q ≡ None → slot_answer q ≡ Ok (slot_ok q)
unfolding slot_answer
answer_good q none = ap (λ (f : Option SlotFault). option_map_or Err f (Ok (slot_ok q))) none

in_slot_mode : (developer : Bool) (sw : Switches) (found : Found) (w : World) → plan_in (slot_mode developer) sw found w ≡ slot_plan_of sw found developer (selected_answer found w) w
in_slot_mode false sw found w = refl
in_slot_mode true sw found w = refl

-- ---- a good candidate is chosen, or a better one

-- a kernel is chosen
abbrev IsThere : Option Kernel → Type 0
IsThere None = ⊥
IsThere (Some kernel) = Unit {0}

there_by : (d : kernels.WalkQuestion) (entries : List ℕ) (k : ℕ) (c : Option ℕ) → Chosen d entries c → k < 128 → is_good_candidate d entries k ≡ true → IsThere (kernel_at d entries c)
there_by d entries k None none below good = absurd (false≢true (sym (none k below) ∙ good))
there_by d entries k (Some j) chosen below good = tt

sees_kernel : (d : kernels.WalkQuestion) (table : PartitionTable) (k : ℕ) → table_on d.disk.medium ≡ Some table → k < 128 → is_good_candidate d table.entries k ≡ true → IsThere (kernel_of (seen_in d))
unfolding seen_in
sees_kernel d table k there below good =
    subst (λ (o : Option PartitionTable). IsThere (kernel_of (seen_by d o))) (sym there) (there_by d table.entries k (chosen_in d table.entries) (is_chosen d table.entries) below good)

-- ---- so the plan hands over

from_stick : (found : Found) (developer : Bool) (ok : SlotOk) (subcode : ℕ) (o : Option Kernel) → IsThere o → IsHandOver (stick_plan_of found developer ok subcode o).outcome
from_stick found developer ok subcode (Some kernel) there = tt
from_stick found developer ok subcode None there = there

from_disk : (found : Found) (developer : Bool) (ok : SlotOk) (o : Option Kernel) (lowest : ℕ) (changed : Bool) → IsThere o → IsHandOver (disk_plan_of found developer ok o lowest changed).outcome
from_disk found developer ok (Some kernel) lowest changed there = tt
from_disk found developer ok None lowest changed there = there

from_drive : (found : Found) (developer : Bool) (ok : SlotOk) (on : Drive) (what : Seen) → IsThere (kernel_of what) → IsHandOver (drive_plan_of found developer ok on what).outcome
from_drive found developer ok Stick what there = from_stick found developer ok (missing_subcode what) (kernel_of what) there
from_drive found developer ok Disk seen.NoTable there = absurd there
from_drive found developer ok Disk (seen.Table walked changed) there = from_disk found developer ok walked.chosen walked.lowest changed there

pub takes_good_choice : TakesGoodChoice
unfolding boot_plan plan_of
takes_good_choice sw w found developer is mode none table there k below good =
    let q : SlotQuestion = slot_asked found (selected_slot found.state.nv) w in
    let ok : SlotOk = slot_ok q in
    let hands : IsHandOver (kernel_plan_of sw found developer ok w).outcome =
    from_drive found developer ok (drive_of sw found developer) (seen_in (asked_at (slot_look sw found developer ok) w)) (sees_kernel (asked_at (slot_look sw found developer ok) w) table k there below good) in
    let same =
    ap (λ (f : Result Found MapFault). (boot_plan_by sw w f).outcome) is
    ∙ ap (λ (m : Mode). (plan_in m sw found w).outcome) mode
    ∙ ap (λ (p : Plan). p.outcome) (in_slot_mode developer sw found w)
    ∙ ap (λ (a : Result SlotOk SlotFault). (slot_plan_of sw found developer a w).outcome) (answer_good q none) in
    subst IsHandOver (sym same) hands
