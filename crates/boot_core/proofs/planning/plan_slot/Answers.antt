-- A fault in the look at the drive, and what was seen there.
use Rattle.std.proofs.Common.{◌≡◌, Result, Ok, Err, rules, sym, ap, subst, ◌∙◌}
use Rattle.board_core.specs.World.{World, world}
use Rattle.fwsel_core.specs.declared.slot.Slot.{Slot}
use Rattle.fwsel_core.specs.declared.selection.Selection.{Selection}
use Rattle.fwsel_core.specs.Selection.{selected_slot}
use Rattle.chain_core.specs.declared.slot_fault.SlotFault.{SlotFault}
use Rattle.chain_core.specs.declared.slot_fault.SlotOk.{SlotOk}
use Rattle.kernel_core.specs.declared.rules.KernelRules.{KernelRules}
use Rattle.walk_core.specs.declared.drive.Seen.{Seen}
use Rattle.board_core.specs.declared.device.Fault.{Fault}
use Rattle.board_core.specs.declared.device.Drive.{Drive}
use Rattle.boot_core.specs.Drives.{drive_of, rules_of}
use Rattle.boot_core.specs.Plan.{boot_mode_of, drive_plan_of}
use Rattle.boot_core.specs.Steps.{LooksAtDrive, ChecksSlot, PlansSlot}
use Rattle.boot_core.proofs.Planned.{plan_unseen, plan_good}
use Rattle.boot_core.proofs.planning.plan_slot.Goals as goal

pub returns-in_err-seen : goal.returns-in_err-seen
returns-in_err-seen g c =
    let old : World = world g.F.Flash.state g.T.Tpm.state g.H.Hook.state c.args.p.now in
    let mid : World = world g.F.Flash.state g.T.Tpm.state g.H.Hook.state c.check_slot.new.p in
    let new : World = world g.F.Flash.state g.T.Tpm.state g.H.Hook.state c.look_at.new.p in
    let found = c.args.found.now in
    let sw = c.args.sw in
    let developer = c.args.developer in
    let room = c.look_at.new.room in
    let ok = c.in-Ok.ok in
    let fault : Fault = c.in_err-seen.field-0.0 in
    let unseen : Result Seen Fault = Err fault in
    let same : c.from_residual-in_err-seen.result ≡ Err fault = search rules in
    let checked : ChecksSlot found c.select-selection.result.slot old mid c.check_slot.new.room.slot (Ok (Ok ok)) =
    subst (λ (a : Result SlotOk SlotFault). ChecksSlot found c.select-selection.result.slot old mid c.check_slot.new.room.slot (Ok a)) c.in-Ok.is c.in_ok-ok.ensures in
    let here : ChecksSlot found (selected_slot found.state.nv) old mid c.check_slot.new.room.slot (Ok (Ok ok)) =
    subst (λ (s : Slot). ChecksSlot found s old mid c.check_slot.new.room.slot (Ok (Ok ok))) (ap (λ (s : Selection). s.slot) c.select-selection.ensures.selection) checked in
    let rules : c.rules_of-rules.result ≡ rules_of sw found (boot_mode_of developer) = c.rules_of-rules.ensures ∙ ap (rules_of sw found) c.boot_mode_of.ensures in
    let looked : LooksAtDrive (drive_of sw found developer) ok.subkey (rules_of sw found (boot_mode_of developer)) mid new room.gpt room.kernel unseen =
    subst (λ (d : Drive). LooksAtDrive d ok.subkey (rules_of sw found (boot_mode_of developer)) mid new room.gpt room.kernel unseen) c.drive_of-drive.ensures
    (subst (λ (r : KernelRules). LooksAtDrive c.drive_of-drive.result ok.subkey r mid new room.gpt room.kernel unseen) rules c.in_err-seen.ensures.looks) in
    subst (PlansSlot sw found developer old new room) (sym same) (plan_unseen sw found developer old mid new room c.check_slot.new.room.slot ok fault here looked)

pub returns : goal.returns
returns g c =
    let old : World = world g.F.Flash.state g.T.Tpm.state g.H.Hook.state c.args.p.now in
    let mid : World = world g.F.Flash.state g.T.Tpm.state g.H.Hook.state c.check_slot.new.p in
    let new : World = world g.F.Flash.state g.T.Tpm.state g.H.Hook.state c.look_at.new.p in
    let found = c.args.found.now in
    let sw = c.args.sw in
    let developer = c.args.developer in
    let room = c.look_at.new.room in
    let ok = c.in-Ok.ok in
    let what : Seen = c.in_ok-seen.seen in
    let seen : Result Seen Fault = Ok what in
    let checked : ChecksSlot found c.select-selection.result.slot old mid room.slot (Ok (Ok ok)) =
    rw (c.in_ok-seen.ensures.slot) (subst (λ (a : Result SlotOk SlotFault). ChecksSlot found c.select-selection.result.slot old mid c.check_slot.new.room.slot (Ok a)) c.in-Ok.is c.in_ok-ok.ensures) in
    let here : ChecksSlot found (selected_slot found.state.nv) old mid room.slot (Ok (Ok ok)) =
    subst (λ (s : Slot). ChecksSlot found s old mid room.slot (Ok (Ok ok))) (ap (λ (s : Selection). s.slot) c.select-selection.ensures.selection) checked in
    let rules : c.rules_of-rules.result ≡ rules_of sw found (boot_mode_of developer) = c.rules_of-rules.ensures ∙ ap (rules_of sw found) c.boot_mode_of.ensures in
    let looked : LooksAtDrive (drive_of sw found developer) ok.subkey (rules_of sw found (boot_mode_of developer)) mid new room.gpt room.kernel seen =
    subst (λ (d : Drive). LooksAtDrive d ok.subkey (rules_of sw found (boot_mode_of developer)) mid new room.gpt room.kernel seen) c.drive_of-drive.ensures
    (subst (λ (r : KernelRules). LooksAtDrive c.drive_of-drive.result ok.subkey r mid new room.gpt room.kernel seen) rules c.in_ok-seen.ensures.looks) in
    plan_good sw found developer old mid new room ok what c.drive_plan.result here looked c.in_ok-seen.ensures.firmware
    (c.drive_plan.ensures.plan ∙ ap (λ (d : Drive). drive_plan_of found developer ok d what) c.drive_of-drive.ensures) c.drive_plan.ensures.version c.drive_plan.ensures.kernel
    c.drive_plan.ensures.stored
