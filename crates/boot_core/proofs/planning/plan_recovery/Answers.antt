-- What was seen on the stick.
use Rattle.std.proofs.Common.{Result, Ok, sym, subst, ◌∙◌}
use Rattle.board_core.specs.World.{World, world}
use Rattle.board_core.specs.declared.device.Fault.{Fault}
use Rattle.key_core.specs.declared.key.PackedKey.{PackedKey}
use Rattle.kernel_core.specs.declared.rules.BootMode.TheVariants as boot_mode
use Rattle.kernel_core.specs.declared.rules.KernelRules.{KernelRules}
use Rattle.walk_core.specs.declared.drive.Seen.{Seen}
use Rattle.board_core.specs.declared.device.Drive.TheVariants.{Stick}
use Rattle.boot_core.specs.Drives.{rules_of, recovery_of}
use Rattle.boot_core.specs.Steps.{LooksAtDrive}
use Rattle.boot_core.proofs.Planned.{plan_recovered}
use Rattle.boot_core.proofs.planning.plan_recovery.Goals as goal

pub returns : goal.returns
returns g c =
    let old : World = world g.F.Flash.state g.T.Tpm.state g.H.Hook.state c.args.p.now in
    let new : World = world g.F.Flash.state g.T.Tpm.state g.H.Hook.state c.look_at.new.p in
    let found = c.args.found.now in
    let sw = c.args.sw in
    let room = c.look_at.new.room in
    let what : Seen = c.in_ok-seen.seen in
    let seen : Result Seen Fault = Ok what in
    let looked : LooksAtDrive Stick (recovery_of found.gbb) (rules_of sw found boot_mode.Recovery) old new room.gpt room.kernel seen =
    subst (λ (k : PackedKey). LooksAtDrive Stick k (rules_of sw found boot_mode.Recovery) old new room.gpt room.kernel seen) c.recovery_of-key.ensures
    (subst (λ (r : KernelRules). LooksAtDrive Stick c.recovery_of-key.result r old new room.gpt room.kernel seen) c.rules_of-rules.ensures c.in_ok-seen.ensures.looks) in
    plan_recovered sw found old new room what c.recovery_plan.result (sym c.enables_dev.ensures ∙ c.if-enables_dev.false) looked c.in_ok-seen.ensures.firmware c.recovery_plan.ensures.plan
    c.recovery_plan.ensures.stored
