-- Each mode.
use Rattle.std.proofs.Common.{sym, ap, ◌∙◌}
use Rattle.board_core.specs.World.{World, world}
use Rattle.fwsel_core.specs.declared.boot_mode.Mode.TheVariants.{Normal, Developer, Manual, Broken}
use Rattle.fwsel_core.specs.Mode.{mode_of}
use Rattle.boot_core.proofs.Planned.{plan_by_mode, plan_broken}
use Rattle.boot_core.proofs.planning.make_plan.Goals as goal

pub returns-in-Manual : goal.returns-in-Manual
returns-in-Manual g c =
    let w : World = world g.F.Flash.state g.T.Tpm.state g.H.Hook.state c.args.p.now in
    let new : World = world g.F.Flash.state g.T.Tpm.state g.H.Hook.state c.plan_recovery.new.p in
    plan_by_mode c.args.sw c.args.found.now Manual w new c.plan_recovery.new.room c.plan_recovery.result (sym c.in-Manual.is ∙ c.mode.ensures ∙ ap mode_of c.facts_of.ensures) c.plan_recovery.ensures

pub returns-in-Broken : goal.returns-in-Broken
returns-in-Broken g c =
    let w : World = world g.F.Flash.state g.T.Tpm.state g.H.Hook.state c.args.p.now in
    plan_by_mode c.args.sw c.args.found.now (Broken c.in-Broken.reason c.in-Broken.subcode) w w c.args.room.now _ (sym c.in-Broken.is ∙ c.mode.ensures ∙ ap mode_of c.facts_of.ensures)
    (plan_broken c.args.sw c.args.found.now c.in-Broken.reason c.in-Broken.subcode w c.args.room.now c.screen_plan.result c.screen_plan.ensures)

pub returns-in-Normal : goal.returns-in-Normal
returns-in-Normal g c =
    let w : World = world g.F.Flash.state g.T.Tpm.state g.H.Hook.state c.args.p.now in
    let new : World = world g.F.Flash.state g.T.Tpm.state g.H.Hook.state c.plan_slot.new.p in
    plan_by_mode c.args.sw c.args.found.now Normal w new c.plan_slot.new.room c.plan_slot.result (sym c.in-Normal.is ∙ c.mode.ensures ∙ ap mode_of c.facts_of.ensures) c.plan_slot.ensures

pub returns-in-Developer : goal.returns-in-Developer
returns-in-Developer g c =
    let w : World = world g.F.Flash.state g.T.Tpm.state g.H.Hook.state c.args.p.now in
    let new : World = world g.F.Flash.state g.T.Tpm.state g.H.Hook.state c.plan_slot-in-Developer.new.p in
    plan_by_mode c.args.sw c.args.found.now Developer w new c.plan_slot-in-Developer.new.room c.plan_slot-in-Developer.result (sym c.in-Developer.is ∙ c.mode.ensures ∙ ap mode_of c.facts_of.ensures)
    c.plan_slot-in-Developer.ensures
