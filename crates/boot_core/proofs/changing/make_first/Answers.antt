-- A fault in the firmware space, and what comes after it.
use Rattle.std.proofs.Common.{◌≡◌, ℕ, Err, rules, sym, subst}
use Rattle.board_core.specs.World.{World, world}
use Rattle.gpt_core.specs.Format.{PartitionTable}
use Rattle.boot_core.specs.Carries.{Targets}
use Rattle.boot_core.specs.Steps.{to_of, MakesFirst}
use Rattle.boot_core.proofs.MakingPlans.{first_cut, first_both}
use Rattle.boot_core.proofs.changing.make_first.Goals as goal

pub returns-in_err-first-clause-makes : goal.returns-in_err-first-clause-makes
returns-in_err-first-clause-makes g c = λ (table : PartitionTable).
    let old : World = world g.F.Flash.state g.T.Tpm.state g.H.Hook.state c.args.p.now in
    let new : World = world g.F.Flash.state g.T.Tpm.state g.H.Hook.state c.write_firmware.new.p in
    let to : Targets = to_of c.args.found.now table in
    let same : c.from_residual.result ≡ Err c.in_err-first.field-0.0 = search rules in
    subst (MakesFirst to c.args.state.now c.args.plan.now old new) (sym same)
    (first_cut {T = ℕ} {U = ℕ} to c.args.state.now c.args.plan.now old new c.in_err-first.field-0.0 c.in_err-first.ensures.flash c.in_err-first.ensures.drives
    (c.in_err-first.ensures.carried to c.args.state.now))

pub returns-clause-makes : goal.returns-clause-makes
returns-clause-makes g c = λ (table : PartitionTable).
    let old : World = world g.F.Flash.state g.T.Tpm.state g.H.Hook.state c.args.p.now in
    let mid : World = world g.F.Flash.state g.T.Tpm.state g.H.Hook.state c.write_firmware.new.p in
    let new : World = world g.F.Flash.state g.T.Tpm.state g.H.Hook.state c.store_record.new.p in
    let to : Targets = to_of c.args.found.now table in
    first_both {T = ℕ} to c.args.state.now c.args.plan.now old mid new c.in_ok-first.first c.in_ok-first.first c.store_record.result c.in_ok-first.ensures.count c.in_ok-first.ensures.flash c.in_ok-first.ensures.drives
    c.store_record.ensures.drives (c.in_ok-first.ensures.carried to c.args.state.now) c.store_record.ensures.kept (c.store_record.ensures.carried table)
