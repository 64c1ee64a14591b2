-- A fault in the table, one in the kernel space, and what comes after both.
use Rattle.std.proofs.Common.{◌≡◌, ℕ, Ok, Err, refl, rules, sym, subst}
use Rattle.board_core.specs.World.{World, world}
use Rattle.gpt_core.specs.Format.{PartitionTable}
use Rattle.boot_core.specs.Changes.{Kernel, listed, tabled}
use Rattle.boot_core.specs.Carries.{Targets}
use Rattle.boot_core.specs.Steps.{MakesLater}
use Rattle.boot_core.proofs.Making.{still_settled}
use Rattle.boot_core.proofs.MakingPlans.{written_as, later_table, later_kernel, later_all}
use Rattle.boot_core.proofs.changing.make_later.Goals as goal

pub returns-in_err-second-clause-makes : goal.returns-in_err-second-clause-makes
returns-in_err-second-clause-makes g c = λ (table : PartitionTable) own.
    let old : World = world g.F.Flash.state g.T.Tpm.state g.H.Hook.state c.args.p.now in
    let new : World = world g.F.Flash.state g.T.Tpm.state g.H.Hook.state c.write_table.new.p in
    let to : Targets = record { area = c.args.area; table = table } in
    let same : c.from_residual.result ≡ Err c.in_err-second.field-0.0 = search rules in
    subst (MakesLater c.args.done to c.args.state.now c.args.plan.now old new) (sym same)
    (later_table {T = ℕ} {U = ℕ} c.args.done to c.args.state.now c.args.plan.now old new c.in_err-second.field-0.0 c.in_err-second.ensures.flash
    (written_as c.args.plan.now.table table c.args.gpt.now.table old new (Err c.in_err-second.field-0.0) own c.in_err-second.ensures.drives)
    (c.in_err-second.ensures.carried to c.args.state.now own))

pub write_kernel-requires-clause-settled : goal.write_kernel-requires-clause-settled
write_kernel-requires-clause-settled g c =
    let old : World = world g.F.Flash.state g.T.Tpm.state g.H.Hook.state c.args.p.now in
    let new : World = world g.F.Flash.state g.T.Tpm.state g.H.Hook.state c.write_table.new.p in
    let to : Targets = record { area = c.args.area; table = c.args.gpt.now.table } in
    still_settled {T = ℕ} c.args.done to c.args.state.now (tabled c.args.plan.now.table) old new (Ok c.in_ok-second.second)
    (c.in_ok-second.ensures.carried to c.args.state.now (λ some. refl))

pub returns-in_err-third-clause-makes : goal.returns-in_err-third-clause-makes
returns-in_err-third-clause-makes g c = λ (table : PartitionTable) own.
    let old : World = world g.F.Flash.state g.T.Tpm.state g.H.Hook.state c.args.p.now in
    let mid : World = world g.F.Flash.state g.T.Tpm.state g.H.Hook.state c.write_table.new.p in
    let new : World = world g.F.Flash.state g.T.Tpm.state g.H.Hook.state c.write_kernel.new.p in
    let to : Targets = record { area = c.args.area; table = table } in
    let same : c.from_residual-in_err-third.result ≡ Err c.in_err-third.field-0.0 = search rules in
    subst (MakesLater c.args.done to c.args.state.now c.args.plan.now old new) (sym same)
    (later_kernel {T = ℕ} {S = ℕ} {U = ℕ} c.args.done to c.args.state.now c.args.plan.now old mid new c.in_ok-second.second c.in_ok-second.second c.in_err-third.field-0.0 c.in_ok-second.ensures.count
    c.in_ok-second.ensures.flash c.in_err-third.ensures.flash
    (written_as c.args.plan.now.table table c.args.gpt.now.table old mid (Ok c.in_ok-second.second) own c.in_ok-second.ensures.drives)
    c.in_err-third.ensures.drives (c.in_ok-second.ensures.carried to c.args.state.now own) (c.in_err-third.ensures.carried to c.args.state.now))

pub store_record-requires-clause-settled : goal.store_record-requires-clause-settled
store_record-requires-clause-settled g c =
    let old : World = world g.F.Flash.state g.T.Tpm.state g.H.Hook.state c.write_table.new.p in
    let new : World = world g.F.Flash.state g.T.Tpm.state g.H.Hook.state c.write_kernel.new.p in
    let to : Targets = record { area = c.args.area; table = c.args.gpt.now.table } in
    still_settled {T = ℕ} c.in_ok-second.second to c.args.state.now (listed Kernel c.args.plan.now.kernel) old new (Ok c.in_ok-third.third)
    (c.in_ok-third.ensures.carried to c.args.state.now)

pub returns-clause-makes : goal.returns-clause-makes
returns-clause-makes g c = λ (table : PartitionTable) own.
    let old : World = world g.F.Flash.state g.T.Tpm.state g.H.Hook.state c.args.p.now in
    let mid : World = world g.F.Flash.state g.T.Tpm.state g.H.Hook.state c.write_table.new.p in
    let last : World = world g.F.Flash.state g.T.Tpm.state g.H.Hook.state c.write_kernel.new.p in
    let new : World = world g.F.Flash.state g.T.Tpm.state g.H.Hook.state c.store_record.new.p in
    let to : Targets = record { area = c.args.area; table = table } in
    later_all {T = ℕ} {S = ℕ} c.args.done to c.args.state.now c.args.plan.now old mid last new c.in_ok-second.second c.in_ok-third.third c.in_ok-second.second c.in_ok-third.third c.store_record.result
    c.in_ok-second.ensures.count c.in_ok-third.ensures.count c.in_ok-second.ensures.flash c.in_ok-third.ensures.flash
    (written_as c.args.plan.now.table table c.args.gpt.now.table old mid (Ok c.in_ok-second.second) own c.in_ok-second.ensures.drives)
    c.in_ok-third.ensures.drives c.store_record.ensures.drives (c.in_ok-second.ensures.carried to c.args.state.now own) (c.in_ok-third.ensures.carried to c.args.state.now)
    (c.store_record.ensures.carried table) c.store_record.ensures.kept c.store_record.ensures.page
