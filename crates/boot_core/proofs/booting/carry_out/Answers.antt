-- A fault in the changes, one in the locks, and none.
use Rattle.std.proofs.Common.{◌≡◌, Err, rules, sym, subst}
use Rattle.board_core.specs.World.{World, world}
use Rattle.gpt_core.specs.Format.{PartitionTable}
use Rattle.boot_core.specs.Steps.{Finishes}
use Rattle.boot_core.proofs.Finishing.{finishes_cut, finishes_unlocked, finishes_whole}
use Rattle.boot_core.proofs.booting.carry_out.Goals as goal

pub returns-in_err-done : goal.returns-in_err-done
returns-in_err-done g c = λ (table : PartitionTable) own.
    let old : World = world g.F.Flash.state g.T.Tpm.state g.H.Hook.state c.args.p.now in
    let new : World = world g.F.Flash.state g.T.Tpm.state g.H.Hook.state c.make_changes.new.p in
    let same : c.from_residual.result ≡ Err c.in_err-done.field-0.0 = search rules in
    subst (Finishes table c.args.found.now c.args.plan.now old new) (sym same)
    (finishes_cut table c.args.found.now c.args.plan.now old new c.in_err-done.field-0.0 (c.in_err-done.ensures.makes table own))

pub returns-in_err-lock_at : goal.returns-in_err-lock_at
returns-in_err-lock_at g c = λ (table : PartitionTable) own.
    let old : World = world g.F.Flash.state g.T.Tpm.state g.H.Hook.state c.args.p.now in
    let mid : World = world g.F.Flash.state g.T.Tpm.state g.H.Hook.state c.make_changes.new.p in
    let new : World = world g.F.Flash.state g.T.Tpm.state g.H.Hook.state c.lock_at.new.p in
    let same : c.from_residual-in_err-lock_at.result ≡ Err c.in_err-lock_at.field-0.0 = search rules in
    subst (Finishes table c.args.found.now c.args.plan.now old new) (sym same)
    (finishes_unlocked table c.args.found.now c.args.plan.now old mid new c.in_ok-done.done c.in_err-lock_at.field-0.0 c.in_ok-done.ensures.count (c.in_ok-done.ensures.makes table own) c.in_err-lock_at.ensures)

pub returns : goal.returns
returns g c = λ (table : PartitionTable) own.
    let old : World = world g.F.Flash.state g.T.Tpm.state g.H.Hook.state c.args.p.now in
    let mid : World = world g.F.Flash.state g.T.Tpm.state g.H.Hook.state c.make_changes.new.p in
    let new : World = world g.F.Flash.state g.T.Tpm.state g.H.Hook.state c.lock_at.new.p in
    finishes_whole table c.args.found.now c.args.plan.now old mid new c.in_ok-done.done c.in_ok-done.ensures.count (c.in_ok-done.ensures.makes table own) c.in_ok-lock_at.ensures
