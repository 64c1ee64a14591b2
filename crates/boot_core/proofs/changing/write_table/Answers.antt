-- Each exit: no change, a failed one, and one that was made.
use Rattle.std.proofs.Common.{ℕ, ◌+◌, Bool, Ok, Err, sym, subst}
use Rattle.board_core.specs.declared.device.Failed.{Failed}
use Rattle.board_core.specs.World.{World, world}
use Rattle.nvstore_core.specs.declared.state.NvState.{NvState}
use Rattle.gpt_core.specs.Commits.{Commits}
use Rattle.boot_core.specs.Carries.{Targets, CarriesOut}
use Rattle.boot_core.specs.Changes.{tabled}
use Rattle.boot_core.proofs.Making.{none_carried}
use Rattle.boot_core.proofs.MakingTables.{table_made, table_failed, disk_fault}
use Rattle.boot_core.proofs.changing.write_table.Goals as goal

pub returns-then-not-wanted-clause-carried : goal.returns-then-not-wanted-clause-carried
returns-then-not-wanted-clause-carried g c = λ (to : Targets) (state : NvState) own.
    let w : World = world g.F.Flash.state g.T.Tpm.state g.H.Hook.state c.args.p.now in
    subst (λ (wanted : Bool). CarriesOut {T = ℕ} c.args.done to state (tabled wanted) w w (Ok c.args.done)) (sym c.if-not-wanted.true) (none_carried c.args.done to state w c.args.done c.requires.settled)

pub returns-in_default-clause-carried : goal.returns-in_default-clause-carried
returns-in_default-clause-carried g c = λ (to : Targets) (state : NvState) own.
    let w : World = world g.F.Flash.state g.T.Tpm.state g.H.Hook.state c.args.p.now in
    let new : World = world g.F.Flash.state g.T.Tpm.state g.H.Hook.state (record c.args.p.now { disk = c.commit.new.disk }) in
    let meets : Commits c.args.gpt.now.source to.table w.disk new.disk (Err c.in_default.field-0) = rw (own c.if-not-wanted.false) c.in_default.ensures.meets in
    subst (λ (wanted : Bool). CarriesOut {T = ℕ} c.args.done to state (tabled wanted) w new (Err (disk_fault c.args.done))) (sym c.if-not-wanted.false)
    (table_failed {T = ℕ} c.args.done to.area c.args.gpt.now.source to.table state w new.disk c.in_default.field-0 c.requires.settled c.args.p.now.disk.to_go meets)

pub returns-clause-carried : goal.returns-clause-carried
returns-clause-carried g c = λ (to : Targets) (state : NvState) own.
    let w : World = world g.F.Flash.state g.T.Tpm.state g.H.Hook.state c.args.p.now in
    let new : World = world g.F.Flash.state g.T.Tpm.state g.H.Hook.state (record c.args.p.now { disk = c.commit.new.disk }) in
    let meets : Commits {E = Failed} c.args.gpt.now.source to.table w.disk new.disk (Ok tt) = rw (own c.if-not-wanted.false) c.in-Ok.ensures.meets in
    subst (λ (wanted : Bool). CarriesOut {T = ℕ} c.args.done to state (tabled wanted) w new (Ok (c.args.done + 1))) (sym c.if-not-wanted.false)
    (table_made {T = ℕ} {E = Failed} c.args.done to.area c.args.gpt.now.source to.table state w new.disk (c.args.done + 1) c.requires.settled meets)
