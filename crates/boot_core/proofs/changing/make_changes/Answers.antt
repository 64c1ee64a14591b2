-- A fault in the first changes, and what comes after them.
use Rattle.std.proofs.Common.{◌≡◌, ℕ, Ok, Err, rules, sym, subst}
use Rattle.std.specs.Prelude.{IsTrue}
use Rattle.board_core.specs.Disk.{DiskState}
use Rattle.board_core.specs.World.{World, world}
use Rattle.gpt_core.specs.Format.{PartitionTable}
use Rattle.gpt_core.specs.Room.{CanCommit}
use Rattle.boot_core.specs.Drives.{no_table}
use Rattle.boot_core.specs.Plan.{first_changes}
use Rattle.boot_core.specs.Steps.{IsAreaIn, to_of, Makes}
use Rattle.boot_core.proofs.Making.{still_settled}
use Rattle.boot_core.proofs.MakingPlans.{makes_cut, makes_both}
use Rattle.boot_core.proofs.changing.make_changes.Goals as goal

pub returns-in_err-done-clause-makes : goal.returns-in_err-done-clause-makes
returns-in_err-done-clause-makes g c = λ (table : PartitionTable) own.
    let old : World = world g.F.Flash.state g.T.Tpm.state g.H.Hook.state c.args.p.now in
    let new : World = world g.F.Flash.state g.T.Tpm.state g.H.Hook.state c.make_first.new.p in
    let same : c.from_residual.result ≡ Err c.in_err-done.field-0.0 = search rules in
    subst (Makes table c.args.found.now c.args.plan.now old new) (sym same)
    (makes_cut {T = ℕ} {U = ℕ} table c.args.found.now c.args.plan.now old new c.in_err-done.field-0.0 (c.in_err-done.ensures.makes table))

pub make_later-requires-clause-settled : goal.make_later-requires-clause-settled
make_later-requires-clause-settled g c =
    let old : World = world g.F.Flash.state g.T.Tpm.state g.H.Hook.state c.args.p.now in
    let new : World = world g.F.Flash.state g.T.Tpm.state g.H.Hook.state c.make_first.new.p in
    still_settled {T = ℕ} 0 (to_of c.args.found.now no_table) c.args.found.now.state (first_changes c.args.plan.now) old new (Ok c.in_ok-done.done) (c.in_ok-done.ensures.makes no_table).carried

pub make_later-requires-clause-area : goal.make_later-requires-clause-area
make_later-requires-clause-area g c =
    let old : World = world g.F.Flash.state g.T.Tpm.state g.H.Hook.state c.args.p.now in
    let new : World = world g.F.Flash.state g.T.Tpm.state g.H.Hook.state c.make_first.new.p in
    subst (λ (size : ℕ). IsAreaIn size c.args.found.now.map.nvram.at) (sym (c.in_ok-done.ensures.makes no_table).carried.frame.flash.size) c.requires.area

pub make_later-requires-clause-state : goal.make_later-requires-clause-state
make_later-requires-clause-state g c = λ told.
    c.in_ok-done.ensures.stands (subst IsTrue (c.in_ok-done.ensures.makes no_table).carried.frame.flash.told told)

pub make_later-requires-clause-ready : goal.make_later-requires-clause-ready
make_later-requires-clause-ready g c = λ wanted.
    subst (λ (disk : DiskState). CanCommit disk c.args.gpt.now) (sym (c.in_ok-done.ensures.makes no_table).drives.disk) (c.requires.ready wanted)

pub returns-clause-makes : goal.returns-clause-makes
returns-clause-makes g c = λ (table : PartitionTable) own.
    let old : World = world g.F.Flash.state g.T.Tpm.state g.H.Hook.state c.args.p.now in
    let mid : World = world g.F.Flash.state g.T.Tpm.state g.H.Hook.state c.make_first.new.p in
    let new : World = world g.F.Flash.state g.T.Tpm.state g.H.Hook.state c.make_later.new.p in
    makes_both {T = ℕ} table c.args.found.now c.args.plan.now c.make_first.new.state old mid new c.in_ok-done.done c.in_ok-done.done c.make_later.result c.in_ok-done.ensures.count c.requires.alike c.in_ok-done.ensures.state
    c.requires.within (c.in_ok-done.ensures.makes table) (c.make_later.ensures.makes table own)
