use Rattle.std.proofs.Common.{Err, sym, subst}
use Rattle.board_core.specs.World.{World, world}
use Rattle.make_core.specs.declared.making.MakeFault.{MakeFault}
use Rattle.make_core.specs.Make.{MakesMachine}
use Rattle.make_core.proofs.Machines.{device_failed, rows_done, hook_refused, enrolls_as}
use Rattle.make_core.proofs.making.make_machine.Goals as goal

pub returns-in-Err : goal.returns-in-Err
returns-in-Err g c = device_failed c.args.number _ _ c.in-Err.device c.requires.disk c.requires.stick c.in-Err.ensures.0 c.in-Err.ensures.1

pub returns-in-Ok : goal.returns-in-Ok
returns-in-Ok g c =
    let old : World = world g.F.Flash.state g.T.Tpm.state g.H.Hook.state c.args.p.now in
    let mid : World = world g.F.Flash.state g.T.Tpm.state g.H.Hook.state c.make_images.new.p in
    let hook = g.H.Hook.state c.enroll_all.new.hook in
    rows_done c.args.number old mid hook c.requires.stick c.in_default.ensures
    (enrolls_as _ _ mid.hook hook _ c.make_rows.ensures c.in-Ok.ensures)

pub returns-in-Err-enroll_all : goal.returns-in-Err-enroll_all
returns-in-Err-enroll_all g c =
    let old : World = world g.F.Flash.state g.T.Tpm.state g.H.Hook.state c.args.p.now in
    let mid : World = world g.F.Flash.state g.T.Tpm.state g.H.Hook.state c.make_images.new.p in
    let hook = g.H.Hook.state c.enroll_all.new.hook in
    subst (λ (f : MakeFault). MakesMachine c.args.number old (record mid { hook = hook }) (Err f)) (sym c.hook_fault.ensures)
    (hook_refused c.args.number old mid hook c.in-Err-enroll_all.fault c.requires.stick c.in_default.ensures
    (enrolls_as _ _ mid.hook hook _ c.make_rows.ensures c.in-Err-enroll_all.ensures))
