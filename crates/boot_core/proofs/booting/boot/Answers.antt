-- A fault of the map, a fault while reading, one while the plan is made, and a plan that was carried out.
use Rattle.std.proofs.Common.{◌≡◌, Result, Ok, Err, rules, sym, subst}
use Rattle.board_core.specs.World.{World, world}
use Rattle.rom_core.specs.declared.fault.MapFault.{MapFault}
use Rattle.boot_core.specs.declared.found.Found.{Found}
use Rattle.boot_core.specs.Hands.{handed_by}
use Rattle.boot_core.specs.Steps.{HasSizes, ReadsBoard}
use Rattle.boot_core.specs.Boots.{Boots}
use Rattle.boot_core.proofs.Whole.{boots_unread, boots_bad_flash, boots_unplanned, boots_planned}
use Rattle.boot_core.proofs.booting.boot.Goals as goal

pub returns-in-Ok-Err : goal.returns-in-Ok-Err
returns-in-Ok-Err g c =
    let old : World = world g.F.Flash.state g.T.Tpm.state g.H.Hook.state c.args.p.now in
    let sized : HasSizes old = record {
      flash = g.met.F.Flash.told_size c.args.p.now.flash.inner;
      tpm = g.met.T.Tpm.told_size c.args.p.now.tpm.inner;
      disk = g.met.D.Disk.told_size c.args.p.now.disk.inner;
      stick = g.met.E.Disk.told_size c.args.p.now.stick.inner;
    } in
    let new : World = world g.F.Flash.state g.T.Tpm.state g.H.Hook.state c.read_board.new.p in
    boots_bad_flash c.args.sw old new (handed_by c.args.room.now) c.in-Ok-Err.fault sized c.requires (subst (λ (r : Result Found MapFault). ReadsBoard old new (Ok r)) c.in-Ok-Err.field-0-is c.in-Ok-Err.ensures)

pub returns-in-Err : goal.returns-in-Err
returns-in-Err g c =
    let old : World = world g.F.Flash.state g.T.Tpm.state g.H.Hook.state c.args.p.now in
    let sized : HasSizes old = record {
      flash = g.met.F.Flash.told_size c.args.p.now.flash.inner;
      tpm = g.met.T.Tpm.told_size c.args.p.now.tpm.inner;
      disk = g.met.D.Disk.told_size c.args.p.now.disk.inner;
      stick = g.met.E.Disk.told_size c.args.p.now.stick.inner;
    } in
    let new : World = world g.F.Flash.state g.T.Tpm.state g.H.Hook.state c.read_board.new.p in
    boots_unread c.args.sw old new (handed_by c.args.room.now) c.in-Err.fault sized c.requires c.in-Err.ensures

pub returns-in_err-plan : goal.returns-in_err-plan
returns-in_err-plan g c =
    let old : World = world g.F.Flash.state g.T.Tpm.state g.H.Hook.state c.args.p.now in
    let sized : HasSizes old = record {
      flash = g.met.F.Flash.told_size c.args.p.now.flash.inner;
      tpm = g.met.T.Tpm.told_size c.args.p.now.tpm.inner;
      disk = g.met.D.Disk.told_size c.args.p.now.disk.inner;
      stick = g.met.E.Disk.told_size c.args.p.now.stick.inner;
    } in
    let mid : World = world g.F.Flash.state g.T.Tpm.state g.H.Hook.state c.read_board.new.p in
    let new : World = world g.F.Flash.state g.T.Tpm.state g.H.Hook.state c.make_plan.new.p in
    let same : c.from_residual.result ≡ Err c.in_err-plan.field-0.0 = search rules in
    subst (Boots c.args.sw old new (handed_by c.make_plan.new.room)) (sym same)
    (boots_unplanned c.args.sw old mid new c.make_plan.new.room c.in-Ok-Ok.found c.in_err-plan.field-0.0 sized c.requires
    (subst (λ (r : Result Found MapFault). ReadsBoard old mid (Ok r)) c.in-Ok-Ok.field-0-is c.in-Ok-Ok.ensures) c.in_err-plan.ensures)

pub returns : goal.returns
returns g c =
    let old : World = world g.F.Flash.state g.T.Tpm.state g.H.Hook.state c.args.p.now in
    let sized : HasSizes old = record {
      flash = g.met.F.Flash.told_size c.args.p.now.flash.inner;
      tpm = g.met.T.Tpm.told_size c.args.p.now.tpm.inner;
      disk = g.met.D.Disk.told_size c.args.p.now.disk.inner;
      stick = g.met.E.Disk.told_size c.args.p.now.stick.inner;
    } in
    let mid : World = world g.F.Flash.state g.T.Tpm.state g.H.Hook.state c.read_board.new.p in
    let last : World = world g.F.Flash.state g.T.Tpm.state g.H.Hook.state c.make_plan.new.p in
    let new : World = world g.F.Flash.state g.T.Tpm.state g.H.Hook.state c.carry_out.new.p in
    boots_planned c.args.sw old mid last new c.make_plan.new.room c.in-Ok-Ok.found c.in_ok-plan.plan c.carry_out.result sized c.requires
    (subst (λ (r : Result Found MapFault). ReadsBoard old mid (Ok r)) c.in-Ok-Ok.field-0-is c.in-Ok-Ok.ensures) c.in_ok-plan.ensures c.carry_out.ensures
