-- The slot was verified.
use Rattle.board_core.specs.World.{World, world}
use Rattle.boot_core.proofs.Verified.{asked_is, checks_slot}
use Rattle.boot_core.proofs.slots.check_slot.Goals as goal

pub returns-in-Ok : goal.returns-in-Ok
returns-in-Ok g c =
    let w : World = world g.F.Flash.state g.T.Tpm.state g.H.Hook.state c.args.p.now in
    let new : World = world g.F.Flash.state g.T.Tpm.state g.H.Hook.state (record c.args.p.now { flash = c.verify_slot.new.flash; hook = c.verify_slot.new.hook }) in
    checks_slot c.args.found.now c.args.slot w new.flash new.hook c.verify_slot.new.room _ c.in-Ok.answer
    (asked_is c.args.found.now c.args.slot w c.root_of-root.result c.vblock_of-vblock.result c.main_of-main.result c.stored_of-stored.result c.checks_versions-rollback.result
    c.root_of-root.ensures c.vblock_of-vblock.ensures c.main_of-main.ensures c.stored_of-stored.ensures c.checks_versions-rollback.ensures) c.in-Ok.ensures.meets
