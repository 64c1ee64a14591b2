-- The drive was looked at, or a device failed.
use Rattle.std.proofs.Common.{◌≡◌, Result, Err, sym, ap, ◌∙◌}
use Rattle.board_core.specs.World.{World, world}
use Rattle.board_core.specs.declared.device.Fault.{Fault}
use Rattle.walk_core.specs.declared.drive.Seen.{Seen}
use Rattle.chain_core.specs.declared.fault.Failure.{Failure}
use Rattle.board_core.specs.declared.device.Drive.{Drive}
use Rattle.board_core.specs.declared.device.Drive.TheVariants.{Disk, Stick}
use Rattle.boot_core.specs.Drives.{fault_on}
use Rattle.boot_core.proofs.OnDrives.{said, looks_at}
use Rattle.boot_core.proofs.drive_seen.look_at.Goals as goal
use Rattle.boot_core.proofs.drive_seen.look_at.Goals.{in-Disk, in-Stick}

pub returns-in-Ok-clause-looks : goal.returns-in-Ok-clause-looks
returns-in-Ok-clause-looks g c = elim c.match-drive.branch [
  | in-Disk w ↦
      let old : World = world g.F.Flash.state g.T.Tpm.state g.H.Hook.state c.args.p.now in
      rw (w.in-Disk.is, w.p-is, w.room-is, ap (said Disk) (sym c.in-Ok.is ∙ w.answer-is))
      (looks_at Disk c.args.key.now c.args.rules.now old w.see-answer.new.gpt _ _ w.see-answer.new.body w.see-answer.result w.see-answer.ensures.meets)
  | in-Stick w ↦
      let old : World = world g.F.Flash.state g.T.Tpm.state g.H.Hook.state c.args.p.now in
      rw (w.in-Stick.is, w.p-is, w.room-is, ap (said Stick) (sym c.in-Ok.is ∙ w.answer-is))
      (looks_at Stick c.args.key.now c.args.rules.now old w.see-answer-in-Stick.new.gpt _ _ w.see-answer-in-Stick.new.body w.see-answer-in-Stick.result w.see-answer-in-Stick.ensures.meets)
]

-- the fault that is told is that of the answer of the look
same_fault : (drive drive' : Drive) (failure : Failure) (fault : Fault) (answer was : Result Seen Failure) → fault ≡ fault_on drive' failure → drive' ≡ drive → was ≡ Err failure → was ≡ answer
    → (let r : Result Seen Fault = Err fault in r) ≡ said drive answer
same_fault drive drive' failure fault answer was told is failed same = rw (told, is) (ap (said drive) (sym failed ∙ same))

pub returns-in-Err-clause-looks : goal.returns-in-Err-clause-looks
returns-in-Err-clause-looks g c = elim c.match-drive.branch [
  | in-Disk w ↦
      let old : World = world g.F.Flash.state g.T.Tpm.state g.H.Hook.state c.args.p.now in
      rw (same_fault Disk c.args.drive c.in-Err.failure c.fault_on.result w.see-answer.result c.match-drive.answer c.fault_on.ensures w.in-Disk.is c.in-Err.is w.answer-is, w.in-Disk.is, w.p-is, w.room-is)
      (looks_at Disk c.args.key.now c.args.rules.now old w.see-answer.new.gpt _ _ w.see-answer.new.body w.see-answer.result w.see-answer.ensures.meets)
  | in-Stick w ↦
      let old : World = world g.F.Flash.state g.T.Tpm.state g.H.Hook.state c.args.p.now in
      rw (same_fault Stick c.args.drive c.in-Err.failure c.fault_on.result w.see-answer-in-Stick.result c.match-drive.answer c.fault_on.ensures w.in-Stick.is c.in-Err.is w.answer-is, w.in-Stick.is, w.p-is, w.room-is)
      (looks_at Stick c.args.key.now c.args.rules.now old w.see-answer-in-Stick.new.gpt _ _ w.see-answer-in-Stick.new.body w.see-answer-in-Stick.result w.see-answer-in-Stick.ensures.meets)
]
