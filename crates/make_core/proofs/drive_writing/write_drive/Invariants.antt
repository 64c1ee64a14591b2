use Rattle.make_core.specs.Drive.{drive_bytes}
use Rattle.make_core.proofs.DriveWrites.{WrittenPieces}
use Rattle.make_core.proofs.drive_writing.write_drive.Given as goal

-- the pieces so far are the drive's
abbrev pub invariant-loop-piece : goal.invariant-loop-piece
invariant-loop-piece g l = WrittenPieces (drive_bytes l.number l.drive) l.piece (g.D.Disk.state l.fn.disk) (g.D.Disk.state l.disk)
