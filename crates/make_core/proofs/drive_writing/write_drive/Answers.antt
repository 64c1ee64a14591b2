use Rattle.std.proofs.Common.{◌≡◌, ◌*◌, ◌∙◌, List, ℕ, subst, ap, arith, true, false}
use Rattle.std.proofs.lemmas.Result.{err_from_is_err_and}
use Rattle.board_core.specs.Flash.{range}
use Rattle.make_core.specs.Drive.{drive_bytes}
use Rattle.make_core.specs.DriveWrites.{WritesPiece}
use Rattle.make_core.proofs.DriveParts.{length-drive}
use Rattle.make_core.proofs.DriveWrites.{WrittenPieces, pieces_none, pieces_more, pieces_stopped, pieces_all}
use Rattle.make_core.proofs.drive_writing.write_drive.Goals as goal

pub loop-piece-init : goal.loop-piece-init
loop-piece-init g c = pieces_none (drive_bytes c.args.number c.args.drive.now) _ c.requires.settled

pub returns-in_err-write_piece : goal.returns-in_err-write_piece
returns-in_err-write_piece g c =
    let image = drive_bytes c.args.number c.args.drive.now in
    let piece = c.loop-piece.piece in
    let mid = g.D.Disk.state c.loop-piece.disk in
    let new = g.D.Disk.state c.write_piece.new.disk in
    let writes : WritesPiece (piece * 64) (range image (piece * 32768) 32768) mid new true =
    subst (λ (bytes : List ℕ). WritesPiece (piece * 64) bytes mid new true) c.make_piece-bytes.ensures c.in_err-write_piece.ensures in
    let error = err_from_is_err_and c.from_residual.result c.from_residual.ensures.1 in
    rw error.1 (pieces_stopped image piece (g.D.Disk.state c.args.disk.now) mid new c.loop-piece-test.true c.loop-piece.invariant writes)

pub loop-piece-preserved : goal.loop-piece-preserved
loop-piece-preserved g c =
    let image = drive_bytes c.args.number c.args.drive.now in
    let piece = c.loop-piece.piece in
    let old = g.D.Disk.state c.args.disk.now in
    let mid = g.D.Disk.state c.loop-piece.disk in
    let new = g.D.Disk.state c.write_piece.new.disk in
    let writes : WritesPiece (piece * 64) (range image (piece * 32768) 32768) mid new false =
    subst (λ (bytes : List ℕ). WritesPiece (piece * 64) bytes mid new false) c.make_piece-bytes.ensures c.in_ok-write_piece.ensures in
    pieces_more image piece old mid new c.loop-piece-test.true (length-drive c.args.number c.args.drive.now c.requires.drive)
    (λ told. g.met.D.Disk.told_size c.args.disk.now told ∙ ap (λ (n : ℕ). n * 512) c.requires.size) c.loop-piece.invariant writes

pub returns : goal.returns
returns g c =
    let image = drive_bytes c.args.number c.args.drive.now in
    let old = g.D.Disk.state c.args.disk.now in
    let new = g.D.Disk.state c.loop-piece.disk in
    let end : c.loop-piece.piece ≡ 256 = omega (arith, c.loop-piece-test.false, c.loop-piece.auto.piece-end) in
    pieces_all image old new (length-drive c.args.number c.args.drive.now c.requires.drive) (λ told. g.met.D.Disk.told_size c.args.disk.now told ∙ ap (λ (n : ℕ). n * 512) c.requires.size)
    (subst (λ (n : ℕ). WrittenPieces image n old new) end c.loop-piece.invariant)
