use Rattle.std.proofs.Common.{◌≡◌, length, refl, arith}
use Rattle.std.proofs.lemmas.Result.{err_from_is_err_and}
use Rattle.make_core.proofs.DriveWrites.{piece_unwritten, piece_unflushed, piece_written}
use Rattle.make_core.proofs.drive_writing.write_piece.Goals as goal

pub returns-in_err-write : goal.returns-in_err-write
returns-in_err-write g c =
    let error = err_from_is_err_and c.from_residual.result c.from_residual.ensures.1 in
    rw error.1 (piece_unwritten c.args.lba c.args.bytes.now _ _ _ (g.met.D.Disk.told_pending c.args.disk.now) c.requires.settled c.in_err-write.ensures.meets refl)

pub returns-in_err-flush : goal.returns-in_err-flush
returns-in_err-flush g c =
    let error = err_from_is_err_and c.from_residual-in_err-flush.result c.from_residual-in_err-flush.ensures.1 in
    let long : length c.args.bytes.now ≡ 32768 = c.told-bytes in
    rw error.1 (piece_unflushed c.args.lba c.args.bytes.now _ _ _ _ _ (omega (arith, long)) (omega (arith, long, c.requires.inside)) (g.met.D.Disk.told_size c.args.disk.now)
    (g.met.D.Disk.told_pending c.args.disk.now) c.requires.settled c.in_ok-write.ensures.meets c.in_err-flush.ensures.meets refl refl)

pub returns : goal.returns
returns g c = piece_written c.args.lba c.args.bytes.now _ _ _ _ _ c.in_ok-write.ensures.meets c.in_ok-flush.ensures.meets refl refl
