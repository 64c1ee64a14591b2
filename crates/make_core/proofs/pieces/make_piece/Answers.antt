use Rattle.std.proofs.Common.{◌+◌, ◌*◌, ◌≤◌, ◌∙◌, [], ◌∷◌, sym, arith}
use Rattle.make_core.specs.Drive.{zeros, drive_bytes, kernel_parts, second_parts}
use Rattle.make_core.proofs.DriveParts.{length-zeros, range-zeros, puts_then}
use Rattle.make_core.proofs.pieces.make_piece.Goals as goal

pub returns : goal.returns
unfolding drive_bytes
returns c =
    let at = c.args.piece * 32768 in
    let inside : at + 32768 ≤ 8388608 = omega (arith, c.requires.few) in
    let kernels = puts_then at (kernel_parts c.args.number 32768 c.args.drive.now.first) (second_parts c.args.number c.args.drive.now.second) _ _ _ c.put_second.ensures c.put_kernel.ensures in
    let backup = puts_then at (_ ∷ []) _ _ _ _ kernels c.put_part.ensures in
    let backup_entries = puts_then at (_ ∷ []) _ _ _ _ backup c.put_part-2.ensures in
    let entries = puts_then at (_ ∷ []) _ _ _ _ backup_entries c.put_part-3.ensures in
    let all = puts_then at (_ ∷ []) _ _ _ _ entries c.put_part-4.ensures in
    all.puts (zeros 8388608) (length-zeros 8388608) (c.make_blank_piece-out.ensures ∙ sym (range-zeros 8388608 at 32768 inside))
