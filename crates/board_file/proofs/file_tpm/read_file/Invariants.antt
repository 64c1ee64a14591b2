use Rattle.std.proofs.Common.{◌≤◌}
use Rattle.board_file.proofs.file_tpm.read_file.Given as goal

abbrev pub invariant-pieces : goal.invariant-pieces
invariant-pieces g l = l.count ≤ 64
