use Rattle.std.proofs.Common.{refl}
use Rattle.make_core.specs.Drive.{zeros}
use Rattle.make_core.proofs.pieces.make_blank_piece.Goals as goal

pub returns : goal.returns
unfolding zeros
returns c = refl
