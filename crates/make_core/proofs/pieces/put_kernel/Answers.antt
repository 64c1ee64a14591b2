use Rattle.std.proofs.Common.{[], ◌∷◌}
use Rattle.make_core.proofs.DriveParts.{puts_then}
use Rattle.make_core.proofs.pieces.put_kernel.Goals as goal

pub returns : goal.returns
returns c = puts_then c.args.at (_ ∷ []) (_ ∷ []) _ _ _ c.put_body.ensures c.put_part.ensures
