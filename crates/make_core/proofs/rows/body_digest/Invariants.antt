use Rattle.std.proofs.Common.{◌*◌}
use Rattle.sha2.specs.Hashers.{Holds256}
use Rattle.make_core.specs.Fill.{fill}
use Rattle.make_core.proofs.rows.body_digest.Given as goal

-- the hasher holds the pieces so far
abbrev pub invariant-loop-piece : goal.invariant-loop-piece
invariant-loop-piece l = Holds256 l.hasher (fill l.number l.tag (512 * l.piece))
