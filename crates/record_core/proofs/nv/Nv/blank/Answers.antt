-- The blank record is good, by computation.
use Rattle.std.proofs.Common.{refl}
use Rattle.wire_core.specs.Crc8.{crc8_of, remainder}
use Rattle.record_core.proofs.nv.Nv.blank.Goals as goal

pub invariant_of-result : goal.invariant_of-result
unfolding crc8_of remainder
invariant_of-result c = record { size = refl; good = refl }
