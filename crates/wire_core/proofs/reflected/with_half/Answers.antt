-- The register after four zero bits, by the table.
use Rattle.wire_core.proofs.HalfBytes.{in_table}
use Rattle.wire_core.proofs.reflected.with_half.Goals as goal

pub returns : goal.returns
returns c = in_table c.args.crc
