-- What the shift leaves, by the highest bit, is what one step of the division leaves.
use Rattle.wire_core.proofs.Registers.{shift_zero, shift_one}
use Rattle.wire_core.proofs.checksums.shifted.Goals as goal

pub returns-then-crc-eq0 : goal.returns-then-crc-eq0
returns-then-crc-eq0 c = shift_zero c.args.crc c.ranges.crc.fits c.if-crc-eq0.true

pub returns-else-crc-eq0 : goal.returns-else-crc-eq0
returns-else-crc-eq0 c = shift_one c.args.crc c.ranges.crc.fits c.if-crc-eq0.false
