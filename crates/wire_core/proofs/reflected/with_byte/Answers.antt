-- Twice four bits are the eight of a byte.
use Rattle.std.proofs.Common.{rules}
use Rattle.wire_core.proofs.HalfBytes.{byte_taken}
use Rattle.wire_core.proofs.reflected.with_byte.Goals as goal

pub returns : goal.returns
returns c = byte_taken c.args.crc c.args.byte c.from.result c.with_half.result c.with_half-2.result c.ranges.byte.fits (search rules) c.with_half.ensures c.with_half-2.ensures
