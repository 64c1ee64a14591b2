-- Eight steps, each one step of the division.
use Rattle.std.proofs.Common.{◌≡◌, ◌-◌, subst, arith}
use Rattle.wire_core.proofs.Registers.{Reaches, Reaches-start, Reaches-more, Reaches-end}
use Rattle.wire_core.proofs.checksums.shifted_out.Goals as goal

pub loop-init : goal.loop-init
loop-init c = record { is_byte = c.ranges.byte.fits; reaches = Reaches-start c.args.byte }

pub loop-preserved : goal.loop-preserved
loop-preserved c = record {
  is_byte = c.shifted-crc.type_inv;
  reaches = Reaches-more (8 - c.loop.counter) _ c.loop.crc c.shifted-crc.result c.args.byte (omega arith) c.shifted-crc.ensures c.loop.invariant.reaches;
}

pub returns : goal.returns
returns c =
    let over : 8 - c.loop.counter ≡ 0 = omega arith in
    Reaches-end c.loop.crc c.args.byte c.loop.invariant.is_byte (subst (λ n. Reaches n c.loop.crc c.args.byte) over c.loop.invariant.reaches)
