use Rattle.std.proofs.Common.{◌+◌, ◌<◌, ◌≢◌, ◌∙◌, length, arith, ap, get_or-set_other, get_or-set_same, below_more}
use Rattle.make_core.specs.Fill.{fill_from}
use Rattle.make_core.proofs.Fills.{fill_byte-low, fill_from-places}
use Rattle.make_core.proofs.putting.fill_bytes.Goals as goal

pub loop-k-preserved : goal.loop-k-preserved
loop-k-preserved c =
    below_more _ _
    (λ i h. let ne : i ≢ c.loop-k.k = omega arith in rw get_or-set_other (c.loop-k.invariant i h))
    (let lt : c.loop-k.k < length c.loop-k.out = omega arith in rw get_or-set_same (fill_byte-low c.args.number c.args.tag (c.args.first + c.loop-k.k)))

pub returns : goal.returns
returns c =
    fill_from-places c.args.number c.args.tag c.args.first c.loop-k.out (λ i lt. c.loop-k.invariant i (omega (arith, lt, c.loop-k.auto.out, c.loop-k-test.false)))
    ∙ ap (fill_from c.args.number c.args.tag c.args.first) c.loop-k.auto.out
