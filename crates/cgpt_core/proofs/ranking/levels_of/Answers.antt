use Rattle.std.proofs.Common.{arith, length-set, ◌∙◌}
use Rattle.cgpt_core.specs.Ranking.{level}
use Rattle.cgpt_core.proofs.Filled.{filled_more}
use Rattle.cgpt_core.proofs.ranking.levels_of.Goals as goal

pub loop-k-preserved : goal.loop-k-preserved
loop-k-preserved c = record {
  so_far =
      filled_more c.loop-k.levels (level c.args.call.now c.args.room.now.table.entries) c.loop-k.k c.level.result c.loop-k.invariant.so_far (omega (arith, c.loop-k.invariant.size, c.loop-k-test.true)) c.level.ensures.level;
  size = length-set c.loop-k.levels c.loop-k.k c.level.result ∙ c.loop-k.invariant.size;
}
