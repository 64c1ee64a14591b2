use Rattle.std.proofs.Common.{ℕ, get_or, arith, length-set, ◌∙◌}
use Rattle.cgpt_core.specs.Ranking.{attributes_ranked}
use Rattle.cgpt_core.proofs.Filled.{filled_more}
use Rattle.cgpt_core.proofs.ranking.attributes_ranked.Goals as goal

pub loop-k-preserved : goal.loop-k-preserved
loop-k-preserved c = record {
  so_far =
      filled_more c.loop-k.attributes (attributes_ranked c.args.given (λ (i : ℕ). get_or c.args.levels.now i 0) c.args.room.now.table.entries) c.loop-k.k
      c.attributes_at.result c.loop-k.invariant.so_far (omega (arith, c.loop-k.invariant.size, c.loop-k-test.true)) c.attributes_at.ensures;
  size = length-set c.loop-k.attributes c.loop-k.k c.attributes_at.result ∙ c.loop-k.invariant.size;
}
