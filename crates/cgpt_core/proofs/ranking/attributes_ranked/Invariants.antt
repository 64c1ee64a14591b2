-- The attributes of the entries so far.
use Rattle.std.proofs.Common.{◌≡◌, ◌<◌, ℕ, get_or, length}
use Rattle.cgpt_core.specs.Ranking.{attributes_ranked}
use Rattle.cgpt_core.proofs.ranking.attributes_ranked.Given as goal

abbrev pub invariant-loop-k : goal.invariant-loop-k
invariant-loop-k l = record {
  so_far : (j : ℕ) → j < l.k → get_or l.attributes j 0 ≡ attributes_ranked l.given (λ (i : ℕ). get_or l.levels i 0) l.room.table.entries j;
  size : length l.attributes ≡ 128;
}
