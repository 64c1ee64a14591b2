-- The groups of the entries so far.
use Rattle.std.proofs.Common.{◌≡◌, ◌<◌, ℕ, get_or, length}
use Rattle.cgpt_core.specs.Ranking.{level}
use Rattle.cgpt_core.proofs.ranking.levels_of.Given as goal

abbrev pub invariant-loop-k : goal.invariant-loop-k
invariant-loop-k l = record {
  so_far : (j : ℕ) → j < l.k → get_or l.levels j 0 ≡ level l.call l.room.table.entries j;
  size : length l.levels ≡ 128;
}
