use Rattle.std.proofs.Common.{◌≡◌, ◌≤◌, ◌&&◌, ℕ, get_or}
use Rattle.std.specs.Prelude.{nat_lt}
use Rattle.cgpt_core.specs.Ranking.{count_below, is_group}
use Rattle.cgpt_core.proofs.ranking.rank.Given as goal

-- the groups so far that stand above
abbrev pub invariant-loop-above : goal.invariant-loop-above
invariant-loop-above l = record {
  counted : l.count ≡ count_below l.above (λ (above : ℕ). nat_lt l.group above && is_group (λ (k : ℕ). get_or l.levels k 0) above);
  few : l.count ≤ l.above;
}
