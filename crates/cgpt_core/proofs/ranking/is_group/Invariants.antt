-- No entry so far is in the group.
use Rattle.std.proofs.Common.{◌≡◌, ℕ, true, get_or}
use Rattle.std.specs.Prelude.{nat_eq, not}
use Rattle.gpt_core.specs.Entries.{all_below}
use Rattle.cgpt_core.proofs.ranking.is_group.Given as goal

abbrev pub invariant-loop-k : goal.invariant-loop-k
invariant-loop-k l = all_below l.k (λ (k : ℕ). not (nat_eq (get_or l.levels k 0) l.group)) ≡ true
