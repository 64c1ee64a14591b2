-- No entry so far has what is looked for.
use Rattle.std.proofs.Common.{◌≡◌, ℕ, true}
use Rattle.std.specs.Prelude.{not}
use Rattle.gpt_core.specs.Entries.{all_below}
use Rattle.cgpt_core.specs.Plans.{is_found}
use Rattle.cgpt_core.proofs.finding.is_none_found.Given as goal

abbrev pub invariant-loop-k : goal.invariant-loop-k
invariant-loop-k l = all_below l.k (λ (k : ℕ). not (is_found l.call l.room.table.entries k)) ≡ true
