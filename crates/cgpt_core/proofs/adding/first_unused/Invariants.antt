-- Each entry so far is used.
use Rattle.std.proofs.Common.{◌≡◌, ℕ, None}
use Rattle.std.specs.Prelude.{not}
use Rattle.gpt_core.specs.Entries.{is_used}
use Rattle.cgpt_core.specs.Adding.{first_below}
use Rattle.cgpt_core.proofs.adding.first_unused.Given as goal

abbrev pub invariant-loop-k : goal.invariant-loop-k
invariant-loop-k l = first_below l.k (λ (k : ℕ). not (is_used l.room.table.entries k)) ≡ None
