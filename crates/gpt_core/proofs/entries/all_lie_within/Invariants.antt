-- The entries so far fit.
use Rattle.std.proofs.Common.{◌≡◌, true}
use Rattle.gpt_core.specs.Entries.{all_below, entry_fits}
use Rattle.gpt_core.proofs.entries.all_lie_within.Given as goal

abbrev pub invariant-loop-k : goal.invariant-loop-k
invariant-loop-k l = all_below l.k (entry_fits l.first l.last l.entries) ≡ true
