-- The entries so far fit.
use Rattle.std.proofs.Common.{◌≡◌, true}
use Rattle.gpt_core.specs.Entries.{all_below, pair_fits}
use Rattle.gpt_core.proofs.entries.is_apart_from_earlier.Given as goal

abbrev pub invariant-loop-j : goal.invariant-loop-j
invariant-loop-j l = all_below l.j (pair_fits l.entries l.k) ≡ true
