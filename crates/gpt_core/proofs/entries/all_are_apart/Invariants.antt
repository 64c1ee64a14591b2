-- The entries so far fit.
use Rattle.std.proofs.Common.{◌≡◌, true}
use Rattle.gpt_core.specs.Entries.{all_below, fits_earlier}
use Rattle.gpt_core.proofs.entries.all_are_apart.Given as goal

abbrev pub invariant-loop-k : goal.invariant-loop-k
invariant-loop-k l = all_below l.k (fits_earlier l.entries) ≡ true
