-- The entries so far pass.
use Rattle.std.proofs.Common.{◌≡◌, true}
use Rattle.gpt_core.specs.Entries.{all_below}
use Rattle.gpt_core.specs.Placing.{leaves_guid}
use Rattle.gpt_core.proofs.placing.is_unique.Given as goal

abbrev pub invariant-loop-j : goal.invariant-loop-j
invariant-loop-j l = all_below l.j (leaves_guid l.entries l.k l.unique) ≡ true
