-- The entries so far pass.
use Rattle.std.proofs.Common.{◌≡◌, true}
use Rattle.gpt_core.specs.Entries.{all_below}
use Rattle.gpt_core.specs.Placing.{leaves_sectors}
use Rattle.gpt_core.proofs.placing.is_free.Given as goal

abbrev pub invariant-loop-j : goal.invariant-loop-j
invariant-loop-j l = all_below l.j (leaves_sectors l.entries l.k l.first l.last) ≡ true
