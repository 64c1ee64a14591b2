use Rattle.std.proofs.Common.{◌≡◌, None}
use Rattle.crossystem_core.specs.Values.{value_below}
use Rattle.crossystem_core.proofs.values.value_of.Given as goal

-- no value so far has the text
abbrev pub invariant-loop-value : goal.invariant-loop-value
invariant-loop-value l = value_below l.form l.value l.text ≡ None
