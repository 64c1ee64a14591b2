use Rattle.std.proofs.Common.{◌≡◌, ◌≤◌, length}
use Rattle.cgpt_core.specs.Values.{units_of, filled_up}
use Rattle.cgpt_core.proofs.values.label_of.Given as goal

-- the units of the characters so far stand in the label
abbrev pub invariant-loop-character : goal.invariant-loop-character
invariant-loop-character l = record {
  units : l.units ≡ filled_up (units_of l.yielded);
  len : l.len ≡ length (units_of l.yielded);
  room : l.len ≤ 36;
}
