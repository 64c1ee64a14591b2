use Rattle.std.proofs.Common.{◌≡◌, ◌+◌, ◌++◌, length, take, map}
use Rattle.cgpt_core.specs.Text.{shown_unit}
use Rattle.cgpt_core.proofs.lines.push_units.Given as goal

-- the units so far stand in the text, as they are shown
abbrev pub invariant-loop-unit : goal.invariant-loop-unit
invariant-loop-unit l = record {
  text : l.text ≡ l.initial.text ++ map shown_unit (take l.unit-index l.units);
  size : length l.text ≡ length l.initial.text + l.unit-index;
}
