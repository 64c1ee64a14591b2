use Rattle.std.proofs.Common.{◌≡◌, ◌+◌, drop, map, false, None}
use Rattle.std.specs.String.{string_bytes}
use Rattle.crossystem_core.specs.Running.{ends_of}
use Rattle.crossystem_core.proofs.running.work_words.Given as goal

-- the words that are left come to what all come to
abbrev pub invariant-loop-i : goal.invariant-loop-i
invariant-loop-i l = record {
  rest : ends_of l.view false 1 (map string_bytes l.words) ≡ ends_of l.ends.view l.ends.set (l.i + 1) (drop l.i (map string_bytes l.words));
  none : l.ends.differs ≡ None;
}
