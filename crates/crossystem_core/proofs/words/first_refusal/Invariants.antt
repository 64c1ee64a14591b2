use Rattle.std.proofs.Common.{◌≡◌, ◌+◌, drop, map}
use Rattle.std.specs.String.{string_bytes}
use Rattle.crossystem_core.specs.Words.{refused_from}
use Rattle.crossystem_core.proofs.words.first_refusal.Given as goal

-- none of the words so far is refused
abbrev pub invariant-loop-i : goal.invariant-loop-i
invariant-loop-i l = refused_from 1 (map string_bytes l.words) ≡ refused_from (l.i + 1) (drop l.i (map string_bytes l.words))
