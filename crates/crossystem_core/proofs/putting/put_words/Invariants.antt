use Rattle.std.proofs.Common.{drop, map}
use Rattle.std.specs.String.{string_bytes}
use Rattle.crossystem_core.specs.Running.{lines_of}
use Rattle.crossystem_core.proofs.LinesPut.{PutSoFar}
use Rattle.crossystem_core.proofs.putting.put_words.Given as goal

-- the lines of the words that are left are to be put yet
abbrev pub invariant-loop-i : goal.invariant-loop-i
invariant-loop-i g l =
    PutSoFar (lines_of l.view (map string_bytes l.words)) (lines_of l.ends.view (drop l.i (map string_bytes l.words))) (g.O.Sink.state l.initial.out) (g.O.Sink.state l.out)
