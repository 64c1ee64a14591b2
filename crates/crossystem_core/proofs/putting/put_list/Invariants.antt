use Rattle.std.proofs.Common.{drop}
use Rattle.crossystem_core.specs.Running.{list_of}
use Rattle.crossystem_core.proofs.LinesPut.{PutSoFar}
use Rattle.crossystem_core.proofs.putting.put_list.Given as goal

-- the lines of the keys that are left are to be put yet
abbrev pub invariant-loop-key : goal.invariant-loop-key
invariant-loop-key g l = PutSoFar (list_of l.view l.keys) (list_of l.view (drop l.key-index l.keys)) (g.O.Sink.state l.initial.out) (g.O.Sink.state l.out)
