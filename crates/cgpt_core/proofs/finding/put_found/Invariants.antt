use Rattle.std.specs.Prelude.{Ok}
use Rattle.board_core.specs.declared.device.Failed.{Failed}
use Rattle.cgpt_core.specs.Plans.{found_line}
use Rattle.cgpt_core.specs.Text.{lines_below}
use Rattle.board_core.specs.Streams.{PutsText}
use Rattle.cgpt_core.proofs.finding.put_found.Given as goal

-- the lines of the entries so far were put
abbrev pub invariant-loop-k : goal.invariant-loop-k
invariant-loop-k g l = record { put : PutsText {E = Failed} (lines_below l.k (found_line l.call l.room.table.entries)) (g.O.Sink.state l.initial.out) (g.O.Sink.state l.out) (Ok tt) }
