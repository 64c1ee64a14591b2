-- The heads so far are known.
use Rattle.walk_core.specs.Kernels.{walk_question}
use Rattle.walk_core.proofs.LaterSteps.{KnownAfter}
use Rattle.walk_core.proofs.later.count_later.Given as goal

abbrev pub invariant-loop-place : goal.invariant-loop-place
invariant-loop-place g l =
    let d = walk_question (g.D.Disk.state l.fn.disk) (g.H.Hook.state l.fn.hook) l.request in
    record {
      known : KnownAfter d l.candidates.gpt.now.table.entries l.candidates.ranks.now l.version l.place (g.D.Disk.state l.disk)
          (g.H.Hook.state l.hook) l.later;
    }
