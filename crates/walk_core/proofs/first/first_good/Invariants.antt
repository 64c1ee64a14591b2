-- The candidates so far are not good.
use Rattle.walk_core.specs.Kernels.{walk_question}
use Rattle.walk_core.proofs.FirstSteps.{GoneThrough}
use Rattle.walk_core.proofs.first.first_good.Given as goal

abbrev pub invariant-loop-place : goal.invariant-loop-place
invariant-loop-place g l =
    let d = walk_question (g.D.Disk.state l.fn.disk) (g.H.Hook.state l.fn.hook) l.request in
    record {
      gone : GoneThrough d l.candidates.gpt.now.table.entries l.candidates.ranks.now l.place (g.D.Disk.state l.disk)
          (g.H.Hook.state l.hook);
    }
