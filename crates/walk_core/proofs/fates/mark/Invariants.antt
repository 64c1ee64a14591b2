-- The entries so far have met their fates.
use Rattle.std.proofs.Common.{◌≡◌}
use Rattle.walk_core.specs.Fates.{fate_by, room_having}
use Rattle.gpt_core.specs.Placing.{with_each}
use Rattle.walk_core.specs.Steps.{chosen_at, mark_of}
use Rattle.walk_core.proofs.Marks.{FatesBelow}
use Rattle.walk_core.proofs.fates.mark.Given as goal

abbrev pub invariant-loop-k : goal.invariant-loop-k
invariant-loop-k l =
    let entries = l.fn.gpt.table.entries in
    record {
      is : l.gpt ≡ room_having l.fn.gpt (with_each l.k (fate_by (mark_of l.bad) entries (chosen_at l.chosen)) entries);
      each : FatesBelow l.k entries l.gpt.table.entries (fate_by (mark_of l.bad) entries (chosen_at l.chosen));
    }
