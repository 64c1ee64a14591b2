-- The candidates so far are in the list, which has no more ranks than entries were looked at.
use Rattle.std.proofs.Common.{◌≡◌, ◌≤◌}
use Rattle.arrayvec.specs.ArrayVec.{array_vec_len}
use Rattle.walk_core.specs.Candidates.{ranks_among}
use Rattle.walk_core.proofs.candidates.candidates_as_they_stand.Given as goal

abbrev pub invariant-loop-k : goal.invariant-loop-k
invariant-loop-k l = record {
  few : array_vec_len l.ranks ≤ l.k;
  are : l.ranks.items ≡ ranks_among l.k l.gpt.table.entries;
}
