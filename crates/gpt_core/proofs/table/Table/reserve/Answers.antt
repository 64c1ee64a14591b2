-- All entries are 0.
use Rattle.std.proofs.Common.{ℕ, List, length, ap, ◌∙◌}
use Rattle.gpt_core.specs.Room.{empty_table}
use Rattle.gpt_core.proofs.Units.{length-zeros}
use Rattle.gpt_core.proofs.table.Table.reserve.Goals as goal

pub invariant_of-result : goal.invariant_of-result
invariant_of-result c = ap length c.in_ok-entries.ensures ∙ length-zeros 16384

pub returns : goal.returns
returns c = ap (λ (e : List ℕ). record empty_table { entries = e }) c.in_ok-entries.ensures
