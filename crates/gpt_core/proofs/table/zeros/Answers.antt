-- The bytes are zeros.
use Rattle.std.proofs.Common.{rules}
use Rattle.gpt_core.specs.Entries.{zeros}
use Rattle.gpt_core.proofs.table.zeros.Goals as goal

pub returns : goal.returns
unfolding zeros
returns c = search rules
