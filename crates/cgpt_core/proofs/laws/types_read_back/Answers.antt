-- The law of proofs/TypesRead.
use Rattle.cgpt_core.proofs.TypesRead.{types_read_back}
use Rattle.cgpt_core.proofs.laws.types_read_back.Goals as goal

pub returns : goal.returns
returns c = types_read_back
