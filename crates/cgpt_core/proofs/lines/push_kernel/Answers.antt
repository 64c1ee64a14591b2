-- Three numbers, one behind the other.
use Rattle.cgpt_core.proofs.Fronts.{three_more}
use Rattle.cgpt_core.proofs.lines.push_kernel.Goals as goal

pub returns-clause-text : goal.returns-clause-text
returns-clause-text c = three_more _ _ _ _ _ _ _ _ _ _ c.push_number.ensures.text c.push_number-2.ensures.text c.push_number-3.ensures.text
