-- The law of proofs/Telling.
use Rattle.command_core.proofs.Telling.{lines_tell_apart}
use Rattle.command_core.proofs.laws.lines_tell_answers_apart.Goals as goal

pub returns : goal.returns
returns c = lines_tell_apart
