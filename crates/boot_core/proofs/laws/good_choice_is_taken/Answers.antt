-- The law of proofs/Taken.
use Rattle.boot_core.proofs.Taken.{takes_good_choice}
use Rattle.boot_core.proofs.laws.good_choice_is_taken.Goals as goal

pub returns : goal.returns
returns c = takes_good_choice
