-- The laws of proofs/TextsTaken.
use Rattle.crossystem_core.proofs.TextsTaken.{takes_values, takes_versions}
use Rattle.crossystem_core.proofs.laws.shown_texts_are_taken.Goals as goal

pub returns-clause-values : goal.returns-clause-values
returns-clause-values c = takes_values

pub returns-clause-versions : goal.returns-clause-versions
returns-clause-versions c = takes_versions
