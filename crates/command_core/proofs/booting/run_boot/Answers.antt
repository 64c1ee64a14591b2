use Rattle.command_core.proofs.Ending.{ends_of}
use Rattle.command_core.proofs.booting.run_boot.Goals as goal

pub returns-clause-ends : goal.returns-clause-ends
returns-clause-ends g c = ends_of _ _ _ _ _ _ (record { answer = c.work_boot-answer.result; works = c.work_boot-answer.ensures; prints = c.print.ensures })
