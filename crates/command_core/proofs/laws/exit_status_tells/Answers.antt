-- The laws of proofs/Statuses.
use Rattle.command_core.proofs.Statuses.{exit_code_tells, sink_alone}
use Rattle.command_core.proofs.laws.exit_status_tells.Goals as goal

pub returns : goal.returns
returns c = record { told = exit_code_tells; sink = sink_alone }
