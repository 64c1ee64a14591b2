use Rattle.board_core.proofs.Rows.{contains-Decides}
use Rattle.board_core.proofs.hook_rows.has_row.Goals as goal

pub returns : goal.returns
returns c = contains-Decides c.args.rows.now c.args.row.now c.contains.result c.contains.ensures.cases
