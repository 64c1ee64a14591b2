use Rattle.board_core.proofs.Rows.{Contains-Any, Any-Contains}
use Rattle.board_core.proofs.hook_rows.is_accepted.Goals as goal

pub returns-in-Some : goal.returns-in-Some
returns-in-Some c = (
  λ yes. Contains-Any _ _ _ _ c.in-Some.row _ c.in-Some.ensures.row (c.has_row.ensures.0 yes),
  λ found. c.has_row.ensures.1 (Any-Contains _ _ _ _ c.in-Some.row _ c.in-Some.ensures.row found),
)
