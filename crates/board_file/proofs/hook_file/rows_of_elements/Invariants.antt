use Rattle.board_file.proofs.HookRows.{IsRead}
use Rattle.board_file.proofs.hook_file.rows_of_elements.Given as goal

abbrev pub invariant-loop-element : goal.invariant-loop-element
invariant-loop-element l = IsRead l.elements l.element-index l.rows.items
