use Rattle.std.proofs.Common.{map, take}
use Rattle.toml.specs.View.{view}
use Rattle.board_file.specs.HookText.{AreElementsOf}
use Rattle.board_file.proofs.hook_text.elements_of_rows.Given as goal

abbrev pub invariant-loop-row : goal.invariant-loop-row
invariant-loop-row l = AreElementsOf (take l.row-index l.rows) (map view l.elements.items)
