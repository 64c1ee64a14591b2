use Rattle.std.proofs.Common.{◌≡◌, take}
use Rattle.gpt_core.specs.Entries.{no_entries}
use Rattle.make_core.specs.Table.{with_rows}
use Rattle.make_core.proofs.entries.make_entries.Given as goal

-- the rows so far stand in their places
abbrev pub invariant-loop-row : goal.invariant-loop-row
invariant-loop-row l = l.entries ≡ with_rows l.number l.tag (take l.row-index l.rows) no_entries
