use Rattle.std.proofs.Common.{sym, arith}
use Rattle.toml.specs.View.{view, table_view}
use Rattle.board_file.proofs.Tables.{members_count_view, elements_of-few, elements_of-many}
use Rattle.board_file.proofs.hook_file.elements_of_table.Goals as goal

pub returns-then-len-gt-MOST_ROWS-clause-elements : goal.returns-then-len-gt-MOST_ROWS-clause-elements
returns-then-len-gt-MOST_ROWS-clause-elements c =
    let found = rw c.in_ok-value.was at c.value_at.ensures in
    let seen = rw c.in_ok-elements.was at c.as_array.ensures in
    sym (elements_of-many (table_view c.args.table.now) (view c.in_ok-value.value.now) c.in_ok-elements.elements.now.items (omega (arith, members_count_view c.args.table.now.entries)) (sym found) (sym seen) (omega arith))

pub returns-clause-elements : goal.returns-clause-elements
returns-clause-elements c =
    let found = rw c.in_ok-value.was at c.value_at.ensures in
    let seen = rw c.in_ok-elements.was at c.as_array.ensures in
    sym (elements_of-few (table_view c.args.table.now) (view c.in_ok-value.value.now) c.in_ok-elements.elements.now.items (omega (arith, members_count_view c.args.table.now.entries)) (sym found) (sym seen) (omega arith))
