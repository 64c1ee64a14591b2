use Rattle.std.proofs.Common.{arith}
use Rattle.toml.specs.View.{table_view}
use Rattle.board_file.proofs.Tables.{members_count_view, hook_of-empty}
use Rattle.board_file.proofs.hook_file.rows_of_table.Goals as goal

pub returns-then-is_empty-clause-meant : goal.returns-then-is_empty-clause-meant
returns-then-is_empty-clause-meant c =
    let count = members_count_view c.args.table.now.entries in
    rw c.new.ensures.items (hook_of-empty (table_view c.args.table.now) (omega arith))
