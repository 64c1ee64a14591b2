use Rattle.std.proofs.Common.{◌∷◌, [], arith}
use Rattle.std.proofs.lemmas.List.{length-append}
use Rattle.toml.specs.View.{table_view}
use Rattle.board_file.proofs.Written as written
use Rattle.board_file.proofs.hook_text.text_of_rows.Goals as goal

pub returns-in-Ok-table_to_string-clause-reads_back : goal.returns-in-Ok-table_to_string-clause-reads_back
returns-in-Ok-table_to_string-clause-reads_back c =
    written.reads_back _ (table_view c.in-Ok.document) c.in_ok-elements.elements.items _ c.in-Ok-table_to_string.ensures.reads_back c.in-Ok.ensures c.in_ok-elements.ensures.meant
    (omega (arith, length-append c.args.rows.now (c.args.last.now ∷ [])))
