use Rattle.std.proofs.Common.{◌≡◌, None, sym, ◌∙◌}
use Rattle.std.proofs.lemmas.Bool.{false≢true}
use Rattle.toml.specs.Parse.{parse_document}
use Rattle.board_file.proofs.Tables.{parse_document-blank}
use Rattle.board_file.proofs.hook_file.read_hook.Goals as goal

pub returns-else-is_memory-clause-blank : goal.returns-else-is_memory-clause-blank
returns-else-is_memory-clause-blank c blank =
    let none : parse_document c.args.text.now ≡ None = c.in-Err.ensures.refused (λ memory. false≢true (sym c.if-is_memory.false ∙ c.is_memory.ensures.1 memory)) in
    cc (parse_document-blank c.args.text.now blank, none)
