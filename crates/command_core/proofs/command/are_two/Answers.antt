use Rattle.std.proofs.Common.{Global, ◌∙◌, sym}
use Rattle.std.specs.Prelude.{string_bytes}
use Rattle.std.proofs.lemmas.List.{take_rest}
use Rattle.command_core.proofs.Words.{word_then}
use Rattle.command_core.proofs.command.are_two.Goals as goal

pub returns-then-eq : goal.returns-then-eq
returns-then-eq c =
    word_then (string_bytes {Z = Global}) c.args.words.now _ c.word-item.result _ _ c.is_one.result c.in-len1-up.len_at_least c.word-item.is (take_rest c.args.words.now 1)
    (rw (← c.as_bytes.ensures.value) (sym c.eq.ensures ∙ c.if-eq.true)) c.is_one.ensures
