use Rattle.std.proofs.Common.{Global}
use Rattle.std.specs.Prelude.{string_bytes}
use Rattle.command_core.proofs.Words.{one_word}
use Rattle.command_core.proofs.command.is_one.Goals as goal

pub returns-in-len1 : goal.returns-in-len1
returns-in-len1 c =
    one_word (string_bytes {Z = Global}) c.args.words.now c.word-item.result _ c.eq.result c.in-len1.len_at_least c.in-len1.len_below c.word-item.is
    (rw (← c.as_bytes.ensures.value) c.eq.ensures)
