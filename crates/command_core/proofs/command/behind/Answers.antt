use Rattle.std.proofs.Common.{◌≡◌, Global, ◌∙◌, sym, false, rules}
use Rattle.std.specs.Prelude.{string_bytes, bytes_eq}
use Rattle.std.proofs.lemmas.List.{take_rest}
use Rattle.command_core.proofs.Words.{behind_word, other_word, no_word}
use Rattle.command_core.proofs.command.behind.Goals as goal
use Rattle.command_core.proofs.command.behind.Goals.{in_default-via-then-words-lt1, in_default-via-in-len1-up+else-eq}

pub returns-in-len1-up-clause-some : goal.returns-in-len1-up-clause-some
returns-in-len1-up-clause-some c =
    behind_word (string_bytes {Z = Global}) c.args.words.now _ c.word-item.result c.args.first.now c.in-len1-up.len_at_least c.word-item.is (take_rest c.args.words.now 1)
    (rw (← c.as_bytes.ensures.value) (sym c.eq.ensures ∙ c.if-eq.true))

pub returns-in_default-clause-none : goal.returns-in_default-clause-none
returns-in_default-clause-none c = λ rest is.
    elim c.in_default.branch [
      | in_default-via-then-words-lt1 w ↦ no_word (string_bytes {Z = Global}) c.args.words.now c.args.first.now rest (search rules) is
      | in_default-via-in-len1-up+else-eq w ↦
          let other : bytes_eq (string_bytes {Z = Global} w.word-item.result) c.args.first.now ≡ false = rw (← w.as_bytes.ensures.value) (sym w.eq.ensures ∙ w.if-eq.false) in
          other_word (string_bytes {Z = Global}) c.args.words.now w.word-item.result c.args.first.now rest w.in-len1-up.len_at_least w.word-item.is other is
    ]
