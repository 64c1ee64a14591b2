use Rattle.std.proofs.Common.{◌≡◌, Global, ◌∙◌, sym, subst, List, ℕ, false, arith}
use Rattle.std.specs.Prelude.{string_bytes, bytes_eq, IfSome, decimal}
use Rattle.command_core.proofs.Words.{number_then}
use Rattle.command_core.proofs.Words.{other_word}
use Rattle.command_core.proofs.command.number_behind.Goals as goal

pub returns-in-len2-clause-some : goal.returns-in-len2-clause-some
returns-in-len2-clause-some c =
    number_then (string_bytes {Z = Global}) c.args.words.now c.word-item.result c.number-item.result c.args.first.now c.number_in.result c.in-len2.len_at_least c.in-len2.len_below c.word-item.is
    c.number-item.is (rw (← c.as_bytes.ensures.value) (sym c.eq.ensures ∙ c.if-eq.true))
    (subst (λ (text : List ℕ). IfSome c.number_in.result (λ (n : ℕ). text ≡ decimal n)) c.as_str.ensures.value c.number_in.ensures.some)

pub returns-in_default-2-clause-none : goal.returns-in_default-2-clause-none
returns-in_default-2-clause-none c = λ number small is.
    let other : bytes_eq (string_bytes {Z = Global} c.word-item.result) c.args.first.now ≡ false = rw (← c.as_bytes.ensures.value) (sym c.eq.ensures ∙ c.if-eq.false) in
    other_word (string_bytes {Z = Global}) c.args.words.now c.word-item.result c.args.first.now _ (omega (arith, c.in-len2.len_at_least)) c.word-item.is other is
