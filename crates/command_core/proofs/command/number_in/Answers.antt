-- The digits of a number are read as this number, so what is not read is none.
use Rattle.std.proofs.Common.{◌≡◌, ℕ, Err, true, List, ◌++◌, sym, ap, ◌∙◌, arith}
use Rattle.std.specs.Prelude.{decimal, bytes_eq}
use Rattle.std.proofs.lemmas.Bool.{false≢true}
use Rattle.std.proofs.lemmas.Fmt.{parse-decimal}
use Rattle.std.proofs.lemmas.Slice.Eq.{bytes_eq-Decides}
use Rattle.command_core.proofs.Words.{read_number, no_error}
use Rattle.command_core.proofs.command.number_in.Goals as goal

pub returns-in_default-clause-none : goal.returns-in_default-clause-none
returns-in_default-clause-none c = λ number small is.
    let read = parse-decimal 32 number c.args.word.now (Err c.in_default.field-0) small (omega arith) is c.in_default.ensures.value.0 in
    no_error c.in_default.field-0 number read

pub returns-else-eq-clause-none : goal.returns-else-eq-clause-none
returns-else-eq-clause-none c = λ number small is.
    let same : c.in-Ok.number ≡ number = read_number c.in-Ok.number number c.args.word.now small is c.in-Ok.ensures.value.0 in
    let texts : c.as_slice.result.now ≡ c.as_bytes.result.now =
    c.as_slice.ensures ∙ c.push_decimal.ensures.text ∙ ap (λ (front : List ℕ). front ++ decimal c.from.result) c.new-text.ensures ∙ ap decimal (c.from.ensures ∙ same) ∙ sym is ∙ sym c.as_bytes.ensures.value in
    let equal : bytes_eq c.as_slice.result.now c.as_bytes.result.now ≡ true = (bytes_eq-Decides c.as_slice.result.now c.as_bytes.result.now).1 texts in
    false≢true (sym c.if-eq.false ∙ c.eq.ensures ∙ equal)
