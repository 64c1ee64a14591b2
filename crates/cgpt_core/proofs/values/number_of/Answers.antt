-- A number is read of its own digits, so what is not read is none that fits.
use Rattle.std.proofs.Common.{◌≡◌, ℕ, Err, true, List, ◌++◌, sym, ap, ◌∙◌, arith, ◌<◌, ◌^◌}
use Rattle.std.specs.Prelude.{decimal, bytes_eq}
use Rattle.std.proofs.lemmas.Bool.{false≢true}
use Rattle.std.proofs.lemmas.Fmt.{parse-decimal}
use Rattle.std.proofs.lemmas.Slice.Eq.{bytes_eq-Decides}
use Rattle.cgpt_core.proofs.ValuesRead.{number_in-decimal, number_in-large, read_number, no_error}
use Rattle.cgpt_core.proofs.values.number_of.Goals as goal

pub returns-in_default-clause-none : goal.returns-in_default-clause-none
returns-in_default-clause-none c = number_in-large c.args.word.now (λ number small is.
    no_error c.in_default.field-0 number (parse-decimal 64 number c.args.word.now (Err c.in_default.field-0) small small is c.in_default.ensures.value.0))

pub returns-then-eq-clause-some : goal.returns-then-eq-clause-some
returns-then-eq-clause-some c =
    let small : c.in-Ok.number < 2 ^ 64 = omega arith in
    let written : c.as_slice.result.now ≡ decimal c.in-Ok.number =
    c.as_slice.ensures ∙ c.push_decimal.ensures.text ∙ ap (λ (front : List ℕ). front ++ decimal c.in-Ok.number) c.new-text.ensures in
    let same : c.as_slice.result.now ≡ c.as_bytes.result.now = (bytes_eq-Decides c.as_slice.result.now c.as_bytes.result.now).0 (sym c.eq.ensures ∙ c.if-eq.true) in
    number_in-decimal c.args.word.now c.in-Ok.number small (sym c.as_bytes.ensures.value ∙ sym same ∙ written)

pub returns-else-eq-clause-none : goal.returns-else-eq-clause-none
returns-else-eq-clause-none c = number_in-large c.args.word.now (λ number small is.
    let same : c.in-Ok.number ≡ number = read_number c.in-Ok.number number c.args.word.now small is c.in-Ok.ensures.value.0 in
    let texts : c.as_slice.result.now ≡ c.as_bytes.result.now =
    c.as_slice.ensures ∙ c.push_decimal.ensures.text ∙ ap (λ (front : List ℕ). front ++ decimal c.in-Ok.number) c.new-text.ensures ∙ ap decimal same ∙ sym is ∙ sym c.as_bytes.ensures.value in
    let equal : bytes_eq c.as_slice.result.now c.as_bytes.result.now ≡ true = (bytes_eq-Decides c.as_slice.result.now c.as_bytes.result.now).1 texts in
    false≢true (sym c.if-eq.false ∙ c.eq.ensures ∙ equal))
