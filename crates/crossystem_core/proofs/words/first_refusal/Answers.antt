-- A word was refused, or not, or there is none left.
use Rattle.std.proofs.Common.{◌≡◌, ◌∙◌, ◌<◌, ◌≤◌, sym, arith, length, map, None, rules}
use Rattle.std.specs.String.{string_bytes}
use Rattle.std.proofs.lemmas.List.{length-map}
use Rattle.crossystem_core.proofs.WordsWorked.{refused_at, accepted_at, accepted_all}
use Rattle.crossystem_core.proofs.words.first_refusal.Goals as goal

pub returns-in-Some : goal.returns-in-Some
returns-in-Some c =
    let words = map string_bytes c.args.words.now in
    let small : c.loop-i.i < length words = omega (arith, c.loop-i-test.true, length-map c.args.words.now string_bytes) in
    let asked = c.read_word-asked in
    sym (c.loop-i.invariant ∙ refused_at words c.loop-i.i small c.word_at.result.now c.word_at.ensures asked.result.key asked.result.sign asked.result.text.now
    asked.ensures.key asked.ensures.sign asked.ensures.text c.in-Some.code (sym c.refusal.ensures ∙ c.in-Some.is))

pub loop-i-preserved : goal.loop-i-preserved
loop-i-preserved c =
    let words = map string_bytes c.args.words.now in
    let small : c.loop-i.i < length words = omega (arith, c.loop-i-test.true, length-map c.args.words.now string_bytes) in
    let asked = c.read_word-asked in
    let none : c.refusal.result ≡ None = search rules in
    c.loop-i.invariant ∙ accepted_at words c.loop-i.i small c.word_at.result.now c.word_at.ensures asked.result.key asked.result.sign asked.result.text.now
    asked.ensures.key asked.ensures.sign asked.ensures.text (sym c.refusal.ensures ∙ none)

pub returns : goal.returns
returns c =
    let words = map string_bytes c.args.words.now in
    let past : length words ≤ c.loop-i.i = omega (arith, c.loop-i-test.false, length-map c.args.words.now string_bytes) in
    sym (c.loop-i.invariant ∙ accepted_all words c.loop-i.i past)
