-- A check differs, or the next word is worked, or there is none left.
use Rattle.std.proofs.Common.{◌≡◌, ◌∙◌, ℕ, ◌<◌, ◌≤◌, sym, arith, List, length, map}
use Rattle.std.specs.String.{string_bytes}
use Rattle.std.proofs.lemmas.List.{length-map}
use Rattle.std.specs.Prelude.{Bool}
use Rattle.crossystem_core.specs.declared.showing.CrossView.{CrossView}
use Rattle.crossystem_core.specs.Running.{ends_of}
use Rattle.crossystem_core.proofs.WordsWorked.{differs_at, works_on, worked_all}
use Rattle.crossystem_core.proofs.running.work_words.Goals as goal

pub returns-then-differs : goal.returns-then-differs
returns-then-differs c =
    let words = map string_bytes c.args.words.now in
    let small : c.loop-i.i < length words = omega (arith, c.loop-i-test.true, length-map c.args.words.now string_bytes) in
    let asked = c.read_word-asked in
    let ends = c.loop-i.ends in
    sym (c.loop-i.invariant.rest ∙ differs_at words c.loop-i.i small c.word_at.result.now c.word_at.ensures asked.result.key asked.result.sign asked.result.text.now
    asked.ensures.key asked.ensures.sign asked.ensures.text ends.view ends.set (sym c.differs.ensures ∙ c.if-differs.true))

same_ends : (a b : CrossView) (s t : Bool) (number : ℕ) (words : List (List ℕ)) → a ≡ b → s ≡ t
    → ends_of b t number words ≡ ends_of a s number words
same_ends a b s t number words view set = cc

pub loop-i-preserved : goal.loop-i-preserved
loop-i-preserved c =
    let words = map string_bytes c.args.words.now in
    let small : c.loop-i.i < length words = omega (arith, c.loop-i-test.true, length-map c.args.words.now string_bytes) in
    let asked = c.read_word-asked in
    let ends = c.loop-i.ends in
    record {
      rest = c.loop-i.invariant.rest
          ∙ works_on words c.loop-i.i small c.word_at.result.now c.word_at.ensures asked.result.key asked.result.sign asked.result.text.now
          asked.ensures.key asked.ensures.sign asked.ensures.text ends.view ends.set (sym c.differs.ensures ∙ c.if-differs.false)
          ∙ same_ends _ _ _ _ _ _ c.set_by.ensures.view c.set_by.ensures.set;
      none = c.set_by.ensures.differs ∙ c.loop-i.invariant.none;
    }

pub returns : goal.returns
returns c =
    let words = map string_bytes c.args.words.now in
    let past : length words ≤ c.loop-i.i = omega (arith, c.loop-i-test.false, length-map c.args.words.now string_bytes) in
    worked_all words c.loop-i.i past c.loop-i.ends c.loop-i.invariant.none ∙ sym c.loop-i.invariant.rest
