-- The line of a word was put or not, a check differs, or no word is left.
use Rattle.std.proofs.Common.{◌≡◌, ◌∙◌, ◌<◌, ◌≤◌, ◌+◌, sym, ap, subst, arith, rules, length, map, drop, Ok, Err}
use Rattle.std.specs.String.{string_bytes}
use Rattle.std.proofs.lemmas.List.{length-map}
use Rattle.board_core.specs.declared.device.Failed.{Failed}
use Rattle.board_core.specs.Streams.{PutsText}
use Rattle.crossystem_core.specs.declared.showing.CrossView.{CrossView}
use Rattle.crossystem_core.specs.Words.{value_line, shown_key}
use Rattle.crossystem_core.specs.Running.{lines_of}
use Rattle.crossystem_core.proofs.WordsWorked.{shows_none, shows_on, shown_all}
use Rattle.crossystem_core.proofs.LinesPut.{PutSoFar, put_start, put_next, put_failed, put_done}
use Rattle.crossystem_core.proofs.putting.put_words.Goals as goal

pub loop-i-init : goal.loop-i-init
loop-i-init g c =
    let text = lines_of c.args.view.now (map string_bytes c.args.words.now) in
    let state = g.O.Sink.state c.args.out.now in
    subst (λ (v : CrossView). PutSoFar text (lines_of v (map string_bytes c.args.words.now)) state state) (sym (ap (λ e. e.view) c.new-ends.ensures)) (put_start text state)

pub returns-then-differs : goal.returns-then-differs
returns-then-differs g c =
    let words = map string_bytes c.args.words.now in
    let small : c.loop-i.i < length words = omega (arith, c.loop-i-test.true, length-map c.args.words.now string_bytes) in
    let asked = c.read_word-asked in
    put_done _ _ _ _ c.loop-i.invariant (shows_none words c.loop-i.i small c.word_at.result.now c.word_at.ensures asked.result.key asked.result.sign asked.result.text.now
    asked.ensures.key asked.ensures.sign asked.ensures.text c.loop-i.ends.view (sym c.differs.ensures ∙ c.if-differs.true))

pub returns-in_err-put_value : goal.returns-in_err-put_value
returns-in_err-put_value g c =
    let words = map string_bytes c.args.words.now in
    let small : c.loop-i.i < length words = omega (arith, c.loop-i-test.true, length-map c.args.words.now string_bytes) in
    let asked = c.read_word-asked in
    let failed : c.from_residual.result ≡ Err c.in_err-put_value.field-0.0 = search rules in
    let text = lines_of c.args.view.now words in
    let next = shows_on words c.loop-i.i small c.word_at.result.now c.word_at.ensures asked.result.key asked.result.sign asked.result.text.now
    asked.ensures.key asked.ensures.sign asked.ensures.text c.loop-i.ends.view (sym c.differs.ensures ∙ c.if-differs.false) in
    subst (PutsText {E = Failed} text (g.O.Sink.state c.args.out.now) (g.O.Sink.state c.put_value.new.out)) (sym failed)
    (put_failed text _ (value_line c.loop-i.ends.view (shown_key asked.result.key asked.result.sign)) _ _ _ _ c.loop-i.invariant next c.in_err-put_value.field-0.0
    (subst (λ k. PutsText {E = Failed} (value_line c.loop-i.ends.view k) (g.O.Sink.state c.loop-i.out) (g.O.Sink.state c.put_value.new.out) (Err c.in_err-put_value.field-0.0)) c.shown.ensures c.in_err-put_value.ensures))

pub loop-i-preserved : goal.loop-i-preserved
loop-i-preserved g c =
    let words = map string_bytes c.args.words.now in
    let small : c.loop-i.i < length words = omega (arith, c.loop-i-test.true, length-map c.args.words.now string_bytes) in
    let asked = c.read_word-asked in
    let text = lines_of c.args.view.now words in
    let next = shows_on words c.loop-i.i small c.word_at.result.now c.word_at.ensures asked.result.key asked.result.sign asked.result.text.now
    asked.ensures.key asked.ensures.sign asked.ensures.text c.loop-i.ends.view (sym c.differs.ensures ∙ c.if-differs.false) in
    subst (λ (v : CrossView). PutSoFar text (lines_of v (drop (c.loop-i.i + 1) words)) (g.O.Sink.state c.args.out.now) (g.O.Sink.state c.put_value.new.out)) (sym c.set_by.ensures.view)
    (put_next text _ (value_line c.loop-i.ends.view (shown_key asked.result.key asked.result.sign)) _ _ _ _ c.loop-i.invariant next
    (subst (λ k. PutsText {E = Failed} (value_line c.loop-i.ends.view k) (g.O.Sink.state c.loop-i.out) (g.O.Sink.state c.put_value.new.out) (Ok tt)) c.shown.ensures c.in_ok-put_value.ensures))

pub returns : goal.returns
returns g c =
    let words = map string_bytes c.args.words.now in
    let past : length words ≤ c.loop-i.i = omega (arith, c.loop-i-test.false, length-map c.args.words.now string_bytes) in
    put_done _ _ _ _ c.loop-i.invariant (shown_all words c.loop-i.i past c.loop-i.ends.view)
