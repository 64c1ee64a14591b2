use Rattle.std.proofs.lemmas.List.Quantifiers.{Any-push}
use Rattle.std.proofs.Common.{◌<◌, rules, Err, ◌≡◌, ℕ, List, [], ◌∷◌, ◌++◌, length, map, take, ◌+◌, refl, sym, ap, ◌∙◌, subst, arith}
use Rattle.std.proofs.Math.Seq.{take-length}
use Rattle.std.proofs.lemmas.List.{take_more}
use Rattle.board_core.specs.declared.hook_row.HookRow.{HookRow}
use Rattle.toml.specs.View.{view}
use Rattle.board_file.specs.HookText.{AreElementsOf}
use Rattle.board_file.proofs.Written.{elements_more, any_front}
use Rattle.board_file.proofs.hook_text.elements_of_rows.Goals as goal

pub loop-row-preserved : goal.loop-row-preserved
loop-row-preserved c =
    let pushed : c.push.new.self.items ≡ c.loop-row.elements.items ++ c.in_ok-element.element ∷ [] = c.push.ensures.items ∙ rw (c.is_err.ensures.negation, c.if-is_err.false) refl in
    let more : take (c.loop-row.row-index + 1) c.args.rows.now ≡ take c.loop-row.row-index c.args.rows.now ++ c.row-item.result ∷ [] =
    take_more c.args.rows.now c.loop-row.row-index c.row-item.result (omega arith) ∙ ap (λ (r : HookRow). take c.loop-row.row-index c.args.rows.now ++ r ∷ []) (sym c.row-item.is) in
    rw (pushed, more) (elements_more (take c.loop-row.row-index c.args.rows.now) c.row-item.result c.loop-row.elements.items c.in_ok-element.element c.loop-row.invariant c.in_ok-element.ensures.meant)

pub returns-clause-meant : goal.returns-clause-meant
returns-clause-meant c =
    let pushed : c.push-2.new.self.items ≡ c.loop-row.elements.items ++ c.in_ok-element-2.element ∷ [] = c.push-2.ensures.items ∙ rw (c.is_err-2.ensures.negation, c.if-is_err-2.false) refl in
    let all : c.loop-row.row-index ≡ length c.args.rows.now = omega arith in
    let before = subst (λ (rows : List HookRow). AreElementsOf rows (map view c.loop-row.elements.items)) (ap (λ (n : ℕ). take n c.args.rows.now) all ∙ take-length c.args.rows.now) c.loop-row.invariant in
    rw pushed (elements_more c.args.rows.now c.args.last.now c.loop-row.elements.items c.in_ok-element-2.element before c.in_ok-element-2.ensures.meant)

pub returns-in_err-element-clause-algorithm : goal.returns-in_err-element-clause-algorithm
returns-in_err-element-clause-algorithm c =
    let same : c.from_residual.result ≡ Err c.in_err-element.field-0.0 = search (rules, c.from_residual.ensures) in
    rw same (λ is. any_front (λ (r : HookRow). 17 < r.algorithm) c.args.rows.now c.args.last.now c.row-item.result c.loop-row.row-index (omega arith) c.row-item.is (c.in_err-element.ensures.algorithm is))

pub returns-in_err-element-2-clause-algorithm : goal.returns-in_err-element-2-clause-algorithm
returns-in_err-element-2-clause-algorithm c =
    let same : c.from_residual-in_err-element-2.result ≡ Err c.in_err-element-2.field-0.0 = search (rules, c.from_residual-in_err-element-2.ensures) in
    rw same (λ is. Any-push (λ (r : HookRow). 17 < r.algorithm) c.args.rows.now c.args.last.now (c.in_err-element-2.ensures.algorithm is))
