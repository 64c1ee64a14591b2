-- The line was put with one call.
use Rattle.std.proofs.Common.{◌≡◌, ◌∙◌, ℕ, sym, ap, subst, List, ◌++◌}
use Rattle.board_core.specs.declared.device.Failed.{Failed}
use Rattle.board_core.specs.Streams.{PutsText}
use Rattle.board_core.proofs.TextsPut.{puts_call}
use Rattle.text_core.specs.Shown.{line_end}
use Rattle.crossystem_core.specs.Views.{key_text}
use Rattle.crossystem_core.specs.Words.{value_line}
use Rattle.crossystem_core.proofs.putting.put_value.Goals as goal

pub returns : goal.returns
returns g c =
    let view = c.args.view.now in
    let shown : c.push_key.new.text ≡ key_text view c.in-Some.key = c.push_key.ensures.text ∙ ap (λ (x : List ℕ). x ++ key_text view c.in-Some.key) c.new-line.ensures in
    let line : c.as_slice.result.now ≡ key_text view c.in-Some.key ++ line_end = c.as_slice.ensures ∙ c.push.ensures.text ∙ ap (λ (x : List ℕ). x ++ line_end) shown in
    let is : c.as_slice.result.now ≡ value_line view c.args.key = line ∙ ap (value_line view) (sym c.in-Some.is) in
    subst (λ (x : List ℕ). PutsText {E = Failed} x (g.O.Sink.state c.args.out.now) (g.O.Sink.state c.put.new.self) c.put.result) is
    (puts_call c.as_slice.result.now _ _ c.put.result c.put.ensures.meets)
