-- An index on a line, where its entry is found.
use Rattle.std.proofs.Common.{◌≡◌, ◌∙◌, ◌+◌, ◌++◌, List, ℕ, sym, ap, subst}
use Rattle.std.specs.Prelude.{decimal, if◌then◌else◌, Bool, []}
use Rattle.board_core.specs.declared.device.Failed.{Failed}
use Rattle.board_core.specs.Streams.{PutsText}
use Rattle.text_core.specs.Shown.{line_end}
use Rattle.board_core.proofs.TextsPut.{puts_call}
use Rattle.cgpt_core.proofs.finding.put_if_found.Goals as goal

pub returns : goal.returns
returns g c =
    let text : c.as_slice.result.now ≡ decimal (c.args.k + 1) ++ line_end = c.as_slice.ensures ∙ c.line_of_index-line.ensures in
    let found = c.is_found.ensures in
    let same : c.as_slice.result.now ≡ (if c.is_found.result then decimal (c.args.k + 1) ++ line_end else []) =
    text ∙ sym (ap (λ (b : Bool). if b then decimal (c.args.k + 1) ++ line_end else []) c.if-not-is_found.false) in
    subst (λ (x : List ℕ). PutsText {E = Failed} x (g.O.Sink.state c.args.out.now) (g.O.Sink.state c.put.new.self) c.put.result)
    (same ∙ ap (λ (b : Bool). if b then decimal (c.args.k + 1) ++ line_end else []) found)
    (puts_call c.as_slice.result.now _ _ c.put.result c.put.ensures.meets)
