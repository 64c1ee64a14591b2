use Rattle.std.proofs.Common.{◌∙◌, List, ℕ, ◌++◌, ap, length, drop}
use Rattle.std.specs.Prelude.{replicate}
use Rattle.std.proofs.lemmas.List.{drop-replicate}
use Rattle.make_core.proofs.parts.make_name.Goals as goal

pub returns : goal.returns
returns c =
    ap (λ (l : List ℕ). l ++ drop (length c.args.text.now) (replicate 32 0)) c.copy_from_slice.ensures.after
    ∙ ap (λ (l : List ℕ). c.args.text.now ++ l) (drop-replicate {X = ℕ} (length c.args.text.now) 32 0)
