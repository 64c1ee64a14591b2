-- What was taken is what the copy says.
use Rattle.std.proofs.Common.{◌≡◌, List, ℕ, Some, ap, sym, ◌∙◌}
use Rattle.gpt_core.specs.Heads.{table_with}
use Rattle.gpt_core.specs.Format.{table_of_image}
use Rattle.gpt_core.proofs.Validity.{image_valid}
use Rattle.gpt_core.proofs.finding.take_copy.Goals as goal

pub returns : goal.returns
returns c =
    let said : table_of_image c.args.side c.args.sectors c.args.copy.now ≡ Some c.take.new.self =
    sym c.in-Some.ensures ∙ ap (λ (e : List ℕ). Some (table_with c.in-Some.head e)) (sym c.entries_in.ensures.value) ∙ ap Some (sym c.take.ensures) in
    record {
      good = λ taken. said;
      valid = λ taken. image_valid c.args.side c.args.sectors c.args.copy.now c.take.new.self c.requires.size said;
      bad = λ none. absurd (cc);
    }
