-- Each of the six sets leaves the other fields, so each field has the value of the table.
use Rattle.std.proofs.Common.{◌≡◌, ℕ, sym, ap, ◌∙◌, rules}
use Rattle.std.specs.Prelude.{nat_lt, if◌then◌else◌}
use Rattle.std.proofs.lemmas.Bool.{cond-true, cond-false, lt-ltb, le-ltb}
use Rattle.fwsel_core.specs.Selection.{trying, unknown}
use Rattle.fwsel_core.proofs.FieldsAfter.{fields_after}
use Rattle.fwsel_core.proofs.selection.select.Goals as goal
use Rattle.fwsel_core.proofs.selection.select.Goals.{then-tries-gt0, else-tries-gt0}

pub returns-clause-each_field : goal.returns-clause-each_field
returns-clause-each_field c =
    let result : c.if-tries-gt0.set ≡ (if nat_lt 0 c.get-tries.result then trying else unknown) =
    elim c.if-tries-gt0.branch [
      | then-tries-gt0 w ↦ w.set-is ∙ sym (cond-true _ _ _ (lt-ltb 0 c.get-tries.result w.if-tries-gt0.true))
      | else-tries-gt0 w ↦ w.set-is ∙ sym (cond-false _ _ _ (le-ltb 0 c.get-tries.result w.if-tries-gt0.false))
    ] in
    fields_after c.args.nv.now _ _ _ _ _ c.set-6.new.self
    (record { value = c.set.ensures.value ∙ c.get-last_slot.ensures.value; others = c.set.ensures.others })
    (record { value = c.set-2.ensures.value ∙ c.get-last_result.ensures.value; others = c.set-2.ensures.others })
    (record { value = c.set-3.ensures.value ∙ result ∙ ap (λ (n : ℕ). if nat_lt 0 n then trying else unknown) c.get-tries.ensures.value; others = c.set-3.ensures.others })
    (record { value = search rules; others = c.set-4.ensures.others })
    (record { value = search rules; others = c.set-5.ensures.others })
    (record { value = search rules; others = c.set-6.ensures.others })
