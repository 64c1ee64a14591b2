use Rattle.std.proofs.Common.{◌∙◌, Bool, ap, sym, refl, Some, None}
use Rattle.std.specs.Prelude.{if◌then◌else◌}
use Rattle.crossystem_core.specs.Values.{value_below}
use Rattle.crossystem_core.proofs.ValuesFound.{found_below, none_below}
use Rattle.crossystem_core.proofs.values.value_of.Goals as goal

pub loop-value-init : goal.loop-value-init
unfolding value_below
loop-value-init c = refl

pub returns-then-is_text_of-clause-value : goal.returns-then-is_text_of-clause-value
returns-then-is_text_of-clause-value c =
    found_below c.args.form c.args.count c.loop-value.value c.args.text.now c.loop-value-test.true c.loop-value.invariant
    (ap (λ (b : Bool). if b then Some c.loop-value.value else None) (sym c.is_text_of.ensures ∙ c.if-is_text_of.true))

pub loop-value-preserved : goal.loop-value-preserved
loop-value-preserved c =
    none_below c.args.form c.loop-value.value c.args.text.now c.loop-value.invariant
    (ap (λ (b : Bool). if b then Some c.loop-value.value else None) (sym c.is_text_of.ensures ∙ c.if-is_text_of.false))
