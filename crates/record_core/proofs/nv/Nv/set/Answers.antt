-- The record with the field replaced is good and keeps its size, in either form.
use Rattle.std.proofs.Common.{List, ℕ, ◌∙◌, ap, subst, sym}
use Rattle.record_core.specs.declared.nv.NvLayout.TheVariants.{V1, V2}
use Rattle.record_core.specs.NvLayouts.{IsWhole, record_in}
use Rattle.record_core.specs.Field.{field_of}
use Rattle.record_core.proofs.Records.{sets_field}
use Rattle.record_core.proofs.nv.Nv.set.Goals as goal

pub invariant_of-self : goal.invariant_of-self
invariant_of-self c =
    let old : IsWhole (V1 c.in-V1.old) = subst IsWhole c.in-V1.is c.self.invariant in
    let sets = sets_field c.in-V1.old c.put_field.new.bytes c.args.field c.args.value c.put_field.ensures old.good c.requires.fits in
    record { size = sets.size ∙ old.size; good = sets.good }

pub returns-in-V1-clause-good : goal.returns-in-V1-clause-good
returns-in-V1-clause-good c =
    let old : IsWhole (V1 c.in-V1.old) = subst IsWhole c.in-V1.is c.self.invariant in
    let sets = sets_field c.in-V1.old c.put_field.new.bytes c.args.field c.args.value c.put_field.ensures old.good c.requires.fits in
    sets.good

pub returns-in-V1-clause-value : goal.returns-in-V1-clause-value
returns-in-V1-clause-value c =
    let old : IsWhole (V1 c.in-V1.old) = subst IsWhole c.in-V1.is c.self.invariant in
    let sets = sets_field c.in-V1.old c.put_field.new.bytes c.args.field c.args.value c.put_field.ensures old.good c.requires.fits in
    sets.value_is

pub returns-in-V1-clause-others : goal.returns-in-V1-clause-others
returns-in-V1-clause-others c other differ =
    let old : IsWhole (V1 c.in-V1.old) = subst IsWhole c.in-V1.is c.self.invariant in
    let sets = sets_field c.in-V1.old c.put_field.new.bytes c.args.field c.args.value c.put_field.ensures old.good c.requires.fits in
    sets.others other differ ∙ ap (λ (r : List ℕ). field_of r other) (sym (ap record_in c.in-V1.is) ∙ c.self.view_is)

pub invariant_of-self-in-V2 : goal.invariant_of-self-in-V2
invariant_of-self-in-V2 c =
    let old : IsWhole (V2 c.in-V2.old) = subst IsWhole c.in-V2.is c.self.invariant in
    let sets = sets_field c.in-V2.old c.put_field-in-V2.new.bytes c.args.field c.args.value c.put_field-in-V2.ensures old.good c.requires.fits in
    record { size = sets.size ∙ old.size; good = sets.good }

pub returns-in-V2-clause-good : goal.returns-in-V2-clause-good
returns-in-V2-clause-good c =
    let old : IsWhole (V2 c.in-V2.old) = subst IsWhole c.in-V2.is c.self.invariant in
    let sets = sets_field c.in-V2.old c.put_field-in-V2.new.bytes c.args.field c.args.value c.put_field-in-V2.ensures old.good c.requires.fits in
    sets.good

pub returns-in-V2-clause-value : goal.returns-in-V2-clause-value
returns-in-V2-clause-value c =
    let old : IsWhole (V2 c.in-V2.old) = subst IsWhole c.in-V2.is c.self.invariant in
    let sets = sets_field c.in-V2.old c.put_field-in-V2.new.bytes c.args.field c.args.value c.put_field-in-V2.ensures old.good c.requires.fits in
    sets.value_is

pub returns-in-V2-clause-others : goal.returns-in-V2-clause-others
returns-in-V2-clause-others c other differ =
    let old : IsWhole (V2 c.in-V2.old) = subst IsWhole c.in-V2.is c.self.invariant in
    let sets = sets_field c.in-V2.old c.put_field-in-V2.new.bytes c.args.field c.args.value c.put_field-in-V2.ensures old.good c.requires.fits in
    sets.others other differ ∙ ap (λ (r : List ℕ). field_of r other) (sym (ap record_in c.in-V2.is) ∙ c.self.view_is)
