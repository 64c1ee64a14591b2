-- The record in form V2 is good.
use Rattle.std.proofs.Common.{ℕ, List, length, ap, subst, sym, ◌∙◌}
use Rattle.record_core.specs.declared.nv.NvLayout.TheVariants.{V1}
use Rattle.record_core.specs.NvLayouts.{IsWhole}
use Rattle.record_core.specs.Nv.{IsGoodRecord}
use Rattle.record_core.proofs.Records.{up_record-good, length-up_record}
use Rattle.record_core.proofs.nv.Nv.up.Goals as goal

pub invariant_of-self : goal.invariant_of-self
invariant_of-self c =
    let old : IsWhole (V1 c.in-V1.old) = subst IsWhole c.in-V1.is c.self.invariant in
    record {
      size = ap (λ (r : List ℕ). length r) c.raised.ensures ∙ length-up_record c.in-V1.old old.size;
      good = subst IsGoodRecord (sym c.raised.ensures) (up_record-good c.in-V1.old old.size);
    }

pub returns-in-V1-clause-good : goal.returns-in-V1-clause-good
returns-in-V1-clause-good c =
    let old : IsWhole (V1 c.in-V1.old) = subst IsWhole c.in-V1.is c.self.invariant in
    subst IsGoodRecord (sym c.raised.ensures) (up_record-good c.in-V1.old old.size)
