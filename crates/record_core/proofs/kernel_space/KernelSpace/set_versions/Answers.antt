-- The new space of 13 bytes is good and has the new versions, so these are the ones stored.
use Rattle.std.proofs.Common.{◌≡◌, arith, length, ap, subst, ◌∙◌}
use Rattle.std.proofs.lemmas.Grind.{common_steps}
use Rattle.record_core.specs.declared.kernel_space.KernelLayout.TheVariants.{V0}
use Rattle.record_core.specs.KernelLayouts.{IsWhole}
use Rattle.record_core.specs.Space.{kernel_fault, kernel_versions, with_crc}
use Rattle.record_core.proofs.SpaceLemmas.{number_of_good-none, with_versions-good}
use Rattle.record_core.proofs.kernel_space.KernelSpace.set_versions.Goals as goal

pub invariant_of-self : goal.invariant_of-self
invariant_of-self c =
    let old : IsWhole (V0 c.in-V0.old) = subst IsWhole c.in-V0.is c.self.invariant in
    let keeps = with_versions-good c.in-V0.old c.renew_crc.new.bytes c.args.versions (c.renew_crc.ensures ∙ ap (with_crc 12) c.put_u32.ensures) old.size
    c.ranges.versions.fits old.good in
    record { size = keeps.size; good = keeps.good }

pub returns-in-V0-clause-good : goal.returns-in-V0-clause-good
returns-in-V0-clause-good c =
    let old : IsWhole (V0 c.in-V0.old) = subst IsWhole c.in-V0.is c.self.invariant in
    let keeps = with_versions-good c.in-V0.old c.renew_crc.new.bytes c.args.versions (c.renew_crc.ensures ∙ ap (with_crc 12) c.put_u32.ensures) old.size
    c.ranges.versions.fits old.good in
    keeps.good

pub returns-in-V0-clause-stored : goal.returns-in-V0-clause-stored
returns-in-V0-clause-stored c =
    let new = c.renew_crc.new.bytes in
    let old : IsWhole (V0 c.in-V0.old) = subst IsWhole c.in-V0.is c.self.invariant in
    let keeps = with_versions-good c.in-V0.old new c.args.versions (c.renew_crc.ensures ∙ ap (with_crc 12) c.put_u32.ensures) old.size c.ranges.versions.fits old.good in
    let size : length new ≡ 13 = keeps.size in
    let versions : kernel_versions new ≡ c.args.versions = grind (arith, common_steps) in
    number_of_good-none (kernel_fault new) (kernel_versions new) c.args.versions keeps.good versions
