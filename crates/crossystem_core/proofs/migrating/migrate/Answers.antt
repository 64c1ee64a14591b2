-- The TPM failed in the write.
use Rattle.std.proofs.Common.{◌≡◌, ◌∙◌, ℕ, sym, subst, List, Result, Ok, Err, false, ap}
use Rattle.record_core.specs.declared.space.SpaceFault.{SpaceFault}
use Rattle.record_core.specs.Space.{is_v1, migrated_space, stored_kernel_version}
use Rattle.board_core.specs.declared.device.Failed.{Failed}
use Rattle.board_core.specs.declared.device.Space.TheVariants.{Kernel}
use Rattle.board_core.specs.Tpm.{WritesSpace}
use Rattle.space_core.specs.Reading.{ReadsKernel}
use Rattle.crossystem_core.proofs.Unmigrated.{unmigrated}
use Rattle.crossystem_core.proofs.migrating.migrate.Goals as goal

pub returns-in_default-write : goal.returns-in_default-write
returns-in_default-write g c =
    let started = g.T.Tpm.state c.startup.new.self in
    let looked = g.T.Tpm.state c.read_kernel_space.new.tpm in
    let new = g.T.Tpm.state c.write.new.self in
    let space = c.in-Ok-Ok.space in
    let reads : ReadsKernel {E = Failed} started looked (Ok (Ok space)) = subst (λ (r : Result (List ℕ) SpaceFault). ReadsKernel {E = Failed} started looked (Ok r)) c.in-Ok-Ok.field-0-is c.in-Ok-Ok.ensures in
    let older : is_v1 space ≡ false = sym c.is_v1.ensures ∙ c.if-is_v1.false in
    let bytes : c.as_slice.result.now ≡ migrated_space space = c.as_slice.ensures.same ∙ c.migrated-migrated.ensures.bytes in
    let stored : stored_kernel_version (migrated_space space) ≡ stored_kernel_version space = ap stored_kernel_version (sym c.migrated-migrated.ensures.bytes) ∙ c.migrated-migrated.ensures.stored in
    unmigrated _ started looked new c.in-Ok.ensures.meets space reads older stored c.in_default-write.field-0
    (subst (λ (b : List ℕ). WritesSpace {E = Failed} Kernel b looked new (Err c.in_default-write.field-0)) bytes c.in_default-write.ensures.meets)
