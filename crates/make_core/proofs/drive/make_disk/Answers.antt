use Rattle.std.proofs.Common.{ap, ◌∙◌}
use Rattle.std.specs.Prelude.{Some}
use Rattle.make_core.specs.declared.drive.Kernel.{Kernel}
use Rattle.make_core.specs.Kernel.{kernel_a, version_a}
use Rattle.make_core.specs.Drive.{drive_with, kernel_of}
use Rattle.make_core.specs.Table.{drive_table, disk_rows}
use Rattle.make_core.proofs.KernelSizes.{disk_rows-fit}
use Rattle.make_core.proofs.drive.make_disk.Goals as goal

pub make_drive-requires-clause-rows : goal.make_drive-requires-clause-rows
make_drive-requires-clause-rows c = disk_rows-fit

pub returns-clause-value : goal.returns-clause-value
returns-clause-value c =
    let table = drive_table c.args.number 40 disk_rows in
    c.make_drive.ensures.value
    ∙ ap (λ (k : Kernel). drive_with table k (Some c.make_kernel-second.result)) c.make_kernel-first.ensures.value
    ∙ ap (λ (k : Kernel). drive_with table (kernel_of c.args.number (version_a c.args.number) kernel_a) (Some k)) c.make_kernel-second.ensures.value

pub returns-clause-sizes : goal.returns-clause-sizes
returns-clause-sizes c = c.make_drive.ensures.sizes
