use Rattle.std.proofs.Common.{ap, ◌∙◌}
use Rattle.std.specs.Prelude.{None}
use Rattle.make_core.specs.declared.drive.Kernel.{Kernel}
use Rattle.make_core.specs.Drive.{drive_with}
use Rattle.make_core.specs.Table.{drive_table, stick_rows}
use Rattle.make_core.proofs.KernelSizes.{stick_rows-fit}
use Rattle.make_core.proofs.drive.make_stick.Goals as goal

pub make_drive-requires-clause-rows : goal.make_drive-requires-clause-rows
make_drive-requires-clause-rows c = stick_rows-fit

pub returns-clause-value : goal.returns-clause-value
returns-clause-value c =
    c.make_drive.ensures.value
    ∙ ap (λ (k : Kernel). drive_with (drive_table c.args.number 80 stick_rows) k None) c.make_kernel-first.ensures.value

pub returns-clause-sizes : goal.returns-clause-sizes
returns-clause-sizes c = c.make_drive.ensures.sizes
