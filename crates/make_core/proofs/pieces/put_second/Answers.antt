use Rattle.std.proofs.Common.{subst, sym}
use Rattle.std.specs.Prelude.{Option}
use Rattle.make_core.specs.declared.drive.Kernel.{Kernel}
use Rattle.make_core.specs.Drive.{second_parts, IsSecond}
use Rattle.make_core.specs.DriveParts.{PutsParts}
use Rattle.make_core.proofs.DriveParts.{puts_none}
use Rattle.make_core.proofs.pieces.put_second.Goals as goal

pub put_kernel-requires-clause-kernel : goal.put_kernel-requires-clause-kernel
put_kernel-requires-clause-kernel c = subst IsSecond c.in-Some.is c.requires.second

pub returns-in-Some : goal.returns-in-Some
returns-in-Some c =
    subst (λ (s : Option Kernel). PutsParts c.args.at (second_parts c.args.number s) c.args.out.now c.put_kernel.new.out) (sym c.in-Some.is) c.put_kernel.ensures

pub returns-in-None : goal.returns-in-None
returns-in-None c =
    subst (λ (s : Option Kernel). PutsParts c.args.at (second_parts c.args.number s) c.args.out.now c.args.out.now) (sym c.in-None.is) (puts_none c.args.at c.args.out.now)
