use Rattle.std.proofs.Common.{List, ℕ, ap, arith}
use Rattle.make_core.specs.declared.drive.Kernel.{Kernel}
use Rattle.make_core.proofs.drive.make_kernel.Goals as goal

pub returns-clause-value : goal.returns-clause-value
returns-clause-value c =
    let with_head : List ℕ → Kernel = λ head. record { head = head; body = c.args.tags.now.body } in
    ap with_head c.make_kernel_head.ensures

pub returns-clause-sizes : goal.returns-clause-sizes
returns-clause-sizes c = record { head = omega arith; body = c.requires.body }
