use Rattle.std.proofs.Common.{arith}
use Rattle.make_core.proofs.Fronts.{puts_part}
use Rattle.make_core.proofs.putting.put_bytes.Goals as goal

pub returns : goal.returns
returns c = puts_part c.args.at _ c.args.out.now c.args.bytes.now _ c.copy_from_slice.ensures.after (omega arith)
