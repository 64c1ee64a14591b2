-- What was read is what the disk holds.
use Rattle.std.proofs.Common.{◌≡◌, length, arith}
use Rattle.kernel_core.proofs.DiskLooks.{read_after}
use Rattle.kernel_core.proofs.head.read_head.Goals as goal

pub returns-clause-filled : goal.returns-clause-filled
returns-clause-filled g c =
    let long : length c.read.new.buf ≡ 65536 = omega arith in
    read_after c.args.first 65536 c.read.new.buf (g.D.Disk.state c.args.disk.now)
    (g.D.Disk.state c.read.new.self) c.read.result c.read.ensures.meets long
