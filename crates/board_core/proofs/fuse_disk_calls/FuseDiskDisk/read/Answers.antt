-- A read on a fuse meets the trait, whether it is refused or passes on.
use Rattle.std.proofs.Common.{arith, ◌∙◌, sym}
use Rattle.board_core.proofs.FuseLemmas.{on_ok_of}
use Rattle.board_core.proofs.FuseDiskLemmas.{reads_disk_passed, reads_disk_failed, settled_writes}
use Rattle.board_core.proofs.fuse_disk_calls.FuseDiskDisk.read.Goals as goal

pub returns-in-Dead-clause-meets : goal.returns-in-Dead-clause-meets
returns-in-Dead-clause-meets g c =
    let fuse = c.args.self.now in
    let medium = (g.D.Disk.state fuse.inner).medium in
    let none = fuse.settled c.in-Dead.is in
    reads_disk_failed c.args.lba c.args.buf.now medium fuse.torn.items fuse.sectors_read fuse.counters c.count_observed.new.self _ c.count_observed.result
    c.count_observed.ensures.same c.count_observed.ensures.counted (omega arith) none (settled_writes medium none (g.met.D.Disk.told_pending fuse.inner))

pub returns-then-is_err-clause-meets : goal.returns-then-is_err-clause-meets
returns-then-is_err-clause-meets g c =
    let fuse = c.args.self.now in
    let answer = c.read_below-answer.result in
    reads_disk_passed c.args.lba c.read_below-answer.new.buf (g.D.Disk.state fuse.inner) (g.D.Disk.state c.read_below-answer.new.inner) fuse.torn.items fuse.sectors_read fuse.sectors_read
    fuse.counters c.count_observed-then-is_err.new.self answer c.count_observed-then-is_err.result c.read_below-answer.ensures.meets c.count_observed-then-is_err.ensures.same
    c.count_observed-then-is_err.ensures.counted (omega arith) (omega arith) (on_ok_of _ answer (sym c.is_err.ensures.value ∙ c.if-is_err.true))
