-- A flush on a fuse meets the trait, whether it is refused, passes on or is the chosen one.
use Rattle.std.proofs.Common.{[], refl, is_err, ◌∙◌, sym}
use Rattle.board_core.proofs.Stops.{refused_dead}
use Rattle.board_core.proofs.FuseLemmas.{passed_change, failed_change}
use Rattle.board_core.proofs.DiskTorn.{left_disk_torn_refused}
use Rattle.board_core.proofs.FuseDiskLemmas.{flushes_passed, flushes_failed, settled_writes}
use Rattle.board_core.proofs.fuse_disk_calls.FuseDiskDisk.flush.Goals as goal

pub returns-in-Refuse-clause-meets : goal.returns-in-Refuse-clause-meets
returns-in-Refuse-clause-meets g c =
    let fuse = c.args.self.now in
    let medium = (g.D.Disk.state fuse.inner).medium in
    let changed = failed_change fuse.counters c.begin_change.new.self c.count_change.new.self _ c.count_change.result c.begin_change.ensures.after c.count_change.ensures.same c.count_change.ensures.counted in
    let none = fuse.settled (refused_dead fuse.counters.stop (sym c.begin_change.ensures.turn ∙ c.in-Refuse.is)) in
    flushes_failed medium medium fuse.torn.items fuse.torn.items fuse.sectors_read fuse.counters c.count_change.new.self _ c.count_change.result c.count_change.ensures.same changed refl refl none
    (λ told. left_disk_torn_refused [] medium fuse.torn.items (settled_writes medium none (g.met.D.Disk.told_pending fuse.inner) told))

pub returns-in-Pass-clause-meets : goal.returns-in-Pass-clause-meets
returns-in-Pass-clause-meets g c =
    let turn = sym c.begin_change.ensures.turn ∙ c.in-Pass.is in
    let changed = passed_change c.args.self.now.counters c.begin_change.new.self c.count_change-in-Pass.new.self (is_err c.count_change-in-Pass.result) turn c.begin_change.ensures.after c.count_change-in-Pass.ensures.counted in
    flushes_passed (g.D.Disk.state c.args.self.now.inner) (g.D.Disk.state c.flush_below-answer.new.inner) c.args.self.now.torn.items c.args.self.now.sectors_read c.args.self.now.counters c.count_change-in-Pass.new.self
    c.flush_below-answer.result c.count_change-in-Pass.result c.flush_below-answer.ensures.meets c.count_change-in-Pass.ensures.same changed

pub returns-in-Stop-clause-meets : goal.returns-in-Stop-clause-meets
returns-in-Stop-clause-meets g c =
    let changed = failed_change c.args.self.now.counters c.begin_change.new.self c.count_change-in-Stop.new.self _ c.count_change-in-Stop.result c.begin_change.ensures.after c.count_change-in-Stop.ensures.same c.count_change-in-Stop.ensures.counted in
    flushes_failed (g.D.Disk.state c.args.self.now.inner).medium (g.D.Disk.state c.settle.new.inner).medium c.args.self.now.torn.items c.settle.new.torn.items c.args.self.now.sectors_read
    c.args.self.now.counters c.count_change-in-Stop.new.self _ c.count_change-in-Stop.result
    c.count_change-in-Stop.ensures.same changed c.settle.ensures.sectors c.settle.ensures.told c.settle.ensures.none_pending c.settle.ensures.left_torn
