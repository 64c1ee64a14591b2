-- A write on a fuse meets the trait, whether it is refused, passes on or is the chosen one.
use Rattle.std.proofs.Common.{Result, refl, is_err, ◌∙◌, sym, ap, subst}
use Rattle.board_core.specs.declared.device.Failed.{Failed}
use Rattle.board_core.specs.declared.counters.Counters.{Counters}
use Rattle.board_core.specs.Disk.{WritesDisk, write_records}
use Rattle.board_core.proofs.Stops.{refused_dead, unarmed_passes}
use Rattle.board_core.proofs.FuseLemmas.{passed_change, failed_change}
use Rattle.board_core.proofs.DiskTorn.{left_disk_torn_refused}
use Rattle.board_core.proofs.FuseDiskLemmas.{content_passed, passes_unarmed, writes_disk_content, writes_disk_failed, settled_writes}
use Rattle.board_core.proofs.fuse_disk_calls.FuseDiskDisk.write.Goals as goal

pub returns-in-Refuse-clause-meets : goal.returns-in-Refuse-clause-meets
returns-in-Refuse-clause-meets g c =
    let fuse = c.args.self.now in
    let medium = (g.D.Disk.state fuse.inner).medium in
    let changed = failed_change fuse.counters c.begin_change.new.self c.count_change.new.self _ c.count_change.result c.begin_change.ensures.after c.count_change.ensures.same c.count_change.ensures.counted in
    let none = fuse.settled (refused_dead fuse.counters.stop (sym c.begin_change.ensures.turn ∙ c.in-Refuse.is)) in
    writes_disk_failed c.args.lba c.args.bytes.now medium medium fuse.torn.items fuse.torn.items fuse.sectors_read fuse.counters c.count_change.new.self _ c.count_change.result c.count_change.ensures.same changed refl refl none
    (λ told. left_disk_torn_refused (write_records c.args.lba c.args.bytes.now medium) medium fuse.torn.items (settled_writes medium none (g.met.D.Disk.told_pending fuse.inner) told))

pub returns-in-Armed-clause-meets : goal.returns-in-Armed-clause-meets
returns-in-Armed-clause-meets g c =
    let fuse = c.args.self.now in
    let turn = sym c.begin_change.ensures.turn ∙ c.in-Pass.is in
    let changed = passed_change fuse.counters c.begin_change.new.self c.count_change-in-Armed.new.self (is_err c.count_change-in-Armed.result) turn c.begin_change.ensures.after c.count_change-in-Armed.ensures.counted in
    writes_disk_content c.args.lba c.args.bytes.now (g.D.Disk.state fuse.inner).medium (g.D.Disk.state c.write_after_read-answer.new.inner).medium fuse.torn.items fuse.sectors_read fuse.counters c.count_change-in-Armed.new.self
    c.write_after_read-answer.result c.count_change-in-Armed.result c.write_after_read-answer.ensures.content c.count_change-in-Armed.ensures.same changed

pub returns-in_default-clause-meets : goal.returns-in_default-clause-meets
returns-in_default-clause-meets g c =
    let fuse = c.args.self.now in
    let below = g.D.Disk.state fuse.inner in
    let below' = g.D.Disk.state c.write-answer.new.self in
    let turn = sym c.begin_change.ensures.turn ∙ c.in-Pass.is in
    let changed = passed_change fuse.counters c.begin_change.new.self c.count_change-in-Pass.new.self (is_err c.count_change-in-Pass.result) turn c.begin_change.ensures.after c.count_change-in-Pass.ensures.counted in
    writes_disk_content c.args.lba c.args.bytes.now below.medium below'.medium fuse.torn.items fuse.sectors_read fuse.counters c.count_change-in-Pass.new.self c.write-answer.result c.count_change-in-Pass.result
    (content_passed c.args.lba c.args.bytes.now below below' c.write-answer.result c.write-answer.ensures.meets) c.count_change-in-Pass.ensures.same changed

pub returns-in_default-clause-fused : goal.returns-in_default-clause-fused
returns-in_default-clause-fused g c =
    let fuse = c.args.self.now in
    let turn = sym c.begin_change.ensures.turn ∙ c.in-Pass.is in
    let moved = ap (λ (counters : Counters). counters.stop) c.begin_change.ensures.after in
    let unarmed = unarmed_passes fuse.counters.stop turn (λ l k armed. c.in_default.not-Armed l k (moved ∙ armed)) in
    let wrote = subst (λ (r : Result Unit Failed). WritesDisk c.args.lba c.args.bytes.now (g.D.Disk.state fuse.inner) (g.D.Disk.state c.write-answer.new.self) r) (sym c.count_change-in-Pass.ensures.same) c.write-answer.ensures.meets in
    record {
      stop = c.count_change-in-Pass.ensures.counted.stop ∙ moved;
      refused = λ refuse. absurd (cc);
      passed = λ pass. (passes_unarmed fuse.counters.stop c.args.lba c.args.bytes.now fuse _ c.count_change-in-Pass.result unarmed wrote, refl);
      chosen = λ keep stop. absurd (cc);
      sectors_read = refl;
    }
