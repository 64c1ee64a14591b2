-- What was read, or started, can be committed.
use Rattle.std.proofs.Common.{Ok, ap, sym, subst}
use Rattle.board_core.specs.declared.device.Failed.{Failed}
use Rattle.gpt_core.specs.declared.found.Found.{Found}
use Rattle.board_core.specs.Disk.{DiskState}
use Rattle.gpt_core.specs.Room.{RoomView, CanCommit, ReadsTable}
use Rattle.gpt_core.proofs.Sources.{is_there, can_commit, can_start}
use Rattle.device_tests.proofs.commits.open_table.Goals as goal

pub returns-in_default : goal.returns-in_default
returns-in_default g c =
    let reads = c.in_ok-read_table.ensures.meets in
    record {
      settled = reads.keeps.none_pending;
      sectors = reads.keeps.sectors;
      ready = can_commit c.in_ok-read_table.field-0 (g.D.Disk.state c.args.disk.now) (g.D.Disk.state c.read_table.new.disk) c.read_table.new.room (is_there c.in_ok-read_table.field-0 c.in_default.not-None) reads;
    }

pub returns-clause-ready : goal.returns-clause-ready
returns-clause-ready g c =
    let old = g.D.Disk.state c.args.disk.now in
    let mid = g.D.Disk.state c.read_table.new.disk in
    let reads = subst (λ (what : Found). ReadsTable {E = Failed} old mid c.read_table.new.room (Ok what)) c.in-None.is c.in_ok-read_table.ensures.meets in
    let started = c.start.ensures.started c.if-not-start.false in
    let size = (c.start.ensures.answer.0 c.if-not-start.false).0 in
    subst (λ (d : DiskState). CanCommit d c.start.new.self) (sym c.start.ensures.disk)
    (can_start old mid c.read_table.new.room c.start.new.self reads (ap (λ (r : RoomView). r.source) started) (ap (λ (r : RoomView). r.sectors) started) size)
