-- A failed read notes each pending sector with the bytes that stand there.
use Rattle.std.proofs.Common.{[], refl, arith, sym, ap, length, append-nil, map}
use Rattle.board_core.proofs.Stops.{plain_observed}
use Rattle.board_core.proofs.DiskTorn.{left_disk_torn_alone}
use Rattle.board_mem.specs.Remains.{record_standing}
use Rattle.board_mem.proofs.DiskLeaves.{overlaid-standing, records_of-standing}
use Rattle.board_mem.proofs.mem_disk_calls.MemDiskDisk.read.Goals as goal

pub returns-then-is_some-clause-meets : goal.returns-then-is_some-clause-meets
returns-then-is_some-clause-meets c =
    let bytes = c.args.self.now.bytes.items in
    let writes = c.args.self.now.writes.items in
    let sectors = c.args.self.now.in_sectors in
    let torn = rw (c.deref.ensures.value, c.deref-then-is_some.ensures.value) at c.note_sectors.ensures.torn in
    record {
      counters = plain_observed _ _ _ c.raise-self.ensures.no_less c.raise-self.ensures.raised;
      sectors = refl;
      told = refl;
      ok = tt;
      none_pending = ap length c.clear.ensures.items;
      bytes = λ told. refl;
      err = λ told. left_disk_torn_alone writes [] (map (record_standing bytes) writes) _ _ _ _ refl refl torn (rw append-nil (records_of-standing bytes writes sectors)) (sym (overlaid-standing bytes writes sectors)) c.clear.ensures.items;
      no_fewer = λ told. omega arith;
      no_more = λ told. omega arith;
      all_read = λ told. tt;
      filled = λ told. tt;
    }
