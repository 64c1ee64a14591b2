-- A failed flush leaves each pending sector torn.
use Rattle.std.proofs.Common.{refl, length, ap, ◌/◌, ℕ, map, append-nil, []}
use Rattle.board_core.proofs.Stops.{plain_changed}
use Rattle.board_core.proofs.DiskTorn.{left_disk_torn_alone}
use Rattle.board_mem.specs.Remains.{record_left}
use Rattle.board_mem.proofs.DiskLeaves.{records_of-left}
use Rattle.board_mem.proofs.mem_disk_calls.MemDiskDisk.flush.Goals as goal

pub returns-in-Some-clause-meets : goal.returns-in-Some-clause-meets
returns-in-Some-clause-meets c =
    let writes = c.args.self.now.writes.items in
    let records = records_of-left c.in-Some.remains (length c.args.self.now.bytes.items) writes c.args.self.now.in_sectors in
    record {
      counters = plain_changed _ _ _ _ c.raise-self.ensures.no_less c.raise-self.ensures.raised c.raise-self-in-Some.ensures.no_less c.raise-self-in-Some.ensures.raised;
      sectors = ap (λ (n : ℕ). n / 512) c.end_torn.ensures.same_length;
      told = refl;
      sectors_read = refl;
      none_pending = ap length c.end_torn.ensures.none_left;
      ok = λ told. tt;
      err = λ told. left_disk_torn_alone writes [] (map (record_left c.in-Some.remains) writes) _ _ _ _ refl refl c.end_torn.ensures.torn (rw append-nil records) c.end_torn.ensures.content c.end_torn.ensures.none_left;
    }
