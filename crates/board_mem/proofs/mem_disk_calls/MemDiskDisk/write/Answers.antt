-- A write is pending, and a failed one leaves each pending sector and its own torn.
use Rattle.std.proofs.Common.{refl, length, ap, ◌≡◌, ◌+◌, ◌-◌, ◌*◌, ◌/◌, arith, ℕ, ◌++◌, map}
use Rattle.board_core.specs.Flash.{range}
use Rattle.board_core.specs.Torn.{torn_records}
use Rattle.board_core.proofs.Stops.{plain_changed}
use Rattle.board_core.proofs.DiskTorn.{left_disk_torn_alone}
use Rattle.board_mem.specs.Remains.{record_left}
use Rattle.board_mem.proofs.DiskLeaves.{records_of-left, noted_sectors}
use Rattle.board_mem.proofs.mem_disk_calls.MemDiskDisk.write.Goals as goal

pub invariant_of-self-clause-in_sectors : goal.invariant_of-self-clause-in_sectors
invariant_of-self-clause-in_sectors c =
    noted_sectors (length c.args.self.now.bytes.items) _ c.args.lba _ c.args.bytes.now c.args.self.now.writes.items c.note.new.torn.items c.replace.ensures.same_length c.args.self.now.in_sectors
    c.requires.whole c.requires.inside c.note.ensures.noted

pub end_torn-requires-clause-sectors : goal.end_torn-requires-clause-sectors
end_torn-requires-clause-sectors c =
    (noted_sectors (length c.args.self.now.bytes.items) _ c.args.lba _ c.args.bytes.now c.args.self.now.writes.items c.note.new.torn.items refl c.args.self.now.in_sectors
    c.requires.whole c.requires.inside c.note.ensures.noted)

pub returns-in-Some-clause-meets : goal.returns-in-Some-clause-meets
returns-in-Some-clause-meets c =
    let writes = c.args.self.now.writes.items in
    let own = torn_records (c.args.lba * 512) (range c.args.self.now.bytes.items (c.args.lba * 512) (length c.args.bytes.now)) c.args.bytes.now c.args.bytes.now in
    let width : c.args.lba * 512 + length c.args.bytes.now - c.args.lba * 512 ≡ length c.args.bytes.now = omega arith in
    let noted = rw (c.deref.ensures.value, width) at c.note.ensures.noted in
    let content = rw noted at c.end_torn.ensures.content in
    let torn = rw noted at c.end_torn.ensures.torn in
    let sectors = noted_sectors (length c.args.self.now.bytes.items) _ c.args.lba _ c.args.bytes.now writes (writes ++ own) refl c.args.self.now.in_sectors
    c.requires.whole c.requires.inside refl in
    record {
      counters = plain_changed _ _ _ _ c.raise-self.ensures.no_less c.raise-self.ensures.raised c.raise-self-in-Some.ensures.no_less c.raise-self-in-Some.ensures.raised;
      sectors = ap (λ (n : ℕ). n / 512) c.end_torn.ensures.same_length;
      told = refl;
      sectors_read = refl;
      pending = tt;
      none_pending = ap length c.end_torn.ensures.none_left;
      bytes = λ told. tt;
      writes = λ told. tt;
      torn = λ told. tt;
      err = λ told. left_disk_torn_alone writes own (map (record_left c.in-Some.remains) (writes ++ own)) _ _ _ _ refl refl torn
          (records_of-left c.in-Some.remains (length c.args.self.now.bytes.items) (writes ++ own) sectors) content c.end_torn.ensures.none_left;
    }
