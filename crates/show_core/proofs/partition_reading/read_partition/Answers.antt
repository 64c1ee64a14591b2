-- There is no table, or no such entry, or its partition was read.
use Rattle.std.proofs.Common.{sym, subst, arith, Ok, IsTrue}
use Rattle.board_core.specs.declared.device.Failed.{Failed}
use Rattle.board_core.proofs.Stops.{observed_then}
use Rattle.gpt_core.specs.declared.found.Found.{Found}
use Rattle.gpt_core.specs.Room.{ReadsTable}
use Rattle.gpt_core.proofs.Sources.{is_there}
use Rattle.gpt_core.proofs.FoundTables.{keeps_then}
use Rattle.show_core.proofs.PartitionReads.{no_table, no_entry, an_entry}
use Rattle.show_core.proofs.partition_reading.read_partition.Goals as goal

pub returns-in-None : goal.returns-in-None
returns-in-None g c =
    let old = g.D.Disk.state c.args.disk.now in
    let new = g.D.Disk.state c.read_table.new.disk in
    let reads = subst (λ (what : Found). ReadsTable {E = Failed} old new c.read_table.new.room (Ok what)) c.in-None.is c.in_ok-read_table.ensures.meets in
    record {
      counters = reads.counters;
      keeps = reads.keeps;
      no_fewer = reads.no_fewer;
      no_more = λ told. omega (arith, reads.no_more told);
      answer = λ told. no_table c.args.index old.medium c.read_table.new.room.table (reads.found told);
    }

pub returns-in_default-place_of : goal.returns-in_default-place_of
returns-in_default-place_of g c =
    let old = g.D.Disk.state c.args.disk.now in
    let reads = c.in_ok-read_table.ensures.meets in
    let there = is_there c.in_ok-read_table.field-0 c.in_default.not-None in
    record {
      counters = reads.counters;
      keeps = reads.keeps;
      no_fewer = reads.no_fewer;
      no_more = λ told. omega (arith, reads.no_more told);
      answer = λ told.
          no_entry c.args.index old.medium c.in_ok-read_table.field-0 c.read_table.new.room.table c.place_of.result there (reads.found told) c.place_of.ensures.place c.in_default-place_of.is;
    }

pub returns : goal.returns
returns g c =
    let old = g.D.Disk.state c.args.disk.now in
    let mid = g.D.Disk.state c.read_table.new.disk in
    let reads = c.in_ok-read_table.ensures.meets in
    let there = is_there c.in_ok-read_table.field-0 c.in_default.not-None in
    let kernel = c.in_ok-facts.ensures in
    record {
      counters = observed_then _ _ _ _ reads.counters kernel.counters;
      keeps = keeps_then old.medium mid.medium _ reads.keeps kernel.keeps;
      no_fewer = λ told. omega (arith, reads.no_fewer told, kernel.no_fewer (subst IsTrue (sym reads.keeps.told) told));
      no_more = λ told. omega (arith, reads.no_more told, kernel.no_more (subst IsTrue (sym reads.keeps.told) told));
      answer = λ told.
          an_entry c.args.index old.medium mid.medium c.in_ok-read_table.field-0 c.read_table.new.room.table c.place_of.result c.in-Some.first c.in-Some.sectors c.in_ok-facts.facts there
          (reads.found told) c.place_of.ensures.place c.in-Some.is (reads.keeps.bytes told) (kernel.facts (subst IsTrue (sym reads.keeps.told) told));
    }
