-- One more sector is torn and noted.
use Rattle.std.proofs.Common.{arith, ◌∙◌}
use Rattle.board_mem.proofs.DiskLeaves.{overlaid_more, noted_more}
use Rattle.board_mem.proofs.mem_disk_calls.tear_sectors.Goals as goal

pub loop-write-preserved : goal.loop-write-preserved
loop-write-preserved c = record {
  bytes = overlaid_more c.args.remains c.args.writes.now c.loop-write.write-index _ _ _ _ c.loop-write-test.true c.loop-write.invariant.bytes c.tear_sector.ensures.content;
  same_length = c.tear_sector.ensures.same_length ∙ c.loop-write.invariant.same_length;
  torn = noted_more c.args.remains c.args.writes.now c.loop-write.write-index _ _ _ _ c.loop-write-test.true c.loop-write.invariant.torn c.tear_sector.ensures.torn;
  noted = omega arith;
  capacity = omega arith;
}
