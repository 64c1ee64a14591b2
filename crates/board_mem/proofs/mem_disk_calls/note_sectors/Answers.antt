-- One more sector is noted.
use Rattle.std.proofs.Common.{arith}
use Rattle.board_mem.proofs.DiskLeaves.{standing_more}
use Rattle.board_mem.proofs.mem_disk_calls.note_sectors.Goals as goal

pub loop-write-preserved : goal.loop-write-preserved
loop-write-preserved c = record {
  torn = standing_more c.args.content.now c.args.writes.now c.loop-write.write-index _ _ _ _ c.loop-write-test.true c.loop-write.invariant.torn c.note_sector.ensures.torn;
  noted = omega arith;
  capacity = omega arith;
}
