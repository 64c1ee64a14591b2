use Rattle.std.proofs.Common.{arith}
use Rattle.board_mem.proofs.Plans.{count_after-le-length}
use Rattle.board_mem.proofs.fails.Schedule.new.Goals as goal

pub returns-clause-to_come : goal.returns-clause-to_come
returns-clause-to_come c = omega (arith, count_after-le-length c.in_ok-to_vec.field-0.items 0, c.in_ok-to_vec.ensures.len)
