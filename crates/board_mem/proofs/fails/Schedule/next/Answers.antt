use Rattle.board_mem.proofs.Plans.{failures_to_come-after}
use Rattle.board_mem.proofs.fails.Schedule.next.Goals as goal

pub returns-clause-to_come : goal.returns-clause-to_come
returns-clause-to_come c =
    let called = c.raise-self.ensures.raised in
    let value = rw c.deref.ensures.value at c.failure_of.ensures.value in
    rw called (failures_to_come-after c.args.self.now.fails.items c.args.self.now.calls c.failure_of.result (rw called at value) (rw called at c.failure_of.ensures.named) (rw called at c.raise-self.ensures.no_less))
