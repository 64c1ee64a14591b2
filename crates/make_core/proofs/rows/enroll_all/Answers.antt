use Rattle.make_core.proofs.Enrollments.{so_far_more, refused}
use Rattle.make_core.proofs.rows.enroll_all.Goals as goal

pub returns-in-Err : goal.returns-in-Err
returns-in-Err g c = refused c.args.rows.now c.loop-row.row-index c.row-item.result _ (g.H.Hook.state c.loop-row.hook) _ c.in-Err.fault c.loop-row-test.true c.row-item.is c.loop-row.invariant c.in-Err.ensures.meets

pub loop-row-preserved : goal.loop-row-preserved
loop-row-preserved g c = so_far_more c.args.rows.now c.loop-row.row-index c.row-item.result _ (g.H.Hook.state c.loop-row.hook) _ c.loop-row-test.true c.row-item.is c.loop-row.invariant c.in_default.ensures.meets
