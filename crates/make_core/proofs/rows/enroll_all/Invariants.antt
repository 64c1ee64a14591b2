use Rattle.std.proofs.Common.{take}
use Rattle.make_core.proofs.Enrollments.{EnrolledSoFar}
use Rattle.make_core.proofs.rows.enroll_all.Given as goal

-- the rows so far are enrolled
abbrev pub invariant-loop-row : goal.invariant-loop-row
invariant-loop-row g l = EnrolledSoFar (take l.row-index l.rows) (g.H.Hook.state l.fn.hook) (g.H.Hook.state l.hook)
