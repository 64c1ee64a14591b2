use Rattle.std.proofs.Common.{List, ℕ, subst}
use Rattle.uuid.specs.Parts.{swap_fields}
use Rattle.cgpt_core.specs.Tables.{Works}
use Rattle.cgpt_core.proofs.working.cgpt.Goals as goal

pub returns-in-Show-clause-settled : goal.returns-in-Show-clause-settled
returns-in-Show-clause-settled g c = (c.show.ensures (swap_fields c.args.fresh)).disk.none_pending

pub returns-in-Find-clause-settled : goal.returns-in-Find-clause-settled
returns-in-Find-clause-settled g c = (c.find.ensures (swap_fields c.args.fresh)).disk.none_pending

pub returns-in-Repair-clause-settled : goal.returns-in-Repair-clause-settled
returns-in-Repair-clause-settled g c = (c.repair.ensures (swap_fields c.args.fresh)).disk.none_pending

pub returns-in-Create-clause-works : goal.returns-in-Create-clause-works
returns-in-Create-clause-works g c =
    subst (λ (guid : List ℕ). Works c.args.call.now guid (g.D.Disk.state c.args.disk.now) (g.D.Disk.state c.create.new.disk) (g.O.Sink.state c.args.out.now)
    (g.O.Sink.state c.create.new.out) c.create.result) c.to_bytes_le.ensures c.create.ensures

pub returns-in_default-clause-works : goal.returns-in_default-clause-works
returns-in_default-clause-works g c =
    subst (λ (guid : List ℕ). Works c.args.call.now guid (g.D.Disk.state c.args.disk.now) (g.D.Disk.state c.edit.new.disk) (g.O.Sink.state c.args.out.now)
    (g.O.Sink.state c.edit.new.out) c.edit.result) c.to_bytes_le-in_default.ensures c.edit.ensures
