-- Each head is examined as the drive was before, and what was found of it is noted.
use Rattle.std.proofs.Common.{Ok, Err, arith}
use Rattle.walk_core.specs.Kernels.{walk_question}
use Rattle.walk_core.proofs.SameDrives.{head_after_call}
use Rattle.walk_core.proofs.LaterSteps.{known_none, known_more, later_known, later_failed}
use Rattle.walk_core.proofs.later.count_later.Goals as goal

pub loop-place-init : goal.loop-place-init
loop-place-init g c =
    let d = walk_question (g.D.Disk.state c.args.disk.now) (g.H.Hook.state c.args.hook.now) c.args.request.now in
    record { known = known_none d c.args.candidates.now.gpt.now.table.entries c.args.candidates.now.ranks.now c.args.version c.none-later.result c.none-later.ensures }

pub loop-place-preserved : goal.loop-place-preserved
loop-place-preserved g c =
    let known = c.loop-place.invariant.known in
    let after = head_after_call _ _ _ _ _ _ _ _ _ _ _
    (Ok c.in-Ok.head) c.examine_head.result known.looks known.asked c.examine_head.ensures.meets c.partition_of-partition.ensures.first
    c.partition_of-partition.ensures.sectors c.in-Ok.is in
    record { known = known_more _ _ _ _ c.loop-place.place _ _ _ _ _ _ c.in-Ok.head known after c.note.ensures }

pub returns-in-Err : goal.returns-in-Err
returns-in-Err g c =
    let known = c.loop-place.invariant.known in
    let after = head_after_call _ _ _ _ _ _ _ _ _ _ _
    (Err c.in-Err.failure) c.examine_head.result known.looks known.asked c.examine_head.ensures.meets c.partition_of-partition.ensures.first
    c.partition_of-partition.ensures.sectors c.in-Err.is in
    record { meets = later_failed _ _ _ _ c.loop-place.place _ _ _ _ c.in-Err.failure c.loop-place-test.true after }

pub returns : goal.returns
returns g c =
    let d = walk_question (g.D.Disk.state c.args.disk.now) (g.H.Hook.state c.args.hook.now) c.args.request.now in
    record { meets = later_known d c.args.candidates.now.gpt.now.table.entries c.args.candidates.now.ranks.now c.args.version c.loop-place.place (g.D.Disk.state c.loop-place.disk) (g.H.Hook.state c.loop-place.hook) c.loop-place.later (omega arith) c.loop-place.invariant.known }
