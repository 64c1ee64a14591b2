-- Each candidate is examined as the drive was before, and each exit says what was found.
use Rattle.std.proofs.Common.{Some, None, Ok, Err, ap, ◌∙◌, arith}
use Rattle.walk_core.specs.Kernels.{walk_question}
use Rattle.walk_core.proofs.OrderFacts.{ordered}
use Rattle.walk_core.proofs.SameDrives.{kernel_after_call}
use Rattle.walk_core.proofs.FirstSteps.{gone_none, gone_more, first_taken, first_failed, first_none}
use Rattle.walk_core.proofs.first.first_good.Goals as goal

pub partition_of-partition-requires-clause-candidate : goal.partition_of-partition-requires-clause-candidate
partition_of-partition-requires-clause-candidate g c =
    ((ordered c.args.candidates.now.gpt.now.table.entries c.args.candidates.now.ranks.now c.requires.ranked).ranked c.loop-place.place c.loop-place-test.true).candidate

pub loop-place-init : goal.loop-place-init
loop-place-init g c =
    let d = walk_question (g.D.Disk.state c.args.disk.now) (g.H.Hook.state c.args.hook.now) c.args.request.now in
    record { gone = gone_none d c.args.candidates.now.gpt.now.table.entries c.args.candidates.now.ranks.now }

pub loop-place-preserved : goal.loop-place-preserved
loop-place-preserved g c =
    let gone = c.loop-place.invariant.gone in
    let after = kernel_after_call _ _ _ _ _ _ _ _ _ _ c.examine_kernel.new.body
    (Ok None) c.examine_kernel.result gone.looks gone.asked c.examine_kernel.ensures.meets c.partition_of-partition.ensures.first
    c.partition_of-partition.ensures.sectors (c.in-Ok-None.is ∙ ap Ok c.in-Ok-None.field-0-is) in
    record { gone = gone_more _ _ _ c.loop-place.place _ _ _ _ _ (ordered _ _ c.requires.ranked) c.loop-place-test.true gone after }

pub returns-in-Ok-Some : goal.returns-in-Ok-Some
returns-in-Ok-Some g c =
    let gone = c.loop-place.invariant.gone in
    let after = kernel_after_call _ _ _ _ _ _ _ _ _ _ c.examine_kernel.new.body
    (Ok (Some c.in-Ok-Some.head)) c.examine_kernel.result gone.looks gone.asked c.examine_kernel.ensures.meets
    c.partition_of-partition.ensures.first c.partition_of-partition.ensures.sectors (c.in-Ok-Some.is ∙ ap Ok c.in-Ok-Some.field-0-is) in
    record {
      meets = first_taken _ _ _ c.loop-place.place _ _ _ _ _ c.in-Ok-Some.head
          (ordered _ _ c.requires.ranked) c.loop-place-test.true gone after;
    }

pub returns-in-Err : goal.returns-in-Err
returns-in-Err g c =
    let gone = c.loop-place.invariant.gone in
    let after = kernel_after_call _ _ _ _ _ _ _ _ _ _ c.examine_kernel.new.body
    (Err c.in-Err.failure) c.examine_kernel.result gone.looks gone.asked c.examine_kernel.ensures.meets
    c.partition_of-partition.ensures.first c.partition_of-partition.ensures.sectors c.in-Err.is in
    record {
      meets = first_failed _ _ _ c.loop-place.place _ _ _ _ _ c.in-Err.failure
          (ordered _ _ c.requires.ranked) c.loop-place-test.true gone after;
    }

pub returns : goal.returns
returns g c =
    let d = walk_question (g.D.Disk.state c.args.disk.now) (g.H.Hook.state c.args.hook.now) c.args.request.now in
    record {
      meets = first_none d c.args.candidates.now.gpt.now.table.entries c.args.candidates.now.ranks.now c.loop-place.place
          (g.D.Disk.state c.loop-place.disk) (g.H.Hook.state c.loop-place.hook) c.loop-place.body (omega arith) c.loop-place.invariant.gone;
    }
