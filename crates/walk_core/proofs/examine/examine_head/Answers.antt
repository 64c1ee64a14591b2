-- The head is too short, or is what its tables find in the bytes that were read.
use Rattle.std.proofs.Common.{Bool, Ok, ◌∙◌, ap, sym, subst, arith}
use Rattle.kernel_core.specs.KernelBodies.{LooksAtDisk}
use Rattle.walk_core.specs.Kernels.{walk_question}
use Rattle.walk_core.proofs.HeadsFound.{short_head, unread_head, unheard_head, head_read, good_head, bad_head}
use Rattle.walk_core.proofs.examine.examine_head.Goals as goal

pub returns-then-partition-lt-HEAD_SECTORS : goal.returns-then-partition-lt-HEAD_SECTORS
returns-then-partition-lt-HEAD_SECTORS g c =
    let d = walk_question (g.D.Disk.state c.args.disk.now) (g.H.Hook.state c.args.hook.now) c.args.request.now in
    record { meets = short_head d c.args.partition.first c.args.partition.sectors c.args.vblock.now c.if-partition-lt-HEAD_SECTORS.true }

pub returns-in-Ok-Ok : goal.returns-in-Ok-Ok
returns-in-Ok-Ok g c =
    let d = walk_question (g.D.Disk.state c.args.disk.now) (g.H.Hook.state c.args.hook.now) c.args.request.now in
    let disk' = g.D.Disk.state c.read_head.new.disk in
    let read = head_read d c.args.partition.first disk' c.read_head.new.vblock c.read_head.result
    (sym c.is_err.ensures.value ∙ c.if-is_err.false) c.read_head.ensures.looks c.read_head.ensures.filled in
    record {
      meets = good_head d c.args.partition.first c.args.partition.sectors disk'
          (g.H.Hook.state c.verify_head.new.hook) c.read_head.new.vblock c.in-Ok-Ok.head c.verify_head.result
          (omega (arith, c.if-partition-lt-HEAD_SECTORS.false)) read c.verify_head.ensures.meets
          (c.in-Ok-Ok.is ∙ ap Ok c.in-Ok-Ok.field-0-is);
    }

pub returns-in-Ok-Err : goal.returns-in-Ok-Err
returns-in-Ok-Err g c =
    let d = walk_question (g.D.Disk.state c.args.disk.now) (g.H.Hook.state c.args.hook.now) c.args.request.now in
    let disk' = g.D.Disk.state c.read_head.new.disk in
    let read = head_read d c.args.partition.first disk' c.read_head.new.vblock c.read_head.result
    (sym c.is_err.ensures.value ∙ c.if-is_err.false) c.read_head.ensures.looks c.read_head.ensures.filled in
    record {
      meets = bad_head d c.args.partition.first c.args.partition.sectors disk'
          (g.H.Hook.state c.verify_head.new.hook) c.read_head.new.vblock c.in-Ok-Err.field-0-0 c.verify_head.result
          (omega (arith, c.if-partition-lt-HEAD_SECTORS.false)) read c.verify_head.ensures.meets
          (c.in-Ok-Err.is ∙ ap Ok c.in-Ok-Err.field-0-is);
    }

pub returns-then-is_err : goal.returns-then-is_err
returns-then-is_err g c =
    let d = walk_question (g.D.Disk.state c.args.disk.now) (g.H.Hook.state c.args.hook.now) c.args.request.now in
    let disk' = g.D.Disk.state c.read_head.new.disk in
    let looks = subst (λ (failed : Bool). LooksAtDisk 128 d.disk disk' failed)
    (sym c.is_err.ensures.value ∙ c.if-is_err.true) c.read_head.ensures.looks in
    record { meets = unread_head d c.args.partition.first c.args.partition.sectors disk' c.read_head.new.vblock looks }

pub returns-in-Err : goal.returns-in-Err
returns-in-Err g c =
    let d = walk_question (g.D.Disk.state c.args.disk.now) (g.H.Hook.state c.args.hook.now) c.args.request.now in
    let disk' = g.D.Disk.state c.read_head.new.disk in
    let read = head_read d c.args.partition.first disk' c.read_head.new.vblock c.read_head.result
    (sym c.is_err.ensures.value ∙ c.if-is_err.false) c.read_head.ensures.looks c.read_head.ensures.filled in
    record {
      meets = unheard_head d c.args.partition.first c.args.partition.sectors disk' (g.H.Hook.state c.verify_head.new.hook)
          c.read_head.new.vblock _ (omega (arith, c.if-partition-lt-HEAD_SECTORS.false)) read c.in-Err.ensures.meets;
    }
