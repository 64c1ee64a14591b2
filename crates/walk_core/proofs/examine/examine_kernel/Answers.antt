-- At each exit head and body are what was found.
use Rattle.std.proofs.Common.{Option, Result, Ok, ◌∙◌, ap, subst}
use Rattle.chain_core.specs.declared.fault.BodyFault.{BodyFault}
use Rattle.chain_core.specs.declared.fault.Failure.{Failure}
use Rattle.kernel_core.specs.KernelBodies.{VerifiesKernelBody}
use Rattle.kernel_core.specs.declared.head_fault.HeadOk.{HeadOk}
use Rattle.walk_core.specs.Kernels.{walk_question}
use Rattle.walk_core.specs.Examined.{ExaminesHead}
use Rattle.walk_core.proofs.KernelsFound.{good_body, bad_body, body_failed}
use Rattle.walk_core.proofs.examine.examine_kernel.Goals as goal

pub returns-in-Ok-None-verify_body : goal.returns-in-Ok-None-verify_body
returns-in-Ok-None-verify_body g c =
    let d = walk_question (g.D.Disk.state c.args.disk.now) (g.H.Hook.state c.args.hook.now) c.args.request.now in
    let disk' = g.D.Disk.state c.examine_head.new.disk in
    let disk'' = g.D.Disk.state c.verify_body.new.disk in
    let hook' = g.H.Hook.state c.examine_head.new.hook in
    let hook'' = g.H.Hook.state c.verify_body.new.hook in
    let vblock = c.examine_head.new.vblock in
    let head = c.in-Ok-Some.head in
    let exam = subst (λ (r : Result (Option HeadOk) Failure). ExaminesHead d c.args.partition.first c.args.partition.sectors disk' hook' vblock r) (c.in-Ok-Some.is ∙ ap Ok c.in-Ok-Some.field-0-is) c.examine_head.ensures.meets in
    let verifies = subst (λ (r : Result (Option BodyFault) Failure). VerifiesKernelBody vblock head c.args.partition.first c.args.partition.sectors disk' disk'' hook' hook'' c.verify_body.new.room r) (c.in-Ok-None-verify_body.is ∙ ap Ok c.in-Ok-None-verify_body.field-0-is) c.verify_body.ensures.meets in
    record { meets = good_body d c.args.partition.first c.args.partition.sectors disk' disk'' hook' hook'' vblock c.verify_body.new.room head exam verifies }

pub returns-in-Ok-Some-verify_body : goal.returns-in-Ok-Some-verify_body
returns-in-Ok-Some-verify_body g c =
    let d = walk_question (g.D.Disk.state c.args.disk.now) (g.H.Hook.state c.args.hook.now) c.args.request.now in
    let disk' = g.D.Disk.state c.examine_head.new.disk in
    let disk'' = g.D.Disk.state c.verify_body.new.disk in
    let hook' = g.H.Hook.state c.examine_head.new.hook in
    let hook'' = g.H.Hook.state c.verify_body.new.hook in
    let vblock = c.examine_head.new.vblock in
    let head = c.in-Ok-Some.head in
    let exam = subst (λ (r : Result (Option HeadOk) Failure). ExaminesHead d c.args.partition.first c.args.partition.sectors disk' hook' vblock r) (c.in-Ok-Some.is ∙ ap Ok c.in-Ok-Some.field-0-is) c.examine_head.ensures.meets in
    let verifies = subst (λ (r : Result (Option BodyFault) Failure). VerifiesKernelBody vblock head c.args.partition.first c.args.partition.sectors disk' disk'' hook' hook'' c.verify_body.new.room r) (c.in-Ok-Some-verify_body.is ∙ ap Ok c.in-Ok-Some-verify_body.field-0-is) c.verify_body.ensures.meets in
    record { meets = bad_body d c.args.partition.first c.args.partition.sectors disk' disk'' hook' hook'' vblock c.verify_body.new.room head c.in-Ok-Some-verify_body.field-0-0 exam verifies }

pub returns-in-Err-verify_body : goal.returns-in-Err-verify_body
returns-in-Err-verify_body g c =
    let d = walk_question (g.D.Disk.state c.args.disk.now) (g.H.Hook.state c.args.hook.now) c.args.request.now in
    let disk' = g.D.Disk.state c.examine_head.new.disk in
    let disk'' = g.D.Disk.state c.verify_body.new.disk in
    let hook' = g.H.Hook.state c.examine_head.new.hook in
    let hook'' = g.H.Hook.state c.verify_body.new.hook in
    let vblock = c.examine_head.new.vblock in
    let head = c.in-Ok-Some.head in
    let exam = subst (λ (r : Result (Option HeadOk) Failure). ExaminesHead d c.args.partition.first c.args.partition.sectors disk' hook' vblock r) (c.in-Ok-Some.is ∙ ap Ok c.in-Ok-Some.field-0-is) c.examine_head.ensures.meets in
    let verifies = subst (λ (r : Result (Option BodyFault) Failure). VerifiesKernelBody vblock head c.args.partition.first c.args.partition.sectors disk' disk'' hook' hook'' c.verify_body.new.room r) c.in-Err-verify_body.is c.verify_body.ensures.meets in
    record { meets = body_failed d c.args.partition.first c.args.partition.sectors disk' disk'' hook' hook'' vblock c.verify_body.new.room head c.in-Err-verify_body.failure exam verifies }
