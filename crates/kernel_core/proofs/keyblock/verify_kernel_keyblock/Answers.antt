-- At each exit the lines before it do not hold, and the one that it names does.
use Rattle.std.proofs.Common.{◌∙◌, ap, Some, None, Ok, Err}
use Rattle.board_core.specs.declared.device.Failed.{Failed}
use Rattle.chain_core.specs.Checking.{ChecksKeyblock}
use Rattle.kernel_core.specs.Rules.{versions_are_checked}
use Rattle.kernel_core.specs.HeadChecks.{kernel_keyblock_question, ReadBySignature}
use Rattle.kernel_core.specs.KernelTables.{KernelKeyblockQuestion}
use Rattle.kernel_core.proofs.KernelKeyblockAnswers.{kernel_keyblock_faulty, kernel_keyblock_good, kernel_keyblock_failed, front_signed}
use Rattle.kernel_core.proofs.KernelKeyblockAnswers.{behind_ok, behind_err, read_signed, signed_answer, kept, at_flags, nowhere}
use Rattle.kernel_core.proofs.KernelKeyblockAnswers.{hashed_answer, flags_read}
use Rattle.kernel_core.proofs.keyblock.verify_kernel_keyblock.Given.{Over}
use Rattle.kernel_core.proofs.keyblock.verify_kernel_keyblock.Goals as goal
use Rattle.kernel_core.proofs.keyblock.verify_kernel_keyblock.Goals.{In-Ok-Ok, In-Ok-Err}

-- what the check by the signature found
faulty : (g : Over) (c : In-Ok-Err g)
    → ChecksKeyblock {E = Failed} c.args.bytes.now c.args.signer.now c.args.rules.now.stored (versions_are_checked c.args.rules.now)
    (g.H.Hook.state c.args.hook.now) (g.H.Hook.state c.verify_keyblock.new.hook) (Ok (Err c.in-Ok-Err.fault))
faulty g c = signed_answer _ _ c.args.rules.now _ _ _ _ _ c.versions_are_checked-checked.ensures c.verify_keyblock.ensures.meets
    (c.in-Ok-Err.is ∙ ap Ok c.in-Ok-Err.field-0-is)

good : (g : Over) (c : In-Ok-Ok g)
    → ChecksKeyblock {E = Failed} c.args.bytes.now c.args.signer.now c.args.rules.now.stored (versions_are_checked c.args.rules.now)
    (g.H.Hook.state c.args.hook.now) (g.H.Hook.state c.verify_keyblock.new.hook) (Ok (Ok c.in-Ok-Ok.keyblock))
good g c = signed_answer _ _ c.args.rules.now _ _ _ _ _ c.versions_are_checked-checked.ensures c.verify_keyblock.ensures.meets
    (c.in-Ok-Ok.is ∙ ap Ok c.in-Ok-Ok.field-0-is)

abbrev question : (g : Over) → In-Ok-Ok g → KernelKeyblockQuestion
question g c = kernel_keyblock_question c.args.bytes.now c.args.signer.now c.args.rules.now (g.H.Hook.state c.args.hook.now)

pub returns-then-is_dropped : goal.returns-then-is_dropped
returns-then-is_dropped g c =
    let hashed = c.check_hashed.ensures in
    record {
      meets = hashed_answer _ _ _ _ _ _ _ _
          (faulty g (goal.at.returns-then-is_dropped g c).In-Ok-Err) c.is_dropped.ensures c.if-is_dropped.true hashed.fault hashed.none hashed.parts hashed.fits hashed.key;
    }

pub returns-in-Ok-Err : goal.returns-in-Ok-Err
returns-in-Ok-Err g c =
    let q = kernel_keyblock_question c.args.bytes.now c.args.signer.now c.args.rules.now (g.H.Hook.state c.args.hook.now) in
    let found = faulty g (goal.at.returns-in-Ok-Err g c).In-Ok-Err in
    record {
      meets = kernel_keyblock_faulty _ _ _ _ _ _ found.asked (behind_ok q _ _ _ _ found.behind)
          (λ told. kept q c.in-Ok-Err.fault c.is_dropped.result (found.fault told) c.is_dropped.ensures c.if-is_dropped.false);
    }

pub returns-in-Some : goal.returns-in-Some
returns-in-Some g c =
    let q = question g (goal.at.returns-in-Some g c).In-Ok-Ok in
    let found = good g (goal.at.returns-in-Some g c).In-Ok-Ok in
    record {
      meets = kernel_keyblock_faulty _ _ _ _ _ _ found.asked (behind_ok q _ _ _ _ found.behind)
          (λ told. at_flags q c.in-Some.fault (found.none told)
          (flags_read q _ c.flags.result _ (Some c.in-Some.fault) c.flags.ensures found.parts c.flag_fault.ensures c.in-Some.is));
    }

pub returns-in-None : goal.returns-in-None
returns-in-None g c =
    let q = question g (goal.at.returns-in-None g c).In-Ok-Ok in
    let found = good g (goal.at.returns-in-None g c).In-Ok-Ok in
    let read : ReadBySignature c.args.bytes.now c.args.signer.now c.in-Ok-Ok.keyblock = record { parts = found.parts; fits = found.fits; signed = found.signed; copy = found.copy } in
    record {
      meets = kernel_keyblock_good _ _ _ _ _ _ found.asked (behind_ok q _ _ _ _ found.behind) (front_signed q found.front)
          (λ told. nowhere q (found.none told) (flags_read q _ c.flags.result _ None c.flags.ensures found.parts c.flag_fault.ensures c.in-None.is))
          (read_signed _ _ _ _ (versions_are_checked c.args.rules.now) _ read found.key);
    }

pub returns-in-Err : goal.returns-in-Err
returns-in-Err g c =
    let q = kernel_keyblock_question c.args.bytes.now c.args.signer.now c.args.rules.now (g.H.Hook.state c.args.hook.now) in
    let found = signed_answer _ _ c.args.rules.now _ _ _ _ _ c.versions_are_checked-checked.ensures c.verify_keyblock.ensures.meets c.in-Err.is in
    record { meets = kernel_keyblock_failed _ _ _ _ _ _ found.asked (behind_err q _ _ _ found.behind) }
