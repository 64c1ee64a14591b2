-- A fault of the bytes, or else what the lines on the signature find.
use Rattle.std.proofs.Common.{Ok, refl, ap}
use Rattle.std.proofs.lemmas.Result.{err_from_is_err_and}
use Rattle.board_core.specs.declared.device.Failed.{Failed}
use Rattle.preamble_core.specs.Kernel.{KernelPreamble}
use Rattle.kernel_core.specs.KernelTables.{kernel_preamble}
use Rattle.chain_core.specs.Checking.{signature_question, ChecksSignature}
use Rattle.chain_core.proofs.Said.{asked_none, behind_none, failed_of}
use Rattle.chain_core.proofs.SignatureAnswers.{found_of, front_failed}
use Rattle.chain_core.proofs.PreambleAnswers.{Viewed, view_fault, preamble_fault, preamble_failed, signature_shown, preamble_good}
use Rattle.kernel_core.proofs.preamble.verify_kernel_preamble.Given.{Over}
use Rattle.kernel_core.proofs.preamble.verify_kernel_preamble.Goals as goal
use Rattle.kernel_core.proofs.preamble.verify_kernel_preamble.Goals.{In-Ok, In_ok-found}

viewed : (g : Over) (c : In-Ok g) → Viewed kernel_preamble c.args.bytes.now c.in-Ok.preamble
viewed g c = record {
  none = c.in-Ok.ensures.none;
  parts = c.in-Ok.ensures.parts;
  common = ap (λ (p : KernelPreamble). p.common) c.in-Ok.ensures.parts;
  signature_length = c.in-Ok.ensures.fits.common.signature_length;
  fits = c.in-Ok.ensures.fits;
  signed = c.in-Ok.ensures.signed;
}

pub returns-in-Err : goal.returns-in-Err
returns-in-Err g c =
    let old = g.H.Hook.state c.args.hook.now in
    record {
      meets = preamble_fault kernel_preamble _ _ _ _ old old c.in-Err.fault (asked_none old) (behind_none _ old _) (λ told.
          view_fault kernel_preamble _ c.in-Err.fault c.in-Err.ensures.fault);
    }

-- what was found of the signature
found : (g : Over) (c : In_ok-found g)
    → ChecksSignature {E = Failed}
    (signature_question c.in-Ok.preamble.common c.args.key.now c.args.stored c.args.rollback (g.H.Hook.state c.args.hook.now))
    (g.H.Hook.state c.args.hook.now) (g.H.Hook.state c.signature_fault.new.hook) (Ok c.in_ok-found.found)
found g c = found_of _ _ _ _ _ _ _ _ _ c.common.ensures c.signature_fault.ensures.meets c.in_ok-found.was

pub returns-in_err-found : goal.returns-in_err-found
returns-in_err-found g c =
    let at = goal.at.returns-in_err-found g c in
    let left = err_from_is_err_and c.from_residual.result c.from_residual.ensures.1 in
    let front = front_failed _ _ _ _ _ _ _ _ _ c.common.ensures c.signature_fault.ensures.meets c.in_err-found.was in
    let failed = failed_of _ _ _ _ c.signature_fault.ensures.meets.asked c.in_err-found.was in
    record { meets = rw left.1 (preamble_failed kernel_preamble _ _ _ _ _ _ _ left.0 failed (viewed g at.In-Ok) front) }

pub returns-in-Some : goal.returns-in-Some
returns-in-Some g c =
    let at = goal.at.returns-in-Some g c in
    record {
      meets = signature_shown kernel_preamble _ _ _ _ _ _ _ _ _ _ (viewed g at.In-Ok) (found g at.In_ok-found) c.in-Some.is refl;
    }

pub returns-in-None : goal.returns-in-None
returns-in-None g c =
    let at = goal.at.returns-in-None g c in
    record {
      meets = preamble_good kernel_preamble _ _ _ _ _ _ _ _ (viewed g at.In-Ok) (found g at.In_ok-found) c.in-None.is;
    }
