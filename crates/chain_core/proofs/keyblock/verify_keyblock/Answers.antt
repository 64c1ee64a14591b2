-- At each exit the lines before it do not hold, and the one that it names does.
use Rattle.std.proofs.Common.{◌≡◌, ◌∙◌, ℕ, List, None, sym, ap, length}
use Rattle.std.specs.Prelude.{IsTrue}
use Rattle.std.proofs.lemmas.Result.{err_from_is_err_and}
use Rattle.wire_core.specs.FirstFault.{first_fault}
use Rattle.key_core.specs.Parts.{Key}
use Rattle.chain_core.specs.Accepted.{key_of}
use Rattle.chain_core.specs.Tables.{KeyblockQuestion, keyblock_front, data_key_lines}
use Rattle.chain_core.specs.Checking.{keyblock_question, view_question}
use Rattle.chain_core.proofs.Keys.{signer_known, known_fits}
use Rattle.chain_core.proofs.Said.{asked_none, behind_none, behind_all, Said, said_of, failed_of}
use Rattle.chain_core.proofs.Checking.{Viewed, Answered, view_fault, signer_fault, seal_size_fault, no_front, refused_fault, sealed}
use Rattle.chain_core.proofs.Checking.{data_key_some, data_key_none}
use Rattle.chain_core.proofs.KeyblockAnswers.{keyblock_fault, keyblock_failed, keyblock_good}
use Rattle.chain_core.proofs.keyblock.verify_keyblock.Given.{Over}
use Rattle.chain_core.proofs.keyblock.verify_keyblock.Goals as goal
use Rattle.chain_core.proofs.keyblock.verify_keyblock.Goals.{In-Ok, After-is_signed, In_ok-is_signed}

long : (a b : List ℕ) → a ≡ b → length b ≡ length a
long a b e = ap (λ (xs : List ℕ). length xs) (sym e)

abbrev question : (g : Over) → In-Ok g → KeyblockQuestion
question g c = keyblock_question c.args.bytes.now c.args.signer.now c.args.stored c.args.rollback (g.H.Hook.state c.args.hook.now)

viewed : (g : Over) (c : In-Ok g) → Viewed (question g c) c.in-Ok.keyblock
viewed g c = record { none = c.in-Ok.ensures.none; parts = c.in-Ok.ensures.parts; seal_size = c.in-Ok.ensures.fits.seal_length; key_size = c.in-Ok.ensures.fits.key_length }

-- the hook is asked behind the first lines
front : (g : Over) (c : After-is_signed g)
    → first_fault keyblock_front (keyblock_question c.args.bytes.now c.args.signer.now c.args.stored c.args.rollback
    (g.H.Hook.state c.args.hook.now)) ≡ None
front g c =
    let viewed : Viewed (keyblock_question c.args.bytes.now c.args.signer.now c.args.stored c.args.rollback
    (g.H.Hook.state c.args.hook.now)) c.in-Ok.keyblock =
    record { none = c.in-Ok.ensures.none; parts = c.in-Ok.ensures.parts; seal_size = c.in-Ok.ensures.fits.seal_length; key_size = c.in-Ok.ensures.fits.key_length } in
    no_front _ c.in-Ok.keyblock viewed (sym c.signer_fault.ensures ∙ c.in_default.is)
    (long _ _ c.seal_bytes.ensures ∙ c.if-seal_bytes-signature_length.false ∙ c.signature_length.ensures)

-- what the hook said
said : (g : Over) (c : In_ok-is_signed g) → Said (key_of c.args.signer.now) c.in-Ok.keyblock.signed c.in-Ok.keyblock.seal_bytes
    (g.H.Hook.state c.args.hook.now) (g.H.Hook.state c.is_signed.new.hook) c.in_ok-is_signed.field-0
said g c = said_of _ _ _ _ _ (g.H.Hook.state c.args.hook.now)
    (g.H.Hook.state c.is_signed.new.hook) _ c.in_ok-is_signed.field-0 c.signed.ensures c.seal_bytes-2.ensures c.is_signed.ensures.meets c.in_ok-is_signed.was

answered : (g : Over) (c : In_ok-is_signed g)
    (viewed : Viewed (keyblock_question c.args.bytes.now c.args.signer.now c.args.stored c.args.rollback
    (g.H.Hook.state c.args.hook.now)) c.in-Ok.keyblock)
    → IsTrue (g.H.Hook.state c.args.hook.now).told
    → Answered (keyblock_question c.args.bytes.now c.args.signer.now c.args.stored c.args.rollback
    (g.H.Hook.state c.args.hook.now)) c.in-Ok.keyblock c.in_ok-is_signed.field-0
answered g c viewed told = record {
  viewed = viewed;
  signer = sym c.signer_fault.ensures ∙ c.in_default.is;
  size = long _ _ c.seal_bytes.ensures ∙ c.if-seal_bytes-signature_length.false ∙ c.signature_length.ensures;
  says = (said g c).says told;
}

pub returns-in-Err : goal.returns-in-Err
returns-in-Err g c =
    let old = g.H.Hook.state c.args.hook.now in
    record {
      meets = keyblock_fault _ _ _ _ old old c.in-Err.fault (asked_none old) (behind_none _ old _)
          (λ told. view_fault _ c.in-Err.fault c.in-Err.ensures.fault);
    }

pub returns-in-Some : goal.returns-in-Some
returns-in-Some g c =
    let old = g.H.Hook.state c.args.hook.now in
    record {
      meets = keyblock_fault _ _ _ _ old old c.in-Some.fault (asked_none old) (behind_none _ old _)
          (λ told. signer_fault _ c.in-Some.fault c.in-Ok.ensures.none (sym c.signer_fault.ensures ∙ c.in-Some.is));
    }

pub signature_length-requires : goal.signature_length-requires
signature_length-requires g c = (signer_known (record { algorithm = c.args.signer.now.algorithm; size = c.args.signer.now.size })
    (sym c.signer_fault.ensures ∙ c.in_default.is)).algorithm_known

pub returns-then-seal_bytes-signature_length : goal.returns-then-seal_bytes-signature_length
returns-then-seal_bytes-signature_length g c =
    let old = g.H.Hook.state c.args.hook.now in
    let viewed = viewed g (goal.at.returns-then-seal_bytes-signature_length g c).In-Ok in
    record {
      meets = keyblock_fault _ _ _ _ old old _ (asked_none old) (behind_none _ old _) (λ told.
          seal_size_fault _ c.in-Ok.keyblock viewed (sym c.signer_fault.ensures ∙ c.in_default.is)
          (λ e. c.if-seal_bytes-signature_length.true (sym (long _ _ c.seal_bytes.ensures) ∙ e ∙ sym c.signature_length.ensures)));
    }

pub is_signed-requires : goal.is_signed-requires
is_signed-requires g c =
    known_fits c.args.signer.now.algorithm c.args.signer.now.size
    (signer_known (record { algorithm = c.args.signer.now.algorithm; size = c.args.signer.now.size })
    (sym c.signer_fault.ensures ∙ c.in_default.is))

pub returns-in_err-is_signed : goal.returns-in_err-is_signed
returns-in_err-is_signed g c =
    let left = err_from_is_err_and c.from_residual.result c.from_residual.ensures.1 in
    record {
      meets = rw left.1 (keyblock_failed _ _ _ _ _ _ left.0 (failed_of _ _ _ _ c.is_signed.ensures.meets.asked c.in_err-is_signed.was)
          (front g (goal.at.returns-in_err-is_signed g c).After-is_signed));
    }

pub returns-then-not-branch : goal.returns-then-not-branch
returns-then-not-branch g c =
    let at = goal.at.returns-then-not-branch g c in
    record {
      meets = keyblock_fault _ _ _ _ _ _ _ (said g at.In_ok-is_signed).asked (behind_all _ _ _ _ (front g at.After-is_signed))
          (λ told. refused_fault _ _ _ (answered g at.In_ok-is_signed (viewed g at.In-Ok) told) c.if-not-branch.true);
    }

pub returns-in-Some-data_key_fault : goal.returns-in-Some-data_key_fault
returns-in-Some-data_key_fault g c =
    let at = goal.at.returns-in-Some-data_key_fault g c in
    let key = ap (λ (key : Key). first_fault data_key_lines (view_question key c.args.stored c.args.rollback)) (sym c.data_key.ensures)
    ∙ sym c.data_key_fault.ensures ∙ c.in-Some-data_key_fault.is in
    record {
      meets = keyblock_fault _ _ _ _ _ _ _ (said g at.In_ok-is_signed).asked (behind_all _ _ _ _ (front g at.After-is_signed)) (λ told.
          sealed _ _ _ (answered g at.In_ok-is_signed (viewed g at.In-Ok) told) c.if-not-branch.false
          ∙ data_key_some _ _ c.in-Some-data_key_fault.fault (viewed g at.In-Ok) key);
    }

pub returns : goal.returns
returns g c =
    let at = goal.at.returns g c in
    let key = ap (λ (key : Key). first_fault data_key_lines (view_question key c.args.stored c.args.rollback)) (sym c.data_key.ensures)
    ∙ sym c.data_key_fault.ensures ∙ c.in_default-data_key_fault.is in
    record {
      meets = keyblock_good _ _ _ _ _ _ _ (said g at.In_ok-is_signed).asked (front g at.After-is_signed) (λ told.
          sealed _ _ _ (answered g at.In_ok-is_signed (viewed g at.In-Ok) told) c.if-not-branch.false
          ∙ data_key_none _ _ (viewed g at.In-Ok) key)
          c.in-Ok.ensures.parts c.in-Ok.ensures.fits c.in-Ok.ensures.signed c.is_signed.ensures.key key;
    }
