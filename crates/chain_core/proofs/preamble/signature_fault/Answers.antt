-- At each exit the lines before it do not hold, and the one that it names does.
use Rattle.std.proofs.Common.{◌≡◌, ◌≤◌, ◌<◌, ◌∙◌, ℕ, List, length, None, false, true, ap, sym, arith}
use Rattle.std.specs.Prelude.{IsTrue, ◌&&◌, nat_lt}
use Rattle.std.proofs.lemmas.Result.{err_from_is_err_and}
use Rattle.wire_core.specs.FirstFault.{first_fault}
use Rattle.chain_core.specs.Accepted.{key_of}
use Rattle.chain_core.specs.Tables.{SignatureQuestion, signature_front, combined_version}
use Rattle.chain_core.specs.Checking.{signature_question}
use Rattle.chain_core.proofs.Said.{asked_none, behind_none, behind_all, Said, said_of, failed_of}
use Rattle.chain_core.proofs.SignatureAnswers.{Answered, no_front, size_fault, refused_fault, range_fault, last_line, signature_found}
use Rattle.chain_core.proofs.SignatureAnswers.{signature_good, signature_failed, is_old, not_old, not_checked}
use Rattle.chain_core.proofs.preamble.signature_fault.Given.{Over}
use Rattle.chain_core.proofs.preamble.signature_fault.Goals as goal
use Rattle.chain_core.proofs.preamble.signature_fault.Goals.{After-is_signed, In_ok-is_signed}
use Rattle.chain_core.proofs.preamble.signature_fault.Goals.{else-rollback-via-then-rollback+else-combined_version-stored}
use Rattle.chain_core.proofs.preamble.signature_fault.Goals.{else-rollback-via-else-rollback}

long : (a b : List ℕ) → a ≡ b → length b ≡ length a
long a b e = ap (λ (xs : List ℕ). length xs) (sym e)

abbrev question : (g : Over) → In_ok-is_signed g → SignatureQuestion
question g c = signature_question c.args.preamble.now c.args.key.now c.args.stored c.args.rollback (g.H.Hook.state c.args.hook.now)

-- the hook is asked behind the first line
front : (g : Over) (c : After-is_signed g)
    → first_fault signature_front (signature_question c.args.preamble.now c.args.key.now c.args.stored c.args.rollback
    (g.H.Hook.state c.args.hook.now)) ≡ None
front g c =
    no_front (signature_question c.args.preamble.now c.args.key.now c.args.stored c.args.rollback (g.H.Hook.state c.args.hook.now))
    (long _ _ c.signature.ensures ∙ c.if-signature-signature_length.false ∙ c.signature_length.ensures)

-- what the hook said
said : (g : Over) (c : In_ok-is_signed g)
    → Said (key_of c.args.key.now) c.args.preamble.now.signed c.args.preamble.now.signature (g.H.Hook.state c.args.hook.now)
    (g.H.Hook.state c.is_signed.new.hook) c.in_ok-is_signed.field-0
said g c = said_of _ _ _ _ _ (g.H.Hook.state c.args.hook.now)
    (g.H.Hook.state c.is_signed.new.hook) _ c.in_ok-is_signed.field-0 c.signed.ensures c.signature-2.ensures c.is_signed.ensures.meets c.in_ok-is_signed.was

answered : (g : Over) (c : In_ok-is_signed g) → IsTrue (g.H.Hook.state c.args.hook.now).told
    → Answered (question g c) c.in_ok-is_signed.field-0
answered g c told = record {
  size = long _ _ c.signature.ensures ∙ c.if-signature-signature_length.false
      ∙ c.signature_length.ensures;
  says = (said g c).says told;
}

pub returns-then-signature-signature_length : goal.returns-then-signature-signature_length
returns-then-signature-signature_length g c =
    let old = g.H.Hook.state c.args.hook.now in
    let q = signature_question c.args.preamble.now c.args.key.now c.args.stored c.args.rollback old in
    record {
      meets = signature_found _ old old _ (asked_none old) (behind_none _ old _)
          (λ told. size_fault q (λ e. c.if-signature-signature_length.true
          (sym (long _ _ c.signature.ensures) ∙ e ∙ sym c.signature_length.ensures)));
    }

pub returns-in_err-is_signed : goal.returns-in_err-is_signed
returns-in_err-is_signed g c =
    let left = err_from_is_err_and c.from_residual.result c.from_residual.ensures.1 in
    record {
      meets = rw left.1 (signature_failed _ _ _ left.0 (failed_of _ _ _ _ c.is_signed.ensures.meets.asked c.in_err-is_signed.was)
          (front g (goal.at.returns-in_err-is_signed g c).After-is_signed));
    }

pub returns-then-not-branch : goal.returns-then-not-branch
returns-then-not-branch g c =
    let heard = (goal.at.returns-then-not-branch g c).In_ok-is_signed in
    record {
      meets = signature_found _ _ _ _ (said g heard).asked
          (behind_all _ _ _ _ (front g (goal.at.returns-then-not-branch g c).After-is_signed))
          (λ told. refused_fault (question g heard) _ (answered g heard told) c.if-not-branch.true);
    }

pub returns-then-version-gt-LARGEST_VERSION : goal.returns-then-version-gt-LARGEST_VERSION
returns-then-version-gt-LARGEST_VERSION g c =
    let heard = (goal.at.returns-then-version-gt-LARGEST_VERSION g c).In_ok-is_signed in
    let large : 65535 < c.args.preamble.now.version = omega (arith, c.version-version.ensures, c.if-version-gt-LARGEST_VERSION.true) in
    record {
      meets = signature_found _ _ _ _ (said g heard).asked
          (behind_all _ _ _ _ (front g (goal.at.returns-then-version-gt-LARGEST_VERSION g c).After-is_signed))
          (λ told. range_fault (question g heard) _ (answered g heard told) c.if-not-branch.false large);
    }

pub returns-then-combined_version-stored : goal.returns-then-combined_version-stored
returns-then-combined_version-stored g c =
    let heard = (goal.at.returns-then-combined_version-stored g c).In_ok-is_signed in
    let fits : c.args.preamble.now.version ≤ 65535 = omega (arith, c.version-version.ensures, c.if-version-gt-LARGEST_VERSION.false) in
    let same = c.combined_version.ensures ∙ ap (combined_version c.args.key.now.version) c.version-version.ensures in
    let old = is_old c.args.rollback _ _ c.args.stored c.if-rollback.true same c.if-combined_version-stored.true in
    record {
      meets = signature_found _ _ _ _ (said g heard).asked
          (behind_all _ _ _ _ (front g (goal.at.returns-then-combined_version-stored g c).After-is_signed)) (λ told.
          last_line (question g heard) _ true (answered g heard told) c.if-not-branch.false fits old);
    }

pub returns : goal.returns
returns g c =
    let heard = (goal.at.returns g c).In_ok-is_signed in
    let fits : c.args.preamble.now.version ≤ 65535 = omega (arith, c.version-version.ensures, c.if-version-gt-LARGEST_VERSION.false) in
    let word : ℕ → ℕ = combined_version c.args.key.now.version in
    let current : (c.args.rollback && nat_lt (word c.args.preamble.now.version) c.args.stored) ≡ false = elim c.else-rollback.branch [
      | else-rollback-via-then-rollback+else-combined_version-stored w ↦
          not_old c.args.rollback _ _ c.args.stored
          (w.combined_version.ensures ∙ ap word c.version-version.ensures) w.if-combined_version-stored.false
      | else-rollback-via-else-rollback w ↦ not_checked c.args.rollback _ c.args.stored w.if-rollback.false
    ] in
    record {
      meets = signature_good _ _ _ (said g heard).asked (front g (goal.at.returns g c).After-is_signed) (λ told.
          last_line (question g heard) _ false (answered g heard told) c.if-not-branch.false fits current)
          fits;
    }
