-- At each exit the lines before it do not hold, and the one that it names does.
use Rattle.std.proofs.Common.{◌≡◌, ◌∙◌, Bool, true, false, cond, not, Some, None, Ok, refl, sym, ap}
use Rattle.std.specs.Prelude.{IsTrue}
use Rattle.wire_core.specs.FirstFault.{first_fault}
use Rattle.chain_core.specs.Accepted.{key_of}
use Rattle.chain_core.specs.Tables.{body_table, body_front}
use Rattle.chain_core.specs.Bodies.{body_question}
use Rattle.chain_core.specs.declared.fault.BodyFault.TheVariants as faults
use Rattle.chain_core.specs.declared.fault.Failure.TheVariants.{Store, Hook}
use Rattle.chain_core.proofs.Said.{asked_none, behind_all, Said, said_of, failed_of}
use Rattle.chain_core.proofs.BodyAnswers.{no_front, empty_fault, large_fault, size_fault, last_line, says_front, body_unread, body_fault}
use Rattle.chain_core.proofs.BodyAnswers.{body_failed, body_good}
use Rattle.chain_core.proofs.body.verify_flash_body.Given.{Over}
use Rattle.chain_core.proofs.body.verify_flash_body.Goals as goal
use Rattle.chain_core.proofs.body.verify_flash_body.Goals.{Else-signature-signature_length, After-verify}

-- the hook is asked behind the first lines
front : (g : Over) (c : Else-signature-signature_length g)
    → first_fault body_front (body_question c.args.key.now c.args.signature.now c.args.place.area c.args.place.len
    (g.F.Flash.state c.args.flash.now) (g.H.Hook.state c.args.hook.now)) ≡ None
front g c =
    let q = body_question c.args.key.now c.args.signature.now c.args.place.area c.args.place.len (g.F.Flash.state c.args.flash.now)
    (g.H.Hook.state c.args.hook.now) in
    no_front q c.if-place-eq0.false c.if-place.false (c.if-signature-signature_length.false ∙ c.signature_length.ensures)

-- what the hook said
said : (g : Over) (c : After-verify g) (heard : Bool) → c.verify.result ≡ Ok heard
    → Said (key_of c.args.key.now) c.read_body.new.body.items c.args.signature.now (g.H.Hook.state c.args.hook.now)
    (g.H.Hook.state c.verify.new.hook) heard
said g c heard is = said_of _ _ _ _ _ (g.H.Hook.state c.args.hook.now) (g.H.Hook.state c.verify.new.hook) _ heard refl refl
    (c.verify.ensures.meets c.read_body.new.body.items c.in-Ok.ensures.meets.hashed) is

-- and so the last line decides
found : (g : Over) (c : After-verify g) (heard : Bool) → c.verify.result ≡ Ok heard → IsTrue (g.F.Flash.state c.args.flash.now).medium.told
    → IsTrue (g.H.Hook.state c.args.hook.now).told
    → first_fault body_table (body_question c.args.key.now c.args.signature.now c.args.place.area c.args.place.len
    (g.F.Flash.state c.args.flash.now) (g.H.Hook.state c.args.hook.now)) ≡ cond (not heard) (Some faults.Refused) None
found g c heard is told told' =
    last_line _ heard c.if-place-eq0.false c.if-place.false (c.if-signature-signature_length.false ∙ c.signature_length.ensures)
    (says_front (g.H.Hook.state c.args.hook.now) c.args.key.now c.args.signature.now _ c.args.place.area c.args.place.len
    (g.F.Flash.state c.args.flash.now) heard c.if-place.false (c.in-Ok.ensures.meets.filled told) ((said g c heard is).says told'))

pub returns-then-place-eq0-clause-meets : goal.returns-then-place-eq0-clause-meets
returns-then-place-eq0-clause-meets g c = body_unread _ _ _ _ _ _ _ _ (empty_fault _ c.if-place-eq0.true)

pub returns-then-place-clause-meets : goal.returns-then-place-clause-meets
returns-then-place-clause-meets g c = body_unread _ _ _ _ _ _ _ _ (large_fault _ c.if-place-eq0.false c.if-place.true)

pub returns-then-signature-signature_length-clause-meets : goal.returns-then-signature-signature_length-clause-meets
returns-then-signature-signature_length-clause-meets g c =
    body_unread _ _ _ _ _ _ _ _ (size_fault _ c.if-place-eq0.false c.if-place.false
    (λ e. c.if-signature-signature_length.true (e ∙ sym c.signature_length.ensures)))

pub returns-in-Ok-true-clause-meets : goal.returns-in-Ok-true-clause-meets
returns-in-Ok-true-clause-meets g c =
    let c' = (goal.at.returns-in-Ok-true-clause-meets g c).After-verify in
    let is = c.in-Ok-true.is ∙ ap Ok c.in-Ok-true.field-0-test in
    let read = c.in-Ok.ensures.meets in
    body_good _ _ _ _ _ _ _ _ _ read.looks (said g c' true is).asked
    (front g (goal.at.returns-in-Ok-true-clause-meets g c).Else-signature-signature_length)
    (found g c' true is) c.if-place.false read.many read.filled

pub returns-in-Ok-false-clause-meets : goal.returns-in-Ok-false-clause-meets
returns-in-Ok-false-clause-meets g c =
    let c' = (goal.at.returns-in-Ok-false-clause-meets g c).After-verify in
    let is = c.in-Ok-false.is ∙ ap Ok c.in-Ok-false.field-0-test in
    body_fault _ _ _ _ _ _ _ _ _ _ c.in-Ok.ensures.meets.looks (said g c' false is).asked
    (behind_all _ _ _ _ (front g (goal.at.returns-in-Ok-false-clause-meets g c).Else-signature-signature_length)) (found g c' false is)

pub returns-in-Err-clause-meets : goal.returns-in-Err-clause-meets
returns-in-Err-clause-meets g c =
    body_failed _ _ _ _ _ _ _ _ _ Store c.in-Err.ensures.meets.looks (asked_none _)
    (front g (goal.at.returns-in-Err-clause-meets g c).Else-signature-signature_length)

pub returns-in-Err-verify-clause-meets : goal.returns-in-Err-verify-clause-meets
returns-in-Err-verify-clause-meets g c =
    let read = c.in-Ok.ensures.meets in
    let heard = c.verify.ensures.meets c.read_body.new.body.items read.hashed in
    let asked = failed_of _ _ c.verify.result _ heard.asked c.in-Err-verify.is in
    body_failed _ _ _ _ _ _ _ _ _ Hook read.looks asked
    (front g (goal.at.returns-in-Err-verify-clause-meets g c).Else-signature-signature_length)
