-- At each exit the lines before it do not hold, and the one that it names does.
use Rattle.std.proofs.Common.{◌≡◌, ◌∙◌, ◌≤◌, Bool, true, false, cond, not, Some, None, Ok, refl, sym, ap, arith}
use Rattle.std.specs.Prelude.{IsTrue}
use Rattle.wire_core.specs.FirstFault.{first_fault}
use Rattle.chain_core.specs.Accepted.{key_of}
use Rattle.chain_core.specs.Tables.{body_table, body_front}
use Rattle.chain_core.specs.declared.fault.BodyFault.TheVariants as faults
use Rattle.chain_core.specs.declared.fault.Failure.TheVariants.{Store, Hook}
use Rattle.chain_core.proofs.Said.{asked_none, behind_all, Said, said_of, failed_of}
use Rattle.chain_core.proofs.BodyAnswers.{no_front, empty_fault, large_fault, size_fault, last_line}
use Rattle.kernel_core.specs.KernelBodies.{disk_body_question, most_of}
use Rattle.kernel_core.proofs.KernelBodyAnswers.{looks_exact, rest_inside, disk_body_fault, disk_body_unread, disk_body_failed}
use Rattle.kernel_core.proofs.KernelBodyAnswers.{disk_body_good, says_body}
use Rattle.kernel_core.proofs.body.check_body.Given.{Over}
use Rattle.kernel_core.proofs.body.check_body.Goals as goal
use Rattle.kernel_core.proofs.body.check_body.Goals.{Else-signature-signature_length, After-verify, in-Ok-true, in-Ok-false, in-Err-verify}

-- the hook is asked behind the first lines
front : (g : Over) (c : Else-signature-signature_length g)
    → first_fault body_front (disk_body_question c.args.signed.now.key.now c.args.signed.now.signature.now c.args.partition.first c.args.partition.sectors
    c.args.signed.now.at c.args.signed.now.len (g.D.Disk.state c.args.disk.now) (g.H.Hook.state c.args.hook.now)) ≡ None
front g c =
    let q = disk_body_question c.args.signed.now.key.now c.args.signed.now.signature.now c.args.partition.first c.args.partition.sectors
    c.args.signed.now.at c.args.signed.now.len (g.D.Disk.state c.args.disk.now) (g.H.Hook.state c.args.hook.now) in
    no_front q c.if-len-eq0.false (omega (arith, c.if-len-most_of.false, c.most_of.ensures))
    (c.if-signature-signature_length.false ∙ c.signature_length.ensures)

-- what the hook said
said : (g : Over) (c : After-verify g) (heard : Bool) → c.verify.result ≡ Ok heard
    → Said (key_of c.args.signed.now.key.now) c.read_body.new.body.items c.args.signed.now.signature.now (g.H.Hook.state c.args.hook.now)
    (g.H.Hook.state c.verify.new.hook) heard
said g c heard is = said_of _ _ _ _ _ (g.H.Hook.state c.args.hook.now) (g.H.Hook.state c.verify.new.hook) _ heard refl refl
    (c.verify.ensures.meets c.read_body.new.body.items c.in-Ok.ensures.meets.hashed) is

fits : (g : Over) (c : After-verify g) → c.args.signed.now.len ≤ most_of c.args.partition.sectors c.args.signed.now.at
fits g c = omega (arith, c.if-len-most_of.false, c.most_of.ensures)

-- and so the last line decides
found : (g : Over) (c : After-verify g) (heard : Bool) → c.verify.result ≡ Ok heard → IsTrue (g.D.Disk.state c.args.disk.now).medium.told
    → IsTrue (g.H.Hook.state c.args.hook.now).told
    → first_fault body_table (disk_body_question c.args.signed.now.key.now c.args.signed.now.signature.now c.args.partition.first c.args.partition.sectors c.args.signed.now.at c.args.signed.now.len (g.D.Disk.state c.args.disk.now) (g.H.Hook.state c.args.hook.now)) ≡ cond (not heard) (Some faults.Refused) None
found g c heard is told told' =
    last_line _ heard c.if-len-eq0.false (fits g c) (c.if-signature-signature_length.false ∙ c.signature_length.ensures)
    (says_body (g.H.Hook.state c.args.hook.now) c.args.signed.now.key.now c.args.signed.now.signature.now _ _ c.args.partition.first c.args.partition.sectors c.args.signed.now.at c.args.signed.now.len heard c.requires.sectors c.requires.front (fits g c) (c.in-Ok.ensures.meets.filled told) ((said g c heard is).says told'))

pub returns-then-len-eq0 : goal.returns-then-len-eq0
returns-then-len-eq0 g c = record { meets = disk_body_unread _ _ _ _ _ _ _ _ _ _ (empty_fault _ c.if-len-eq0.true) }

pub returns-then-len-most_of : goal.returns-then-len-most_of
returns-then-len-most_of g c =
    record {
      meets = disk_body_unread _ _ _ _ _ _ _ _ _ _
          (large_fault _ c.if-len-eq0.false (omega (arith, c.if-len-most_of.true, c.most_of.ensures)));
    }

pub returns-then-signature-signature_length : goal.returns-then-signature-signature_length
returns-then-signature-signature_length g c =
    let fits : c.args.signed.now.len ≤ most_of c.args.partition.sectors c.args.signed.now.at = omega
    (arith, c.if-len-most_of.false, c.most_of.ensures) in
    record {
      meets = disk_body_unread _ _ _ _ _ _ _ _ _ _
          (size_fault _ c.if-len-eq0.false fits (λ e. c.if-signature-signature_length.true (e ∙ sym c.signature_length.ensures)));
    }

pub read_body-requires-clause-inside : goal.read_body-requires-clause-inside
read_body-requires-clause-inside g c =
    let fits : c.args.signed.now.len ≤ most_of c.args.partition.sectors c.args.signed.now.at = omega
    (arith, c.if-len-most_of.false, c.most_of.ensures) in
    rest_inside c.args.partition.first c.args.partition.sectors c.args.signed.now.at c.args.signed.now.len _ c.requires.sectors c.requires.front fits c.requires.inside

pub returns : goal.returns
returns g c =
    let c' = (goal.at.returns g c).After-verify in
    let read = c.in-Ok.ensures.meets in
    let front = front g (goal.at.returns g c).Else-signature-signature_length in
    elim c.match-verify.branch [
      | in-Ok-true w ↦
          let is = w.in-Ok-true.is ∙ ap Ok w.in-Ok-true.field-0-test in
          let asked = (said g c' true is).asked in
          rw w.result-is (record {
            meets = disk_body_good _ _ _ _ _ _ _ _ _ _ _ (looks_exact _ _ _ _ _ _ (fits g c') read.looks) asked front
                (found g c' true is) (fits g c') read.many read.filled;
          })
      | in-Ok-false w ↦
          let is = w.in-Ok-false.is ∙ ap Ok w.in-Ok-false.field-0-test in
          let asked = (said g c' false is).asked in
          rw w.result-is (record {
            meets = disk_body_fault _ _ _ _ _ _ _ _ _ _ _ _ (looks_exact _ _ _ _ _ _ (fits g c') read.looks) asked
                (behind_all _ _ _ _ front) (found g c' false is);
          })
      | in-Err-verify w ↦
          let said = c.verify.ensures.meets c.read_body.new.body.items read.hashed in
          let asked = failed_of _ _ c.verify.result _ said.asked w.in-Err-verify.is in
          rw w.result-is (record {
            meets = disk_body_failed _ _ _ _ _ _ _ _ _ _ _ Hook
                (looks_exact _ _ _ _ _ _ (fits g c') read.looks) asked front;
          })
    ]

pub returns-in-Err : goal.returns-in-Err
returns-in-Err g c =
    let at = goal.at.returns-in-Err g c in
    let fits : c.args.signed.now.len ≤ most_of c.args.partition.sectors c.args.signed.now.at = omega
    (arith, c.if-len-most_of.false, c.most_of.ensures) in
    let looks = looks_exact _ _ _ _ _ _ fits c.in-Err.ensures.meets.looks in
    record { meets = disk_body_failed _ _ _ _ _ _ _ _ _ _ _ Store looks (asked_none _) (front g at.Else-signature-signature_length) }
