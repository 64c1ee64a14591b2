-- At each exit the calls that were made changed nothing, and what they found decides the answer.
use Rattle.std.proofs.Common.{◌≡◌, ◌+◌, ◌-◌, ◌≤◌, ◌∙◌, ℕ, Ok, Err, List, sym, ap, subst, length, drop, true, arith}
use Rattle.std.proofs.lemmas.List.{length-drop}
use Rattle.board_core.specs.declared.device.Failed.{Failed}
use Rattle.key_core.specs.Parts.{Key}
use Rattle.chain_core.specs.Tables.{combined_version}
use Rattle.chain_core.proofs.Said.{asked_then}
use Rattle.chain_core.proofs.SlotAnswers.{Copied}
use Rattle.chain_core.specs.Checking.{ChecksPreamble}
use Rattle.chain_core.proofs.PreambleAnswers.{preamble_answer}
use Rattle.preamble_core.specs.Common.{CommonPreamble}
use Rattle.kernel_core.specs.HeadChecks.{head_question}
use Rattle.kernel_core.specs.KernelTables.{kernel_preamble}
use Rattle.kernel_core.proofs.HeadAnswers.{head_faulted, head_failed, keyblock_shown, keyblock_answer, GoodKeyblock, good_keyblock}
use Rattle.kernel_core.proofs.HeadAnswers.{usable_fits, HeadStep, Opened, preamble_shown, head_good}
use Rattle.kernel_core.proofs.head.verify_head.Given.{Over}
use Rattle.kernel_core.proofs.head.verify_head.Goals as goal
use Rattle.kernel_core.proofs.head.verify_head.Goals.{In-Ok-Ok, After-verify_kernel_preamble, In-Ok-Ok-verify_kernel_preamble}

-- ---- what the calls found, as far as each

good : (g : Over) (c : In-Ok-Ok g) → GoodKeyblock c.args.vblock.now c.args.request.now.key c.args.request.now.rules
    (g.H.Hook.state c.args.hook.now) (g.H.Hook.state c.verify_kernel_keyblock.new.hook) c.in-Ok-Ok.keyblock
good g c = good_keyblock _ _ _ _ _ _ _ _ c.verify_kernel_keyblock.ensures.meets c.in-Ok-Ok.is c.in-Ok-Ok.field-0-is

abbrev step : (g : Over) → After-verify_kernel_preamble g → HeadStep
step g c = record {
  vblock = c.args.vblock.now;
  key = c.args.request.now.key;
  rules = c.args.request.now.rules;
  checked = c.versions_are_checked-checked.result;
  hook = g.H.Hook.state c.args.hook.now;
  hook' = g.H.Hook.state c.verify_kernel_keyblock.new.hook;
  keyblock = c.in-Ok-Ok.keyblock;
  packed = c.pack-data_key.result;
  rest = c.behind-rest.result.now;
}

opened : (g : Over) (c : After-verify_kernel_preamble g)
    → GoodKeyblock c.args.vblock.now c.args.request.now.key c.args.request.now.rules (g.H.Hook.state c.args.hook.now)
    (g.H.Hook.state c.verify_kernel_keyblock.new.hook) c.in-Ok-Ok.keyblock → Opened (step g c)
opened g c good = record {
  good = good;
  checked = c.versions_are_checked-checked.ensures;
  copied = subst (λ (k : Key). Copied k c.pack-data_key.result) c.data_key.ensures
      (record { algorithm = c.pack-data_key.ensures.algorithm; version = c.pack-data_key.ensures.version; size = c.pack-data_key.ensures.size; bytes = c.pack-data_key.ensures.bytes; front = c.pack-data_key.ensures.front });
  behind = c.behind-rest.ensures ∙ ap (λ (n : ℕ). drop n c.args.vblock.now) c.size.ensures;
}

found : (g : Over) (c : In-Ok-Ok-verify_kernel_preamble g)
    → ChecksPreamble {E = Failed} kernel_preamble c.behind-rest.result.now c.pack-data_key.result c.args.request.now.rules.stored c.versions_are_checked-checked.result (g.H.Hook.state c.verify_kernel_keyblock.new.hook) (g.H.Hook.state c.verify_kernel_preamble.new.hook) (Ok (Ok c.in-Ok-Ok-verify_kernel_preamble.preamble))
found g c = preamble_answer kernel_preamble _ _ _ _ _ _ _ _ c.verify_kernel_preamble.ensures.meets
    (c.in-Ok-Ok-verify_kernel_preamble.is ∙ ap Ok c.in-Ok-Ok-verify_kernel_preamble.field-0-is)

-- ---- goals

pub verify_kernel_preamble-requires-clause-size : goal.verify_kernel_preamble-requires-clause-size
verify_kernel_preamble-requires-clause-size g c =
    let most = usable_fits _ (good g (goal.at.verify_kernel_preamble-requires-clause-size g c).In-Ok-Ok).read.usable in
    let size = c.pack-data_key.ensures.size ∙ ap (λ (k : Key). length k.bytes) c.data_key.ensures in
    omega (arith, size, most)

pub returns-in-Ok-Err-verify_kernel_preamble : goal.returns-in-Ok-Err-verify_kernel_preamble
returns-in-Ok-Err-verify_kernel_preamble g c =
    let at = goal.at.returns-in-Ok-Err-verify_kernel_preamble g c in
    let found = preamble_answer kernel_preamble _ _ _ _ _ _ _
    (Ok (Err c.in-Ok-Err-verify_kernel_preamble.fault)) c.verify_kernel_preamble.ensures.meets
    (c.in-Ok-Err-verify_kernel_preamble.is ∙ ap Ok c.in-Ok-Err-verify_kernel_preamble.field-0-is) in
    record {
      meets = preamble_shown (step g at.After-verify_kernel_preamble) _ c.in-Ok-Err-verify_kernel_preamble.fault
          (opened g at.After-verify_kernel_preamble (good g at.In-Ok-Ok)) found;
    }

pub overflow_add-result : goal.overflow_add-result
overflow_add-result g c =
    let at = goal.at.overflow_add-result g c in
    let size = ap (λ (p : CommonPreamble). p.size) c.common-common.ensures in
    let long : length c.behind-rest.result.now ≡ length c.args.vblock.now - c.size.result = ap
    (λ (xs : List ℕ). length xs) c.behind-rest.ensures ∙ length-drop c.size.result c.args.vblock.now in
    let first : c.size-2.result ≤ length c.args.vblock.now = subst (λ (n : ℕ). n ≤ length c.args.vblock.now) (sym c.size-2.ensures)
    (good g at.In-Ok-Ok).read.whole in
    let second : c.size-3.result ≤ length c.behind-rest.result.now = subst (λ (n : ℕ). n ≤ length c.behind-rest.result.now)
    (sym (c.size-3.ensures ∙ size)) (found g at.In-Ok-Ok-verify_kernel_preamble).fits.common.whole in
    omega (arith, long, first, second, c.requires)

pub returns : goal.returns
returns g c =
    let at = goal.at.returns g c in
    record {
      meets = head_good (step g at.After-verify_kernel_preamble) _ c.in-Ok-Ok-verify_kernel_preamble.preamble _
          (opened g at.After-verify_kernel_preamble (good g at.In-Ok-Ok)) (record {
            preamble_good = found g at.In-Ok-Ok-verify_kernel_preamble;
            version = c.combined_version.ensures
                ∙ ap (λ (n : ℕ). combined_version c.pack-data_key.result.version n)
                (c.version.ensures ∙ ap (λ (p : CommonPreamble). p.version) c.common-common.ensures);
            load_address = c.load_address.ensures;
            body_at = ap (λ (n : ℕ). n + c.size-3.result) c.size-2.ensures
                ∙ ap (λ (n : ℕ). c.in-Ok-Ok.keyblock.size + n) (c.size-3.ensures ∙ ap (λ (p : CommonPreamble). p.size) c.common-common.ensures);
            body_len = c.body_len.ensures ∙ ap (λ (p : CommonPreamble). p.body_len) c.common-common.ensures;
          });
    }

pub returns-in-Ok-Err : goal.returns-in-Ok-Err
returns-in-Ok-Err g c =
    let q = head_question c.args.vblock.now c.args.request.now.key c.args.request.now.rules (g.H.Hook.state c.args.hook.now) in
    let found = keyblock_answer _ _ _ _ _ _ (Ok (Err c.in-Ok-Err.fault)) c.verify_kernel_keyblock.ensures.meets
    (c.in-Ok-Err.is ∙ ap Ok c.in-Ok-Err.field-0-is) in
    record {
      meets = head_faulted q _ _ _ found.asked (record { unasked = found.behind.unasked; failed = tt })
          (λ told. keyblock_shown q _ (found.fault told));
    }

pub returns-in-Err : goal.returns-in-Err
returns-in-Err g c =
    let q = head_question c.args.vblock.now c.args.request.now.key c.args.request.now.rules (g.H.Hook.state c.args.hook.now) in
    let found = c.in-Err.ensures.meets in
    record { meets = head_failed q _ _ _ found.asked found.behind.failed }

pub returns-in-Err-verify_kernel_preamble : goal.returns-in-Err-verify_kernel_preamble
returns-in-Err-verify_kernel_preamble g c =
    let q = head_question c.args.vblock.now c.args.request.now.key c.args.request.now.rules (g.H.Hook.state c.args.hook.now) in
    let good = good g (goal.at.returns-in-Err-verify_kernel_preamble g c).In-Ok-Ok in
    let found = c.in-Err-verify_kernel_preamble.ensures.meets in
    record { meets = head_failed q _ _ _ (asked_then _ _ _ true good.asked found.asked) good.front }
