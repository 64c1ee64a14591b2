-- At each exit the calls that were made changed nothing, and what they found decides the answer.
use Rattle.std.proofs.Common.{◌≡◌, ◌∙◌, ◌≤◌, ℕ, Option, Some, None, Result, Ok, Err, false, length, drop, refl, sym, subst, ap, arith}
use Rattle.std.proofs.lemmas.Bool.{false≢true}
use Rattle.board_core.specs.Flash.{FlashMedium}
use Rattle.key_core.specs.Parts.{Key}
use Rattle.rom_core.specs.Gbb.{area_bytes}
use Rattle.preamble_core.specs.Common.{CommonPreamble}
use Rattle.chain_core.specs.Tables.{combined_version, firmware_preamble}
use Rattle.chain_core.specs.Slot.{slot_question}
use Rattle.chain_core.specs.declared.fault.BodyFault.{BodyFault}
use Rattle.chain_core.specs.declared.fault.Failure.{Failure}
use Rattle.chain_core.specs.declared.fault.Failure.TheVariants as failures
use Rattle.chain_core.proofs.Keys.{known_fits}
use Rattle.chain_core.proofs.Said.{asked_none, asked_then}
use Rattle.chain_core.proofs.Slots.{at_keyblock}
use Rattle.chain_core.proofs.SlotAnswers.{front_absurd, slot_faulted, slot_failed, slot_good, GoodKeyblock, good_keyblock, good_preamble}
use Rattle.chain_core.proofs.SlotAnswers.{Copied, KeyblockStep, keyblock_step, with_head, Opened}
use Rattle.chain_core.proofs.PreambleAnswers.{preamble_answer}
use Rattle.chain_core.proofs.SlotExits.{HeadRead, head_read, head_failed, keyblock_answer, preamble_shown, BodyStep, Ended, ended_of}
use Rattle.chain_core.proofs.SlotExits.{ended_looks, ended_asked, body_shown, good_of}
use Rattle.chain_core.proofs.slot.check_slot.Given.{Over}
use Rattle.chain_core.proofs.slot.check_slot.Goals as goal
use Rattle.chain_core.proofs.slot.check_slot.Goals.{After-verify_keyblock, In-Ok-Ok, After-verify_preamble, After-verify_flash_body}

-- ---- what the calls found, as far as each

read : (g : Over) (c : After-verify_keyblock g)
    → HeadRead c.args.request.vblock c.read.new.buf (g.F.Flash.state c.args.flash.now) (g.F.Flash.state c.read.new.self)
read g c = head_read c.args.request.vblock c.read.new.buf _ _ c.read.result c.read.ensures.meets
    (sym c.is_err.ensures.value ∙ c.if-is_err.false) (omega arith)

good : (g : Over) (c : In-Ok-Ok g) → GoodKeyblock c.read.new.buf c.args.root.now c.args.request.stored c.args.request.rollback
    (g.H.Hook.state c.args.hook.now) (g.H.Hook.state c.verify_keyblock.new.hook) c.in-Ok-Ok.keyblock
good g c = good_keyblock _ _ _ _ _ _ _ _ _ c.verify_keyblock.ensures.meets c.in-Ok-Ok.is c.in-Ok-Ok.field-0-is

abbrev opening : (g : Over) → After-verify_preamble g → KeyblockStep
opening g c =
    let q = slot_question c.args.root.now c.args.request (g.F.Flash.state c.args.flash.now) (g.H.Hook.state c.args.hook.now) in
    keyblock_step (with_head q c.read.new.buf) (g.H.Hook.state c.args.hook.now)
    (g.H.Hook.state c.verify_keyblock.new.hook) c.in-Ok-Ok.keyblock c.pack-key.result c.behind-rest.result.now

opened : (g : Over) (c : After-verify_preamble g)
    → GoodKeyblock c.read.new.buf c.args.root.now c.args.request.stored c.args.request.rollback (g.H.Hook.state c.args.hook.now)
    (g.H.Hook.state c.verify_keyblock.new.hook) c.in-Ok-Ok.keyblock → Opened (opening g c)
opened g c good = record {
  good = good;
  rows = refl;
  copied = subst (λ (k : Key). Copied k c.pack-key.result) c.data_key.ensures
      (record { algorithm = c.pack-key.ensures.algorithm; version = c.pack-key.ensures.version; size = c.pack-key.ensures.size; bytes = c.pack-key.ensures.bytes; front = c.pack-key.ensures.front });
  behind = c.behind-rest.ensures ∙ ap (λ (n : ℕ). drop n c.read.new.buf) c.size.ensures;
}

abbrev body_step : (g : Over) → After-verify_flash_body g → BodyStep
body_step g c =
    let q = slot_question c.args.root.now c.args.request (g.F.Flash.state c.args.flash.now) (g.H.Hook.state c.args.hook.now) in
    record {
      before = record {
        before = keyblock_step (with_head q c.read.new.buf) (g.H.Hook.state c.args.hook.now)
            (g.H.Hook.state c.verify_keyblock.new.hook) c.in-Ok-Ok.keyblock c.pack-key.result c.behind-rest.result.now;
        hook = g.H.Hook.state c.verify_preamble.new.hook;
        preamble = c.in-Ok-Ok-verify_preamble.preamble;
        main = c.args.request.main;
        flash = g.F.Flash.state c.read.new.self;
      };
      hook = g.H.Hook.state c.verify_flash_body.new.hook;
      flash = g.F.Flash.state c.args.flash.now;
      flash' = g.F.Flash.state c.verify_flash_body.new.flash;
      signature = c.body_signature.result.now;
      len = c.body_len-body_len.result;
      out = c.verify_flash_body.new.body.items;
    }

ended : (g : Over) (c : After-verify_flash_body g) (answer : Result (Option BodyFault) Failure)
    → HeadRead c.args.request.vblock c.read.new.buf (body_step g c).flash (body_step g c).before.flash
    → Opened (body_step g c).before.before
    → c.verify_flash_body.result ≡ answer → Ended (body_step g c) answer
ended g c answer head opened is =
    ended_of (body_step g c) c.verify_flash_body.result answer (record {
      ready = record {
        opened = opened;
        good = good_preamble _ _ _ _ _ _ _ _ _ c.verify_preamble.ensures.meets c.in-Ok-Ok-verify_preamble.is c.in-Ok-Ok-verify_preamble.field-0-is;
        area = ap (λ (m : FlashMedium). area_bytes c.args.request.main m) (sym head.looks.medium);
      };
      checks = c.verify_flash_body.ensures.meets;
      looks = head.looks;
      inside = λ told. omega (arith, c.requires.main_inside, g.met.F.Flash.told_size c.args.flash.now told);
      signature_is = c.body_signature.ensures ∙ ap (λ (p : CommonPreamble). p.body_signature) c.common-common.ensures;
      len_is = c.body_len-body_len.ensures ∙ ap (λ (p : CommonPreamble). p.body_len) c.common-common.ensures;
    }) is

-- ---- the sizes that the calls ask for

key_size : (g : Over) (c : In-Ok-Ok g) → length c.in-Ok-Ok.keyblock.data_key.bytes ≤ 2056
key_size g c = known_fits c.in-Ok-Ok.keyblock.data_key.algorithm _ (good g c).known

pub verify_preamble-requires-clause-size : goal.verify_preamble-requires-clause-size
verify_preamble-requires-clause-size g c =
    let most = key_size g (goal.at.verify_preamble-requires-clause-size g c).In-Ok-Ok in
    let size = c.pack-key.ensures.size ∙ ap (λ (k : Key). length k.bytes) c.data_key.ensures in
    omega (arith, size, most)

pub verify_preamble-requires-clause-version : goal.verify_preamble-requires-clause-version
verify_preamble-requires-clause-version g c =
    let most = (good g (goal.at.verify_preamble-requires-clause-version g c).In-Ok-Ok).range in
    let version = c.pack-key.ensures.version ∙ ap (λ (k : Key). k.version) c.data_key.ensures in
    omega (arith, version, most)

pub verify_flash_body-requires-clause-algorithm : goal.verify_flash_body-requires-clause-algorithm
verify_flash_body-requires-clause-algorithm g c =
    let most = (good g (goal.at.verify_flash_body-requires-clause-algorithm g c).In-Ok-Ok).known.algorithm_known in
    let algorithm = c.pack-key.ensures.algorithm ∙ ap (λ (k : Key). k.algorithm) c.data_key.ensures in
    omega (arith, algorithm, most)

pub verify_flash_body-requires-clause-size : goal.verify_flash_body-requires-clause-size
verify_flash_body-requires-clause-size g c =
    let most = key_size g (goal.at.verify_flash_body-requires-clause-size g c).In-Ok-Ok in
    let size = c.pack-key.ensures.size ∙ ap (λ (k : Key). length k.bytes) c.data_key.ensures in
    omega (arith, size, most)

pub combined_version-requires-clause-key : goal.combined_version-requires-clause-key
combined_version-requires-clause-key g c =
    let most = (good g (goal.at.combined_version-requires-clause-key g c).In-Ok-Ok).range in
    let version = c.pack-key.ensures.version ∙ ap (λ (k : Key). k.version) c.data_key.ensures in
    omega (arith, version, most)

-- ---- exits

pub returns-in-Ok-Err-clause-meets : goal.returns-in-Ok-Err-clause-meets
returns-in-Ok-Err-clause-meets g c =
    let head = read g (goal.at.returns-in-Ok-Err-clause-meets g c).After-verify_keyblock in
    let found = keyblock_answer _ _ _ _ _ _ _ (Ok (Err c.in-Ok-Err.fault)) c.verify_keyblock.ensures.meets
    (c.in-Ok-Err.is ∙ ap Ok c.in-Ok-Err.field-0-is) in
    slot_faulted _ c.read.new.buf _ _ _ _ _ _ head.looks found.asked head.filled found.behind.unasked
    (λ told told'. at_keyblock _ c.in-Ok-Err.fault (found.fault told'))

pub returns-in-Ok-Err-verify_preamble-clause-meets : goal.returns-in-Ok-Err-verify_preamble-clause-meets
returns-in-Ok-Err-verify_preamble-clause-meets g c =
    let at = goal.at.returns-in-Ok-Err-verify_preamble-clause-meets g c in
    let head = read g at.After-verify_keyblock in
    let opened = opened g at.After-verify_preamble (good g at.In-Ok-Ok) in
    let found = preamble_answer firmware_preamble _ _ _ _ _ _ _ (Ok (Err c.in-Ok-Err-verify_preamble.fault)) c.verify_preamble.ensures.meets
    (c.in-Ok-Err-verify_preamble.is ∙ ap Ok c.in-Ok-Err-verify_preamble.field-0-is) in
    slot_faulted _ c.read.new.buf _ _ _ _ _ _ head.looks (asked_then _ _ _ false opened.good.asked found.asked) head.filled
    (front_absurd _ _ opened.good.front)
    (λ told told'. preamble_shown (opening g at.After-verify_preamble) c.in-Ok-Err-verify_preamble.fault opened found.fault told')

pub returns-in-Err-verify_preamble-clause-meets : goal.returns-in-Err-verify_preamble-clause-meets
returns-in-Err-verify_preamble-clause-meets g c =
    let at = goal.at.returns-in-Err-verify_preamble-clause-meets g c in
    let found = preamble_answer firmware_preamble _ _ _ _ _ _ _
    (Err c.in-Err-verify_preamble.field-0) c.verify_preamble.ensures.meets c.in-Err-verify_preamble.is in
    let head = read g at.After-verify_keyblock in
    let good = good g at.In-Ok-Ok in
    slot_failed _ c.read.new.buf _ _ _ _ _ failures.Hook head.looks (asked_then _ _ _ _ good.asked found.asked) head.filled
    (front_absurd _ _ good.front) (λ hook. good.front)

pub returns-in-Ok-None-clause-meets : goal.returns-in-Ok-None-clause-meets
returns-in-Ok-None-clause-meets g c =
    let at = goal.at.returns-in-Ok-None-clause-meets g c in
    let head = read g at.After-verify_keyblock in
    let step = body_step g at.After-verify_flash_body in
    let whole = ended g at.After-verify_flash_body (Ok None) head (opened g at.After-verify_preamble (good g at.In-Ok-Ok))
    (c.in-Ok-None.is ∙ ap Ok c.in-Ok-None.field-0-is) in
    let version : c.combined_version.result ≡ combined_version c.pack-key.result.version c.in-Ok-Ok-verify_preamble.preamble.common.version =
    c.combined_version.ensures
    ∙ ap (λ (n : ℕ). combined_version c.pack-key.result.version n)
    (c.version.ensures ∙ ap (λ (p : CommonPreamble). p.version) c.common-common.ensures) in
    let subkey = subst (λ (k : Key). Copied k c.pack.result) c.subkey.ensures
    (record { algorithm = c.pack.ensures.algorithm; version = c.pack.ensures.version; size = c.pack.ensures.size; bytes = c.pack.ensures.bytes; front = c.pack.ensures.front }) in
    slot_good _ c.read.new.buf _ _ _ _ _ _ (ended_looks step (Ok None) whole) (ended_asked step (Ok None) whole) head.filled
    (good g at.In-Ok-Ok).front
    (good_of step (record { version = c.combined_version.result; body_len = c.body_len-body_len.result; subkey = c.pack.result }) whole version refl subkey)

pub returns-in-Ok-Some-clause-meets : goal.returns-in-Ok-Some-clause-meets
returns-in-Ok-Some-clause-meets g c =
    let at = goal.at.returns-in-Ok-Some-clause-meets g c in
    let head = read g at.After-verify_keyblock in
    let step = body_step g at.After-verify_flash_body in
    let found : Result (Option BodyFault) Failure = Ok (Some c.in-Ok-Some.fault) in
    let whole = ended g at.After-verify_flash_body found head (opened g at.After-verify_preamble (good g at.In-Ok-Ok))
    (c.in-Ok-Some.is ∙ ap Ok c.in-Ok-Some.field-0-is) in
    slot_faulted _ c.read.new.buf _ _ _ _ _ _ (ended_looks step found whole) (ended_asked step found whole) head.filled
    (front_absurd _ _ (good g at.In-Ok-Ok).front) (body_shown step c.in-Ok-Some.fault whole)

pub returns-in-Err-verify_flash_body-clause-meets : goal.returns-in-Err-verify_flash_body-clause-meets
returns-in-Err-verify_flash_body-clause-meets g c =
    let at = goal.at.returns-in-Err-verify_flash_body-clause-meets g c in
    let step = body_step g at.After-verify_flash_body in
    let failed : Result (Option BodyFault) Failure = Err c.in-Err-verify_flash_body.failure in
    let head = read g at.After-verify_keyblock in
    let front = (good g at.In-Ok-Ok).front in
    let whole = ended g at.After-verify_flash_body failed head
    (opened g at.After-verify_preamble (good g at.In-Ok-Ok)) c.in-Err-verify_flash_body.is in
    slot_failed _ c.read.new.buf _ _ _ _ _ c.in-Err-verify_flash_body.failure (ended_looks step failed whole)
    (ended_asked step failed whole)
    head.filled (front_absurd _ _ front) (λ hook. front)

pub returns-then-is_err-clause-meets : goal.returns-then-is_err-clause-meets
returns-then-is_err-clause-meets g c =
    let q = slot_question c.args.root.now c.args.request (g.F.Flash.state c.args.flash.now) (g.H.Hook.state c.args.hook.now) in
    let looks = head_failed c.args.request.vblock c.read.new.buf _ _ c.read.result c.read.ensures.meets
    (sym c.is_err.ensures.value ∙ c.if-is_err.true) in
    slot_failed q q.vblock _ _ _ _ _ failures.Store looks (asked_none _) (λ told. refl) (λ some. refl) (λ hook. absurd (false≢true hook))

pub returns-in-Err-clause-meets : goal.returns-in-Err-clause-meets
returns-in-Err-clause-meets g c =
    let head = read g (goal.at.returns-in-Err-clause-meets g c).After-verify_keyblock in
    let found = c.in-Err.ensures.meets in
    slot_failed _ c.read.new.buf _ _ _ _ _ failures.Hook head.looks found.asked head.filled found.behind.unasked
    (λ hook. found.behind.failed)
