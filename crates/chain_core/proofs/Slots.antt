-- The table of a slot, and the chain of its signatures.
use Rattle.std.proofs.Common.{◌≡◌, ℕ, ◌≤◌, Bool, true, false, not, Some, None, List, ◌++◌, length, take, refl, subst, ◌∙◌, ◌==◌}
use Rattle.std.specs.Prelude.{Any, IsTrue, ◌&&◌, nat_lt}
use Rattle.wire_core.specs.FirstFault.{Table, first_fault}
use Rattle.wire_core.proofs.FirstFault.{first_fault-append, first_fault-append_some, first_fault-none}
use Rattle.board_core.specs.Hook.{IsRowOf}
use Rattle.board_core.specs.declared.hook_row.HookRow.{HookRow}
use Rattle.key_core.specs.Algorithms.{signature_length}
use Rattle.key_core.specs.Parts.{Key}
use Rattle.key_core.specs.Keyblocks.{keyblock_lines, KeyblockFits, KeyblockIsSigned}
use Rattle.key_core.specs.declared.keyblock.Seal.TheVariants as seals
use Rattle.key_core.specs.declared.fault.KeyblockFault.{KeyblockFault}
use Rattle.preamble_core.specs.Common.{common_in, signature_of}
use Rattle.preamble_core.specs.Firmware.{FwPreambleFits, FwPreambleIsSigned}
use Rattle.preamble_core.specs.declared.fault.FwPreambleFault.{FwPreambleFault}
use Rattle.chain_core.specs.Hashing.{message_digest}
use Rattle.chain_core.specs.Accepted.{Accepts, key_of, is_enrolled}
use Rattle.preamble_core.specs.Lines.{lifted}
use Rattle.chain_core.specs.Tables.{KeyblockQuestion, keyblock_of, keyblock_table, signer_lines, signer_question, seal_lines}
use Rattle.chain_core.specs.Tables.{data_key_lines, data_key_question, PreambleQuestion, SignatureQuestion, asked_of_signature}
use Rattle.chain_core.specs.Tables.{signature_lines, Form, table_of, preamble_table, firmware_preamble, combined_version, BodyQuestion}
use Rattle.chain_core.specs.Tables.{body_table}
use Rattle.chain_core.specs.Slot.{SlotQuestion, slot_keyblock, slot_preamble, asked_of_keyblock, asked_of_preamble, asked_of_body}
use Rattle.chain_core.specs.Slot.{slot_table, slot_fault, FirmwareChain}
use Rattle.chain_core.specs.declared.fault.BodyFault.{BodyFault}
use Rattle.chain_core.specs.declared.slot_fault.SlotFault.{SlotFault}
use Rattle.chain_core.specs.declared.slot_fault.SlotFault.TheVariants as slot_faults
use Rattle.chain_core.proofs.Keys.{Known, signer_known}
use Rattle.preamble_core.proofs.Lifted.{lifted-none, lifted-some, lifted-back, append-none, is_equal, not_over}
use Rattle.chain_core.proofs.Rows.{is_enrolled-Decides}
use Rattle.chain_core.proofs.PreambleAnswers.{no_fault_of_signature}

-- ---- the table of a slot

abbrev keyblock_part : Table SlotQuestion SlotFault
keyblock_part = lifted asked_of_keyblock slot_faults.Keyblock keyblock_table

abbrev preamble_part : Table SlotQuestion SlotFault
preamble_part = lifted asked_of_preamble slot_faults.Preamble preamble_table

abbrev body_part : Table SlotQuestion SlotFault
body_part = lifted asked_of_body slot_faults.Body body_table

pub at_keyblock : (q : SlotQuestion) (fault : KeyblockFault) → first_fault keyblock_table (asked_of_keyblock q) ≡ Some fault
    → slot_fault q ≡ Some (slot_faults.Keyblock fault)
unfolding slot_table
at_keyblock q fault e = first_fault-append_some keyblock_part (preamble_part ++ body_part) q (slot_faults.Keyblock fault)
    (lifted-some asked_of_keyblock slot_faults.Keyblock keyblock_table q fault e)

behind : (q : SlotQuestion) → first_fault keyblock_table (asked_of_keyblock q) ≡ None
    → slot_fault q ≡ first_fault (preamble_part ++ body_part) q
unfolding slot_table
behind q none = first_fault-append keyblock_part (preamble_part ++ body_part) q
    (lifted-none asked_of_keyblock slot_faults.Keyblock keyblock_table q none)

pub at_preamble : (q : SlotQuestion) (fault : FwPreambleFault) → first_fault keyblock_table (asked_of_keyblock q) ≡ None
    → first_fault preamble_table (asked_of_preamble q) ≡ Some fault → slot_fault q ≡ Some (slot_faults.Preamble fault)
at_preamble q fault none e = behind q none ∙ first_fault-append_some preamble_part body_part q (slot_faults.Preamble fault)
    (lifted-some asked_of_preamble slot_faults.Preamble preamble_table q fault e)

last_part : (q : SlotQuestion) → first_fault keyblock_table (asked_of_keyblock q) ≡ None
    → first_fault preamble_table (asked_of_preamble q) ≡ None → slot_fault q ≡ first_fault body_part q
last_part q none none' = behind q none ∙ first_fault-append preamble_part body_part q
    (lifted-none asked_of_preamble slot_faults.Preamble preamble_table q none')

pub at_body : (q : SlotQuestion) (fault : BodyFault) → first_fault keyblock_table (asked_of_keyblock q) ≡ None
    → first_fault preamble_table (asked_of_preamble q) ≡ None → first_fault body_table (asked_of_body q) ≡ Some fault
    → slot_fault q ≡ Some (slot_faults.Body fault)
at_body q fault none none' e = last_part q none none' ∙ lifted-some asked_of_body slot_faults.Body body_table q fault e

pub nowhere : (q : SlotQuestion) → first_fault keyblock_table (asked_of_keyblock q) ≡ None
    → first_fault preamble_table (asked_of_preamble q) ≡ None → first_fault body_table (asked_of_body q) ≡ None → slot_fault q ≡ None
nowhere q none none' none'' = last_part q none none' ∙ lifted-none asked_of_body slot_faults.Body body_table q none''

-- ---- the chain

is_yes : (b : Bool) → not b ≡ false → b ≡ true
is_yes true e = refl
is_yes false e = absurd cc

enrolled_row : (rows : List HookRow) (key : Key) (message signature : List ℕ) → not (is_enrolled rows key message signature) ≡ false
    → Any (IsRowOf key.algorithm key.bytes (message_digest key.algorithm message) signature) rows
enrolled_row rows key message signature e = (is_enrolled-Decides rows key message signature).0
    (is_yes (is_enrolled rows key message signature) e)

-- the lines after the views' own
further_keyblock : (q : KeyblockQuestion) → first_fault keyblock_table q ≡ None
    → (first_fault signer_lines (signer_question q) ≡ None) × (first_fault seal_lines q ≡ None)
unfolding keyblock_table
further_keyblock q e =
    let same : KeyblockFault → KeyblockFault = λ fault. fault in
    let signer = lifted signer_question same signer_lines in
    let key = lifted data_key_question same data_key_lines in
    let bytes : KeyblockQuestion → List ℕ = λ q. q.bytes in
    let rest = append-none (lifted bytes same (keyblock_lines seals.Signature)) (signer ++ (seal_lines ++ key)) q e in
    let later = append-none signer (seal_lines ++ key) q rest.1 in
    (lifted-back signer_question same signer_lines q later.0, (append-none seal_lines key q later.1).0)

pub accepts_keyblock : (q : KeyblockQuestion) → first_fault keyblock_table q ≡ None → length (key_of q.signer).bytes ≡ q.signer.size
    → KeyblockFits seals.Signature q.bytes (keyblock_of q)
    → Accepts q.rows (key_of q.signer) (keyblock_of q).seal_bytes (keyblock_of q).signed
accepts_keyblock q e room fits =
    let further = further_keyblock q e in
    let known = signer_known (signer_question q) further.0 in
    let seal = first_fault-none seal_lines q further.1 in
    record {
      algorithm = known.algorithm_known;
      not_sha1 = known.not_sha1;
      key_size = room ∙ known.size_is;
      signature_size = fits.seal_length ∙ is_equal _ _ seal.0;
      row = enrolled_row q.rows (key_of q.signer) (keyblock_of q).signed (keyblock_of q).seal_bytes seal.1.0;
    }

-- where the lines on a signature find no fault, it is accepted
pub accepts_signature : (q : SignatureQuestion) → first_fault signature_lines q ≡ None → Known q.key.algorithm (length q.key.bytes)
    → length q.preamble.signature ≡ q.signature_size → Accepts q.rows q.key q.preamble.signature q.preamble.signed
accepts_signature q e known long =
    let none = first_fault-none signature_lines q e in
    record {
      algorithm = known.algorithm_known;
      not_sha1 = known.not_sha1;
      key_size = known.size_is;
      signature_size = long ∙ is_equal _ _ none.0;
      row = enrolled_row q.rows q.key q.preamble.signed q.preamble.signature none.1.0;
    }

-- so the signature of a preamble without a fault is
pub accepts_preamble : {Preamble Fault : Type 0} (form : Form Preamble Fault) (q : PreambleQuestion) → first_fault (table_of form) q ≡ None
    → Known q.key.algorithm (length q.key.bytes) → length (common_in form.kind q.bytes).signature ≡ (signature_of q.bytes).size
    → Accepts q.rows q.key (common_in form.kind q.bytes).signature (common_in form.kind q.bytes).signed
accepts_preamble form q e known long = accepts_signature (asked_of_signature form.kind q) (no_fault_of_signature form q e) known long

-- where versions are checked, that of the slot is not under the stored one
pub no_older : {Preamble Fault : Type 0} (form : Form Preamble Fault) (q : PreambleQuestion) → first_fault (table_of form) q ≡ None
    → IsTrue q.rollback → q.stored ≤ combined_version q.key.version (common_in form.kind q.bytes).version
no_older form q e checked =
    let none = first_fault-none signature_lines (asked_of_signature form.kind q) (no_fault_of_signature form q e) in
    let version = combined_version q.key.version (common_in form.kind q.bytes).version in
    not_over version q.stored (subst (λ (b : Bool). (b && nat_lt version q.stored) ≡ false) checked none.1.1.1.0)

body_signed : (q : BodyQuestion) → first_fault body_table q ≡ None
    → (not (q.signature_size == signature_length q.key.algorithm) ≡ false) ×
    (not (is_enrolled q.rows q.key (take q.len q.bytes) q.signature) ≡ false)
unfolding body_table
body_signed q e = let none = first_fault-none body_table q e in (none.1.1.0, none.1.1.1.0)

pub accepts_body : (q : BodyQuestion) → first_fault body_table q ≡ None → Known q.key.algorithm (length q.key.bytes)
    → length q.signature ≡ q.signature_size
    → Accepts q.rows q.key q.signature (take q.len q.bytes)
accepts_body q e known long =
    let signed = body_signed q e in
    record {
      algorithm = known.algorithm_known;
      not_sha1 = known.not_sha1;
      key_size = known.size_is;
      signature_size = long ∙ is_equal q.signature_size (signature_length q.key.algorithm) signed.0;
      row = enrolled_row q.rows q.key (take q.len q.bytes) q.signature signed.1;
    }

-- What the checks of the parts found.
pub record NoFaults (q : SlotQuestion) : Type 0 where
  pub keyblock : first_fault keyblock_table (asked_of_keyblock q) ≡ None
  pub preamble : first_fault preamble_table (asked_of_preamble q) ≡ None
  pub body : first_fault body_table (asked_of_body q) ≡ None

-- And what holds of the parts, told or not.
pub record Parts (q : SlotQuestion) : Type 0 where
  pub root : length (key_of q.root).bytes ≡ q.root.size
  pub keyblock_fits : KeyblockFits seals.Signature q.vblock (slot_keyblock q)
  pub keyblock_signed : KeyblockIsSigned (slot_keyblock q)
  pub key : Known (slot_keyblock q).data_key.algorithm (length (slot_keyblock q).data_key.bytes)
  pub preamble_fits : FwPreambleFits (asked_of_preamble q).bytes (slot_preamble q)
  pub preamble_signed : FwPreambleIsSigned (slot_preamble q)

pub chain_of : (q : SlotQuestion) → Parts q → NoFaults q → FirmwareChain q
chain_of q parts found = record {
  keyblock = accepts_keyblock (asked_of_keyblock q) found.keyblock parts.root parts.keyblock_fits;
  keyblock_signed = parts.keyblock_signed;
  preamble = accepts_preamble firmware_preamble (asked_of_preamble q) found.preamble parts.key parts.preamble_fits.common.signature_length;
  preamble_signed = parts.preamble_signed;
  body = accepts_body (asked_of_body q) found.body parts.key parts.preamble_fits.common.body_signature_length;
}
