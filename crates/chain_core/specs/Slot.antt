-- A firmware slot: its whole fault table, what a good one holds, and the chain of its signatures.
-- Source: `vb2api_fw_phase3` and `vb2api_check_hash` of vboot_reference (firmware/2lib/2api.c, 2misc.c).
use Rattle.std.specs.Prelude.{◌≡◌, ℕ, ◌≤◌, Bool, IsTrue, List, ◌++◌, length, take, drop, Option, Some, None, IsSome, Result, IfOk, IfErr}
use Rattle.std.specs.Prelude.{OnOk}
use Rattle.wire_core.specs.FirstFault.{Table, first_fault}
use Rattle.board_core.specs.Flash.{FlashState}
use Rattle.board_core.specs.Hook.{HookState}
use Rattle.board_core.specs.declared.hook_row.HookRow.{HookRow}
use Rattle.key_core.specs.Algorithms.{padded}
use Rattle.key_core.specs.Parts.{Key}
use Rattle.key_core.specs.Keyblocks.{Keyblock, keyblock_in, KeyblockIsSigned}
use Rattle.key_core.specs.declared.key.PackedKey.{PackedKey}
use Rattle.key_core.specs.declared.key.TheConstants.{LARGEST_KEY}
use Rattle.key_core.specs.declared.keyblock.Seal.TheVariants as seals
use Rattle.key_core.specs.declared.fault.KeyblockFault.{KeyblockFault}
use Rattle.preamble_core.specs.Common.{body_signature_of}
use Rattle.preamble_core.specs.Firmware.{FwPreamble, firmware_preamble_in, FwPreambleIsSigned}
use Rattle.preamble_core.specs.Lines.{lifted}
use Rattle.preamble_core.specs.declared.common.PreambleKind.TheVariants as kinds
use Rattle.rom_core.specs.Gbb.{Looks, area_bytes}
use Rattle.chain_core.specs.Accepted.{Accepts, Asked, key_of}
use Rattle.chain_core.specs.Bodies.{is_hook, store_failed, hook_failed}
use Rattle.chain_core.specs.Tables.{KeyblockQuestion, keyblock_table, keyblock_front, PreambleQuestion, preamble_table, BodyQuestion}
use Rattle.chain_core.specs.Tables.{body_table, combined_version}
use Rattle.chain_core.specs.declared.fault.Failure.{Failure}
use Rattle.chain_core.specs.declared.slot.SlotRequest.{SlotRequest}
use Rattle.chain_core.specs.declared.slot_fault.SlotFault.{SlotFault}
use Rattle.chain_core.specs.declared.slot_fault.SlotFault.TheVariants as slot_faults
use Rattle.chain_core.specs.declared.slot_fault.SlotOk.{SlotOk}

-- what is asked of a slot: the bytes of its two areas, the rows of the hook, the root key, the stored version of key and
-- firmware, and whether versions are checked
pub record SlotQuestion : Type 0 where
  pub vblock : List ℕ
  pub main : List ℕ
  pub rows : List HookRow
  pub root : PackedKey
  pub stored : ℕ
  pub rollback : Bool

-- ---- the parts

-- the keyblock stands first
abbrev pub slot_keyblock : SlotQuestion → Keyblock
slot_keyblock q = keyblock_in seals.Signature q.vblock

-- right behind it comes the preamble
abbrev pub behind_keyblock : SlotQuestion → List ℕ
behind_keyblock q = drop (slot_keyblock q).size q.vblock

abbrev pub slot_preamble : SlotQuestion → FwPreamble
slot_preamble q = firmware_preamble_in (behind_keyblock q)

-- the body is what its area begins with
abbrev pub slot_body : SlotQuestion → List ℕ
slot_body q = take (slot_preamble q).common.body_len q.main

-- ---- the table

-- the root key is to have signed the keyblock
abbrev pub asked_of_keyblock : SlotQuestion → KeyblockQuestion
asked_of_keyblock q = record { bytes = q.vblock; rows = q.rows; signer = q.root; stored = q.stored; rollback = q.rollback }

-- the data key is to have signed the preamble
abbrev pub asked_of_preamble : SlotQuestion → PreambleQuestion
asked_of_preamble q = record {
  bytes = behind_keyblock q;
  rows = q.rows;
  key = (slot_keyblock q).data_key;
  stored = q.stored;
  rollback = q.rollback;
}

-- and the body
abbrev pub asked_of_body : SlotQuestion → BodyQuestion
asked_of_body q = record {
  bytes = q.main;
  most = length q.main;
  len = (slot_preamble q).common.body_len;
  key = (slot_keyblock q).data_key;
  signature = (slot_preamble q).common.body_signature;
  signature_size = (body_signature_of kinds.Firmware (behind_keyblock q)).size;
  rows = q.rows;
}

-- the table of a slot: that of the keyblock, that of the preamble, and that of the body
unfoldable pub slot_table : Table SlotQuestion SlotFault
slot_table =
    lifted asked_of_keyblock slot_faults.Keyblock keyblock_table
    ++ (lifted asked_of_preamble slot_faults.Preamble preamble_table
    ++ lifted asked_of_body slot_faults.Body body_table)

abbrev pub slot_fault : SlotQuestion → Option SlotFault
slot_fault q = first_fault slot_table q

-- the first line that holds of those before that of the keyblock's signature
abbrev pub slot_front : SlotQuestion → Option KeyblockFault
slot_front q = first_fault keyblock_front (asked_of_keyblock q)

-- ---- a good slot

abbrev pub slot_version : SlotQuestion → ℕ
slot_version q = combined_version (slot_keyblock q).data_key.version (slot_preamble q).common.version

-- a copy of a key
abbrev pub copy_of : Key → PackedKey
copy_of key = record { algorithm = key.algorithm; version = key.version; size = length key.bytes; bytes = padded LARGEST_KEY key.bytes }

abbrev pub slot_ok : SlotQuestion → SlotOk
slot_ok q = record { version = slot_version q; body_len = (slot_preamble q).common.body_len; subkey = copy_of (slot_preamble q).subkey }

-- The chain of a firmware slot: three signatures are accepted, and each key and signature that is used next is read from
-- what was signed.
pub record FirmwareChain (q : SlotQuestion) : Type 0 where
  -- the root key signed the keyblock
  pub keyblock : Accepts q.rows (key_of q.root) (slot_keyblock q).seal_bytes (slot_keyblock q).signed
  -- of which the data key is signed
  pub keyblock_signed : KeyblockIsSigned (slot_keyblock q)
  -- the data key signed the preamble
  pub preamble : Accepts q.rows (slot_keyblock q).data_key (slot_preamble q).common.signature (slot_preamble q).common.signed
  -- of which subkey and body signature are signed
  pub preamble_signed : FwPreambleIsSigned (slot_preamble q)
  -- and the data key signed the body
  pub body : Accepts q.rows (slot_keyblock q).data_key (slot_preamble q).common.body_signature (slot_body q)

-- ---- the call

-- what is asked of the slot in two areas of a flash, of a hook
abbrev pub slot_question : PackedKey → SlotRequest → FlashState → HookState → SlotQuestion
slot_question root request flash hook = record {
  vblock = area_bytes request.vblock flash.medium;
  main = area_bytes request.main flash.medium;
  rows = hook.rows;
  root = root;
  stored = request.stored;
  rollback = request.rollback;
}

-- The call to verify a slot. `q` is what is asked, and `handed_out` the body that the room hands out after it.
pub record VerifiesSlot (q : SlotQuestion) (flash flash' : FlashState) (hook hook' : HookState) (handed_out : List ℕ)
    (result : Result (Result SlotOk SlotFault) Failure) : Type 0 where
  -- a flash or a hook that failed counted it once, and both hold what they held
  pub looks : Looks flash flash' (store_failed result)
  pub asked : Asked hook hook' (hook_failed result)
  -- where a line before that of the keyblock's signature holds, the hook is not asked
  pub unasked : IsTrue flash.medium.told → IsSome (slot_front q) → hook' ≡ hook
  -- and a hook that failed hides none of them
  pub failed : IsTrue flash.medium.told → IfErr result (λ failure. IsTrue (is_hook failure) → slot_front q ≡ None)
  -- a fault is the first of the table
  pub fault : IsTrue flash.medium.told → IsTrue hook.told → IfOk result (λ answer. IfErr answer (λ fault. slot_fault q ≡ Some fault))
  -- a slot is good only where none of its tests holds
  pub none : IsTrue flash.medium.told → IsTrue hook.told → IfOk result (λ answer. OnOk answer (slot_fault q ≡ None))
  -- version, length and subkey are those of the bytes
  pub ok : IsTrue flash.medium.told → IfOk result (λ answer. IfOk answer (λ ok. ok ≡ slot_ok q))
  -- the three signatures are accepted
  pub chain : IsTrue flash.medium.told → IsTrue hook.told → IfOk result (λ answer. OnOk answer (FirmwareChain q))
  -- where versions are checked, it is no older than the stored one
  pub no_older : IsTrue flash.medium.told → IsTrue hook.told → IfOk result (λ answer. IfOk answer (λ ok.
      IsTrue q.rollback → q.stored ≤ ok.version))
  -- the body that is handed out has that length
  pub many : IfOk result (λ answer. IfOk answer (λ ok. length handed_out ≡ ok.body_len))
  -- and is the one in the flash
  pub body : IsTrue flash.medium.told → IfOk result (λ answer. OnOk answer (handed_out ≡ slot_body q))
