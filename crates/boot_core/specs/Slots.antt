-- The slot that a boot verifies: what is asked of it on a board, and what is known of its firmware where it is good.
-- Source: `vb2api_fw_phase3` of vboot_reference (firmware/2lib/2api.c); the flags of the GBB are those of 2gbb_flags.h.
use Rattle.std.specs.Prelude.{◌≡◌, ℕ, ◌≤◌, Bool, true, not, IsTrue, if◌then◌else◌, List, [], length, replicate, Result, Ok, Err}
use Rattle.std.specs.Option.{option_map_or}
use Rattle.record_core.specs.declared.space.SpaceFault.{SpaceFault}
use Rattle.record_core.specs.Space.{firmware_versions}
use Rattle.fwsel_core.specs.declared.slot.Slot.{Slot}
use Rattle.fwsel_core.specs.declared.slot.Slot.TheVariants.{A, B}
use Rattle.fwsel_core.specs.Mode.{has_flag}
use Rattle.board_core.specs.World.{World}
use Rattle.key_core.specs.declared.key.PackedKey.{PackedKey}
use Rattle.key_core.specs.declared.key.TheConstants.{LARGEST_KEY}
use Rattle.rom_core.specs.declared.area.Area.{Area}
use Rattle.rom_core.specs.declared.map.Map.{Map}
use Rattle.rom_core.specs.declared.gbb.Gbb.{Gbb}
use Rattle.rom_core.specs.declared.fault.GbbFault.{GbbFault}
use Rattle.chain_core.specs.Slot.{SlotQuestion, slot_question, slot_fault, slot_ok, slot_version, slot_body, FirmwareChain}
use Rattle.chain_core.specs.declared.slot_fault.SlotOk.{SlotOk}
use Rattle.chain_core.specs.declared.slot_fault.SlotFault.{SlotFault}
use Rattle.boot_core.specs.declared.found.Found.{Found}

-- ---- what is asked

-- of the GBB: the firmware's version is not compared with the stored one
abbrev pub gbb_no_rollback_check : ℕ
gbb_no_rollback_check = 0x20

abbrev pub vblock_of : Slot → Map → Area
vblock_of A map = map.vblock_a
vblock_of B map = map.vblock_b

abbrev pub main_of : Slot → Map → Area
main_of A map = map.main_a
main_of B map = map.main_b

-- a key of no bytes, which signs nothing
abbrev pub no_key : PackedKey
no_key = record { algorithm = 0; version = 0; size = 0; bytes = replicate LARGEST_KEY 0 }

-- the root key; no slot is booted where the GBB has a fault
abbrev pub root_of : Result Gbb GbbFault → PackedKey
root_of (Ok gbb) = gbb.root
root_of (Err fault) = no_key

abbrev pub checks_versions : Result Gbb GbbFault → Bool
checks_versions (Ok gbb) = not (has_flag gbb.flags gbb_no_rollback_check)
checks_versions (Err fault) = true

-- the stored version of key and firmware; no slot is booted where the space has a fault
abbrev pub stored_of : Result (List ℕ) SpaceFault → ℕ
stored_of (Ok space) = firmware_versions space
stored_of (Err fault) = 0

-- what is asked of a slot of a board
unfoldable pub slot_asked : Found → Slot → World → SlotQuestion
slot_asked found slot w =
    slot_question (root_of found.gbb) (record {
      vblock = vblock_of slot found.map;
      main = main_of slot found.map;
      stored = stored_of found.firmware;
      rollback = checks_versions found.gbb;
    }) w.flash w.hook

-- the first fault of its table, or what a good one holds
unfoldable pub slot_answer : SlotQuestion → Result SlotOk SlotFault
slot_answer q = option_map_or Err (slot_fault q) (Ok (slot_ok q))

-- ---- what is known of the firmware of a good slot

-- These bytes are the body of the slot that was asked for, of this version and length.
pub record HoldsFirmware (q : SlotQuestion) (version len : ℕ) (bytes : List ℕ) : Type 0 where
  -- the three signatures from the root key on are accepted
  pub chain : FirmwareChain q
  pub version_is : version ≡ slot_version q
  -- where versions are checked, it is no older than the stored one
  pub no_older : IsTrue q.rollback → q.stored ≤ version
  pub body : bytes ≡ slot_body q
  pub many : length bytes ≡ len

-- the firmware that a room hands out: the body of a slot, where one was taken
abbrev pub taken_firmware : (taken : Bool) → List ℕ → List ℕ
taken_firmware taken body = if taken then body else []
