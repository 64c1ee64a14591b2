-- What a boot hands over: what is known of the bytes of its firmware and of its kernel.
use Rattle.std.specs.Prelude.{◌≡◌, ℕ, ◌-◌, ◌≤◌, IsTrue, IsSome, IfSome, List, [], Option, Some, None}
use Rattle.record_core.specs.Space.{stored_firmware_version, stored_kernel_version}
use Rattle.fwsel_core.specs.declared.slot.Slot.{Slot}
use Rattle.board_core.specs.World.{World}
use Rattle.key_core.specs.declared.key.PackedKey.{PackedKey}
use Rattle.gpt_core.specs.Format.{PartitionTable}
use Rattle.gpt_core.specs.Tables.{table_on}
use Rattle.chain_core.specs.Slot.{slot_ok}
use Rattle.kernel_core.specs.Rules.{versions_are_checked}
use Rattle.walk_core.specs.Kernels as kernels
use Rattle.walk_core.specs.Walks.{IsKernelAt, IsKernelOf}
use Rattle.walk_core.specs.declared.walked.Kernel.{Kernel}
use Rattle.boot_core.specs.declared.switches.Switches.{Switches}
use Rattle.boot_core.specs.declared.found.Found.{Found}
use Rattle.boot_core.specs.declared.outcome.Hand.{Hand}
use Rattle.boot_core.specs.declared.outcome.Outcome.{Outcome}
use Rattle.boot_core.specs.declared.outcome.Outcome.TheVariants as outcome
use Rattle.boot_core.specs.declared.room.Room.{Room}
use Rattle.boot_core.specs.Slots.{checks_versions, slot_asked, HoldsFirmware, taken_firmware}
use Rattle.boot_core.specs.Drives.{rules_of, recovery_of, drive_asked}

-- the bytes that are handed over
pub record Handed : Type 0 where
  pub firmware : List ℕ
  pub kernel : List ℕ

abbrev pub handed_by : Room → Handed
handed_by room = record { firmware = taken_firmware room.has_firmware room.slot; kernel = room.kernel }

-- ---- the firmware

-- no firmware is handed over
pub record HoldsNone (hand : Hand) (firmware : List ℕ) : Type 0 where
  pub version : hand.fw_version ≡ 0
  pub many : hand.fw_len ≡ 0
  pub bytes : firmware ≡ []

-- that of the slot on this board, or none
abbrev pub HoldsSlot : Found → World → Option Slot → Hand → (firmware : List ℕ) → Type 0
HoldsSlot found w None hand firmware = HoldsNone hand firmware
HoldsSlot found w (Some slot) hand firmware = HoldsFirmware (slot_asked found slot w) hand.fw_version hand.fw_len firmware

-- ---- the kernel

-- the key that is to have signed its keyblock: the one in the preamble of the slot, or the recovery key
abbrev pub kernel_key : Found → World → Option Slot → PackedKey
kernel_key found w None = recovery_of found.gbb
kernel_key found w (Some slot) = (slot_ok (slot_asked found slot w)).subkey

abbrev pub kernel_in : Hand → Kernel
kernel_in hand = record {
  partition = hand.partition;
  version = hand.kernel_version;
  load_address = hand.load_address;
  body_len = hand.kernel_len;
}

-- what is asked of the kernels of its drive
abbrev pub drive_by : Switches → Found → World → Hand → kernels.WalkQuestion
drive_by sw found w hand = drive_asked hand.drive (kernel_key found w hand.slot) (rules_of sw found hand.mode) w

-- The kernel is that of an entry of the drive's table, and its chain is accepted.
pub record HoldsKernel (d : kernels.WalkQuestion) (hand : Hand) (bytes : List ℕ) : Type 0 where
  pub table : PartitionTable
  pub there : table_on d.disk.medium ≡ Some table
  pub taken : IsKernelOf d table.entries (hand.partition - 1) (kernel_in hand) bytes
  -- where versions are checked, it is no older than the stored one
  pub no_older : IsTrue (versions_are_checked d.rules) → d.rules.stored ≤ hand.kernel_version

-- ---- both

pub record HoldsHand (sw : Switches) (found : Found) (w : World) (handed : Handed) (hand : Hand) : Type 0 where
  pub firmware : HoldsSlot found w hand.slot hand handed.firmware
  pub kernel : HoldsKernel (drive_by sw found w hand) hand handed.kernel
  -- where versions are checked, neither is older than the version that is stored after the boot
  pub firmware_no_older : IsTrue (checks_versions found.gbb) → IsSome hand.slot → IfSome hand.stored_fw (λ stored. stored ≤ hand.fw_version)
  pub kernel_no_older : IsTrue (versions_are_checked (rules_of sw found hand.mode))
      → IfSome hand.stored_kernel (λ stored. stored ≤ hand.kernel_version)

abbrev pub HoldsOutcome : Switches → Found → World → Handed → Outcome → Type 0
HoldsOutcome sw found w handed (outcome.HandOver hand) = HoldsHand sw found w handed hand
HoldsOutcome sw found w handed other = Unit {0}

-- ---- what stands of it after the boot

-- The kernel stands in the partition of an entry of the drive's table. The entry may have lost its last try.
pub record StandsKernel (d : kernels.WalkQuestion) (hand : Hand) (bytes : List ℕ) : Type 0 where
  pub table : PartitionTable
  pub there : table_on d.disk.medium ≡ Some table
  pub stands : IsKernelAt d table.entries (hand.partition - 1) (kernel_in hand) bytes

-- What was handed over stands on this board, which is the one after the boot; `found` is what was found before.
pub record StandsHand (sw : Switches) (found : Found) (w : World) (handed : Handed) (hand : Hand) : Type 0 where
  pub firmware : HoldsSlot found w hand.slot hand handed.firmware
  pub kernel : StandsKernel (drive_by sw found w hand) hand handed.kernel
  -- the stored versions are those that it names
  pub stored_fw : stored_firmware_version w.tpm.spaces.firmware ≡ hand.stored_fw
  pub stored_kernel : stored_kernel_version w.tpm.spaces.kernel ≡ hand.stored_kernel

abbrev pub StandsOutcome : Switches → Found → World → Handed → Outcome → Type 0
StandsOutcome sw found w handed (outcome.HandOver hand) = StandsHand sw found w handed hand
StandsOutcome sw found w handed other = Unit {0}
