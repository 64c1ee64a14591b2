-- What is shown of a flash and of a partition, out of their bytes. Only the lines of the fault tables that look at the bytes alone
-- are tested.
-- Source: `futility show` of vboot_reference (futility/cmd_show.c), of which this is a part; what is shown is this project's own
-- choice.
use Rattle.std.specs.Prelude.{ℕ, ◌*◌, nat_le, if◌then◌else◌, List, drop, Option, Result, Ok, Err}
use Rattle.std.specs.Option.{option_map_or}
use Rattle.wire_core.specs.FirstFault.{first_fault}
use Rattle.board_core.specs.Flash.{FlashMedium, range}
use Rattle.board_core.specs.Disk.{DiskMedium}
use Rattle.key_core.specs.declared.fault.KeyblockFault.{KeyblockFault}
use Rattle.key_core.specs.declared.keyblock.Seal.TheVariants.{Signature}
use Rattle.key_core.specs.Keyblocks.{Keyblock, keyblock_lines, keyblock_in}
use Rattle.preamble_core.specs.declared.fault.FwPreambleFault.{FwPreambleFault}
use Rattle.preamble_core.specs.declared.fault.KernelPreambleFault.{KernelPreambleFault}
use Rattle.preamble_core.specs.Firmware.{FwPreamble, firmware_lines, firmware_preamble_in}
use Rattle.preamble_core.specs.Kernel.{KernelPreamble, kernel_lines, kernel_preamble_in}
use Rattle.rom_core.specs.declared.map.Map.{Map}
use Rattle.rom_core.specs.declared.fault.GbbFault.{GbbFault}
use Rattle.rom_core.specs.declared.gbb.Gbb.{Gbb}
use Rattle.rom_core.specs.Gbb.{gbb_lines, gbb_in, area_bytes}
use Rattle.show_core.specs.declared.facts.FlashFacts.{FlashFacts}
use Rattle.show_core.specs.declared.facts.GbbFacts.{GbbFacts}
use Rattle.show_core.specs.declared.facts.KeyblockFacts.{KeyblockFacts}
use Rattle.show_core.specs.declared.facts.SlotFacts.{SlotFacts}
use Rattle.show_core.specs.declared.facts.PreambleFacts.{PreambleFacts}
use Rattle.show_core.specs.declared.facts.PartitionFacts.{PartitionFacts}
use Rattle.show_core.specs.declared.facts.PartitionFacts.TheVariants.{Short, Kernel}
use Rattle.show_core.specs.declared.facts.KernelFacts.{KernelFacts}
use Rattle.show_core.specs.declared.facts.KernelPreambleFacts.{KernelPreambleFacts}

-- the first fault of a table, or what is shown where it finds none
abbrev pub shown : {Facts Fault : Type 0} → Option Fault → Facts → Result Facts Fault
shown fault facts = option_map_or Err fault (Ok facts)

-- ---- the GBB

abbrev pub facts_of_gbb : Gbb → GbbFacts
facts_of_gbb gbb = record { minor = gbb.minor; flags = gbb.flags; hwid = gbb.hwid }

abbrev pub gbb_facts : List ℕ → Result GbbFacts GbbFault
gbb_facts bytes = shown (first_fault gbb_lines bytes) (facts_of_gbb (gbb_in bytes))

-- ---- a slot

abbrev pub facts_of_preamble : FwPreamble → PreambleFacts
facts_of_preamble preamble =
    let common = preamble.common in record { size = common.size; version = common.version; flags = preamble.flags; body_len = common.body_len }

abbrev pub preamble_facts : List ℕ → Result PreambleFacts FwPreambleFault
preamble_facts bytes = shown (first_fault firmware_lines bytes) (facts_of_preamble (firmware_preamble_in bytes))

abbrev pub facts_of_keyblock : Keyblock → KeyblockFacts
facts_of_keyblock keyblock =
    record { size = keyblock.size; flags = keyblock.flags; algorithm = keyblock.data_key.algorithm; version = keyblock.data_key.version }

-- the keyblock, and the preamble in the bytes behind it
abbrev pub facts_of_slot : Keyblock → List ℕ → SlotFacts
facts_of_slot keyblock bytes = record { keyblock = facts_of_keyblock keyblock; preamble = preamble_facts (drop keyblock.size bytes) }

-- the bytes of the area of a keyblock and a preamble
abbrev pub slot_facts : List ℕ → Result SlotFacts KeyblockFault
slot_facts bytes = shown (first_fault (keyblock_lines Signature) bytes) (facts_of_slot (keyblock_in Signature bytes) bytes)

-- ---- a partition

abbrev pub facts_of_kernel_preamble : KernelPreamble → KernelPreambleFacts
facts_of_kernel_preamble preamble =
    let common = preamble.common in record { size = common.size; version = common.version; load_address = preamble.load_address; body_len = common.body_len }

abbrev pub kernel_preamble_facts : List ℕ → Result KernelPreambleFacts KernelPreambleFault
kernel_preamble_facts bytes = shown (first_fault kernel_lines bytes) (facts_of_kernel_preamble (kernel_preamble_in bytes))

abbrev pub facts_of_kernel : Keyblock → List ℕ → KernelFacts
facts_of_kernel keyblock bytes =
    record { keyblock = facts_of_keyblock keyblock; preamble = kernel_preamble_facts (drop keyblock.size bytes) }

-- the bytes that a partition begins with
abbrev pub kernel_facts : List ℕ → Result KernelFacts KeyblockFault
kernel_facts bytes = shown (first_fault (keyblock_lines Signature) bytes) (facts_of_kernel (keyblock_in Signature bytes) bytes)

-- the partition of so many sectors from this one: its kernel is looked for in the first 128 of them
abbrev pub partition_facts : (first sectors : ℕ) → DiskMedium → PartitionFacts
partition_facts first sectors medium = if nat_le 128 sectors then Kernel (kernel_facts (range medium.bytes (first * 512) 65536)) else Short

-- ---- a flash

abbrev pub flash_facts : (at : ℕ) → Map → FlashMedium → FlashFacts
flash_facts at map medium = record {
  size = medium.size;
  map_at = at;
  map = map;
  gbb = gbb_facts (area_bytes map.gbb medium);
  slot_a = slot_facts (area_bytes map.vblock_a medium);
  slot_b = slot_facts (area_bytes map.vblock_b medium);
}
