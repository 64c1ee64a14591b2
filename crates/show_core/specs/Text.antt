-- The text of what a flash holds: a line for the flash, for each of its areas and for its GBB, and two for each slot; and that of
-- a partition: two lines for its kernel, or one.
-- The form of the lines is this project's own.
use Rattle.std.specs.Prelude.{ℕ, nat_le, ◌&&◌, ◌==◌, if◌then◌else◌, List, [], ◌∷◌, ◌++◌, codes, decimal, Result, Ok, Err}
use Rattle.text_core.specs.Numbers.{hex_number}
use Rattle.text_core.specs.Shown.{shown_field, line_end}
use Rattle.key_core.specs.declared.fault.KeyblockFault.{KeyblockFault}
use Rattle.key_core.specs.declared.fault.KeyblockFault.TheVariants as keyblock_fault
use Rattle.preamble_core.specs.declared.fault.FwPreambleFault.{FwPreambleFault}
use Rattle.preamble_core.specs.declared.fault.FwPreambleFault.TheVariants as preamble_fault
use Rattle.preamble_core.specs.declared.fault.KernelPreambleFault.{KernelPreambleFault}
use Rattle.preamble_core.specs.declared.fault.KernelPreambleFault.TheVariants as kernel_fault
use Rattle.rom_core.specs.declared.area.Area.{Area}
use Rattle.rom_core.specs.declared.fault.GbbFault.{GbbFault}
use Rattle.rom_core.specs.Faults.{gbb_fault_number}
use Rattle.show_core.specs.declared.facts.FlashFacts.{FlashFacts}
use Rattle.show_core.specs.declared.facts.GbbFacts.{GbbFacts}
use Rattle.show_core.specs.declared.facts.KeyblockFacts.{KeyblockFacts}
use Rattle.show_core.specs.declared.facts.SlotFacts.{SlotFacts}
use Rattle.show_core.specs.declared.facts.PreambleFacts.{PreambleFacts}
use Rattle.show_core.specs.declared.facts.PartitionFacts.{PartitionFacts}
use Rattle.show_core.specs.declared.facts.PartitionFacts.TheVariants.{Short, Kernel}
use Rattle.show_core.specs.declared.facts.KernelFacts.{KernelFacts}
use Rattle.show_core.specs.declared.facts.KernelPreambleFacts.{KernelPreambleFacts}

-- ---- the number of a fault: the line of its table, counted from 1

abbrev pub keyblock_fault_number : KeyblockFault → ℕ
keyblock_fault_number keyblock_fault.TooSmall = 1
keyblock_fault_number keyblock_fault.Magic = 2
keyblock_fault_number keyblock_fault.Version = 3
keyblock_fault_number keyblock_fault.Size = 4
keyblock_fault_number keyblock_fault.SealOutside = 5
keyblock_fault_number keyblock_fault.SignedTooLittle = 6
keyblock_fault_number keyblock_fault.SignedTooMuch = 7
keyblock_fault_number keyblock_fault.KeyOutside = 8
keyblock_fault_number keyblock_fault.SignerAlgorithm = 9
keyblock_fault_number keyblock_fault.SignerSha1 = 10
keyblock_fault_number keyblock_fault.SignerSize = 11
keyblock_fault_number keyblock_fault.SealSize = 12
keyblock_fault_number keyblock_fault.Refused = 13
keyblock_fault_number keyblock_fault.KeyAlgorithm = 14
keyblock_fault_number keyblock_fault.KeySha1 = 15
keyblock_fault_number keyblock_fault.KeySize = 16
keyblock_fault_number keyblock_fault.KeyRange = 17
keyblock_fault_number keyblock_fault.KeyRollback = 18
keyblock_fault_number keyblock_fault.DeveloperFlag = 19
keyblock_fault_number keyblock_fault.RecoveryFlag = 20

abbrev pub preamble_fault_number : FwPreambleFault → ℕ
preamble_fault_number preamble_fault.TooSmall = 1
preamble_fault_number preamble_fault.Version = 2
preamble_fault_number preamble_fault.Size = 3
preamble_fault_number preamble_fault.SigOutside = 4
preamble_fault_number preamble_fault.SignedTooLittle = 5
preamble_fault_number preamble_fault.SignedTooMuch = 6
preamble_fault_number preamble_fault.SubkeyOutside = 7
preamble_fault_number preamble_fault.BodySigOutside = 8
preamble_fault_number preamble_fault.SigSize = 9
preamble_fault_number preamble_fault.Refused = 10
preamble_fault_number preamble_fault.VersionRange = 11
preamble_fault_number preamble_fault.Rollback = 12

abbrev pub kernel_preamble_fault_number : KernelPreambleFault → ℕ
kernel_preamble_fault_number kernel_fault.TooSmall = 1
kernel_preamble_fault_number kernel_fault.Version = 2
kernel_preamble_fault_number kernel_fault.Size = 3
kernel_preamble_fault_number kernel_fault.SigOutside = 4
kernel_preamble_fault_number kernel_fault.SignedTooLittle = 5
kernel_preamble_fault_number kernel_fault.SignedTooMuch = 6
kernel_preamble_fault_number kernel_fault.BodySigOutside = 7
kernel_preamble_fault_number kernel_fault.SigSize = 8
kernel_preamble_fault_number kernel_fault.Refused = 9
kernel_preamble_fault_number kernel_fault.VersionRange = 10
kernel_preamble_fault_number kernel_fault.Rollback = 11

-- ---- faults

-- where a fault is told in the place of what was looked for
abbrev pub fault_end : (number : ℕ) → List ℕ
fault_end number = codes " fault " ++ decimal number ++ line_end

-- ---- the flash and its areas

abbrev pub flash_line : (size map_at : ℕ) → List ℕ
flash_line size map_at = codes "flash " ++ decimal size ++ codes " map " ++ decimal map_at ++ line_end

abbrev pub area_line : (name : List ℕ) → Area → List ℕ
area_line name area = codes "area " ++ name ++ codes " " ++ decimal area.at ++ codes " " ++ decimal area.size ++ line_end

-- ---- the GBB

-- a text with a space before it, and nothing where it is empty
abbrev pub spaced : List ℕ → List ℕ
spaced [] = []
spaced (byte ∷ bytes) = codes " " ++ (byte ∷ bytes)

abbrev pub gbb_line : Result GbbFacts GbbFault → List ℕ
gbb_line (Ok gbb) =
    codes "gbb minor " ++ decimal gbb.minor ++ codes " flags " ++ hex_number 4 gbb.flags ++ codes " hwid" ++ spaced (shown_field gbb.hwid)
    ++ line_end
gbb_line (Err fault) = codes "gbb" ++ fault_end (gbb_fault_number fault)

-- ---- keyblocks and preambles, of slots and of partitions

-- what a line of a slot begins with, and one of a partition
abbrev pub slot_front : (slot : List ℕ) → List ℕ
slot_front slot = codes "slot " ++ slot ++ codes " "

abbrev pub partition_front : (index : ℕ) → List ℕ
partition_front index = codes "partition " ++ decimal index ++ codes " "

abbrev pub keyblock_line : (front : List ℕ) → KeyblockFacts → List ℕ
keyblock_line front keyblock =
    front ++ codes "keyblock " ++ decimal keyblock.size ++ codes " flags " ++ decimal keyblock.flags
    ++ codes " key " ++ decimal keyblock.algorithm ++ codes " version " ++ decimal keyblock.version ++ line_end

abbrev pub keyblock_fault_line : (front : List ℕ) → KeyblockFault → List ℕ
keyblock_fault_line front fault = front ++ codes "keyblock" ++ fault_end (keyblock_fault_number fault)

abbrev pub preamble_line : (front : List ℕ) → Result PreambleFacts FwPreambleFault → List ℕ
preamble_line front (Ok preamble) =
    front ++ codes "preamble " ++ decimal preamble.size ++ codes " version " ++ decimal preamble.version
    ++ codes " flags " ++ hex_number 4 preamble.flags ++ codes " body " ++ decimal preamble.body_len ++ line_end
preamble_line front (Err fault) = front ++ codes "preamble" ++ fault_end (preamble_fault_number fault)

abbrev pub kernel_preamble_line : (front : List ℕ) → Result KernelPreambleFacts KernelPreambleFault → List ℕ
kernel_preamble_line front (Ok preamble) =
    front ++ codes "preamble " ++ decimal preamble.size ++ codes " version " ++ decimal preamble.version
    ++ codes " load " ++ hex_number 8 preamble.load_address ++ codes " body " ++ decimal preamble.body_len ++ line_end
kernel_preamble_line front (Err fault) = front ++ codes "preamble" ++ fault_end (kernel_preamble_fault_number fault)

-- a preamble is looked for behind a keyblock without a fault alone
abbrev pub slot_lines : (front : List ℕ) → Result SlotFacts KeyblockFault → List ℕ
slot_lines front (Ok slot) = keyblock_line front slot.keyblock ++ preamble_line front slot.preamble
slot_lines front (Err fault) = keyblock_fault_line front fault

abbrev pub kernel_text : (front : List ℕ) → Result KernelFacts KeyblockFault → List ℕ
kernel_text front (Ok kernel) = keyblock_line front kernel.keyblock ++ kernel_preamble_line front kernel.preamble
kernel_text front (Err fault) = keyblock_fault_line front fault

-- ---- a partition

abbrev pub partition_text : (index : ℕ) → PartitionFacts → List ℕ
partition_text index Short = partition_front index ++ codes "short" ++ line_end
partition_text index (Kernel kernel) = kernel_text (partition_front index) kernel

-- ---- the whole

abbrev pub facts_text : FlashFacts → List ℕ
facts_text facts =
    flash_line facts.size facts.map_at
    ++ area_line (codes "GBB") facts.map.gbb
    ++ area_line (codes "RW_NVRAM") facts.map.nvram
    ++ area_line (codes "VBLOCK_A") facts.map.vblock_a
    ++ area_line (codes "FW_MAIN_A") facts.map.main_a
    ++ area_line (codes "VBLOCK_B") facts.map.vblock_b
    ++ area_line (codes "FW_MAIN_B") facts.map.main_b
    ++ gbb_line facts.gbb
    ++ slot_lines (slot_front (codes "A")) facts.slot_a
    ++ slot_lines (slot_front (codes "B")) facts.slot_b
