-- The drive that a boot looks at, what its kernels are held to, and what is seen on it.
-- Source: `vb2api_kernel_phase2`, `vb2_fill_dev_boot_flags` and `vb2api_get_dev_default_boot_target` of vboot_reference
-- (firmware/2lib/2kernel.c and 2misc.c); the flags of the GBB are those of 2gbb_flags.h.
use Rattle.std.specs.Prelude.{ℕ, Bool, true, false, not, ◌&&◌, ◌||◌, ◌==◌, if◌then◌else◌, List, [], Option, Some, None, Result, Ok, Err}
use Rattle.record_core.specs.declared.field.NvField.TheVariants as field
use Rattle.record_core.specs.declared.space.SpaceFault.{SpaceFault}
use Rattle.record_core.specs.Field.{field_of}
use Rattle.record_core.specs.Space.{kernel_versions}
use Rattle.fwsel_core.specs.Mode.{has_flag, is_developer_on}
use Rattle.board_core.specs.declared.device.Device.TheVariants as device
use Rattle.board_core.specs.declared.device.Fault.{Fault}
use Rattle.board_core.specs.World.{World, drive_on}
use Rattle.key_core.specs.declared.key.PackedKey.{PackedKey}
use Rattle.rom_core.specs.declared.gbb.Gbb.{Gbb}
use Rattle.rom_core.specs.declared.fault.GbbFault.{GbbFault}
use Rattle.kernel_core.specs.declared.rules.BootMode.{BootMode}
use Rattle.kernel_core.specs.declared.rules.KernelRules.{KernelRules}
use Rattle.chain_core.specs.declared.fault.Failure.{Failure}
use Rattle.chain_core.specs.declared.fault.Failure.TheVariants.{Store, Hook}
use Rattle.gpt_core.specs.Format.{PartitionTable}
use Rattle.gpt_core.specs.Tables.{table_on}
use Rattle.walk_core.specs.Kernels as kernels
use Rattle.walk_core.specs.Seen.{seen_in, table_walked}
use Rattle.walk_core.specs.declared.drive.Seen.{Seen}
use Rattle.boot_core.specs.declared.switches.Choice.{Choice}
use Rattle.boot_core.specs.declared.switches.Choice.TheVariants.{Default, Internal, External}
use Rattle.boot_core.specs.declared.switches.Switches.{Switches}
use Rattle.boot_core.specs.declared.found.Found.{Found}
use Rattle.board_core.specs.declared.device.Drive.{Drive}
use Rattle.board_core.specs.declared.device.Drive.TheVariants.{Disk, Stick}
use Rattle.boot_core.specs.Slots.{no_key}
use Rattle.boot_core.specs.Facts.{facts_of}

-- ---- which drive

-- of the GBB: the removable drive may be booted in developer mode
abbrev pub gbb_external_boot : ℕ
gbb_external_boot = 0x10

abbrev pub gbb_says : Result Gbb GbbFault → (flag : ℕ) → Bool
gbb_says (Ok gbb) flag = has_flag gbb.flags flag
gbb_says (Err fault) flag = false

-- external boot is allowed in developer mode, by nvdata or by the GBB
abbrev pub is_external_allowed : Found → Bool
is_external_allowed found = (field_of found.state.nv field.ExternalBoot == 1) || gbb_says found.gbb gbb_external_boot

-- and it is asked for: from outside, or by nvdata where nothing else is
abbrev pub is_external_wanted : Choice → List ℕ → Bool
is_external_wanted External nv = true
is_external_wanted Internal nv = false
is_external_wanted Default nv = field_of nv field.DefaultBoot == 1

-- the drive of a boot that goes on with a slot
abbrev pub drive_of : Switches → Found → (developer : Bool) → Drive
drive_of sw found developer = if developer && is_external_allowed found && is_external_wanted sw.choice found.state.nv then Stick else Disk

-- ---- what its kernels are held to

-- the stored version word of the kernel; it is not looked at where the space has a fault
abbrev pub stored_kernel_of : Result (List ℕ) SpaceFault → ℕ
stored_kernel_of (Ok space) = kernel_versions space
stored_kernel_of (Err fault) = 0

abbrev pub rules_of : Switches → Found → BootMode → KernelRules
rules_of sw found mode = record {
  mode = mode;
  signed_only = not (field_of found.state.nv field.SignedOnly == 0);
  dev_on = is_developer_on (facts_of sw found);
  stored = stored_kernel_of found.kernel;
}

-- the recovery key; no recovery is booted where the GBB has a fault
abbrev pub recovery_of : Result Gbb GbbFault → PackedKey
recovery_of (Ok gbb) = gbb.recovery
recovery_of (Err fault) = no_key

-- ---- what is seen

abbrev pub drive_asked : Drive → PackedKey → KernelRules → World → kernels.WalkQuestion
drive_asked drive key rules w = record { disk = drive_on drive w; hook = w.hook; key = key; rules = rules }

-- the fault of a board, where a look failed
abbrev pub fault_on : Drive → Failure → Fault
fault_on Disk Store = record { device = device.Disk; done = 0 }
fault_on Stick Store = record { device = device.Stick; done = 0 }
fault_on drive Hook = record { device = device.Hook; done = 0 }

abbrev pub seen_on : Drive → PackedKey → KernelRules → World → Seen
seen_on drive key rules w = seen_in (drive_asked drive key rules w)

-- ---- where a boot looks

-- on which drive, which key is to have signed the kernels, and what they are held to
pub record Look : Type 0 where
  pub drive : Drive
  pub key : PackedKey
  pub rules : KernelRules

abbrev pub asked_at : Look → World → kernels.WalkQuestion
asked_at look w = drive_asked look.drive look.key look.rules w

-- no table
abbrev pub no_table : PartitionTable
no_table = record { guid = []; first_usable = 0; last_usable = 0; entries = [] }

abbrev pub table_by : kernels.WalkQuestion → Option PartitionTable → PartitionTable
table_by d None = no_table
table_by d (Some table) = table_walked d table

-- the table in which each entry has met its fate, where the boot looks at a drive that has one
abbrev pub table_after_look : Option Look → World → PartitionTable
table_after_look None w = no_table
table_after_look (Some look) w = table_by (asked_at look w) (table_on (drive_on look.drive w).medium)
