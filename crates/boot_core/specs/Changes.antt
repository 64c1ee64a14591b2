-- The changes of a boot, and what each makes of what the devices hold.
use Rattle.std.specs.Prelude.{ℕ, ◌+◌, Bool, true, false, List, [], ◌∷◌, Option, Some, None, if◌then◌else◌}
use Rattle.board_core.specs.declared.device.Device.{Device}
use Rattle.board_core.specs.declared.device.Device.TheVariants as device
use Rattle.board_core.specs.declared.device.Space.TheVariants as space
use Rattle.board_core.specs.Fault.{same_device}
use Rattle.board_core.specs.Tpm.{Spaces, with_space}
use Rattle.nvstore_core.specs.declared.state.NvState.{NvState}
use Rattle.nvstore_core.specs.Pages.{state_in, bytes_with_record, state_with_record, calls_to_save}
use Rattle.gpt_core.specs.Format.{PartitionTable}
use Rattle.gpt_core.specs.Commits.{bytes_with_table}

-- A change of a boot: a space of the TPM has these bytes, this nvdata record is stored, or both copies of the partition table
-- are replaced.
pub data Change : Type 0 where
  Firmware : List ℕ → Change
  Record : List ℕ → Change
  Table : Change
  Kernel : List ℕ → Change

-- a change or none
abbrev pub listed : (List ℕ → Change) → Option (List ℕ) → List Change
listed change None = []
listed change (Some bytes) = change bytes ∷ []

-- the table, where it is to be written
abbrev pub tabled : Bool → List Change
tabled false = []
tabled true = Table ∷ []

-- ---- what a change makes of each device

-- the bytes of the flash, whose nvdata begins at `area`
abbrev pub flash_with : ℕ → List ℕ → Change → List ℕ
flash_with area bytes (Record r) = bytes_with_record area (state_in area bytes) r bytes
flash_with area bytes other = bytes

-- what the store knows of its pages
abbrev pub state_with : NvState → Change → NvState
state_with state (Record r) = state_with_record state r
state_with state other = state

-- the record that stands
abbrev pub record_with : Option (List ℕ) → Change → Option (List ℕ)
record_with standing (Record r) = Some r
record_with standing other = standing

abbrev pub spaces_with : Spaces → Change → Spaces
spaces_with spaces (Firmware bytes) = with_space space.Firmware bytes spaces
spaces_with spaces (Kernel bytes) = with_space space.Kernel bytes spaces
spaces_with spaces other = spaces

-- the bytes of a disk of so many sectors, where this is the table that is written
abbrev pub disk_with : ℕ → PartitionTable → List ℕ → Change → List ℕ
disk_with sectors table bytes Table = bytes_with_table sectors table bytes
disk_with sectors table bytes other = bytes

-- the table that stands
abbrev pub table_with : PartitionTable → Option PartitionTable → Change → Option PartitionTable
table_with table standing Table = Some table
table_with table standing other = standing

-- ---- the changing calls

-- the device of a change
abbrev pub device_of : Change → Device
device_of (Firmware bytes) = device.Tpm
device_of (Record r) = device.Flash
device_of Table = device.Disk
device_of (Kernel bytes) = device.Tpm

-- how many changing calls a change takes: a space one, a record one or three by its form, both copies of the table six
abbrev pub calls_of : NvState → Change → ℕ
calls_of state (Firmware bytes) = 1
calls_of state (Record r) = calls_to_save state r
calls_of state Table = 6
calls_of state (Kernel bytes) = 1

-- those of these changes on one device
abbrev pub calls_on : Device → NvState → List Change → ℕ
calls_on on state [] = 0
calls_on on state (change ∷ rest) =
    (if same_device on (device_of change) then calls_of state change else 0) + calls_on on (state_with state change) rest
