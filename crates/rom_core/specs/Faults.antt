-- The lines of the tables of faults.
use Rattle.std.specs.Prelude.{ℕ}
use Rattle.rom_core.specs.declared.fault.MapFault.{MapFault}
use Rattle.rom_core.specs.declared.fault.MapFault.TheVariants as map_fault
use Rattle.rom_core.specs.declared.fault.GbbFault.{GbbFault}
use Rattle.rom_core.specs.declared.fault.GbbFault.TheVariants as gbb_fault

abbrev pub map_fault_number : MapFault → ℕ
map_fault_number map_fault.FlashSize = 1
map_fault_number map_fault.NoMap = 2
map_fault_number map_fault.MissingArea = 3
map_fault_number map_fault.AreaOutside = 4
map_fault_number map_fault.AreaTooLarge = 5
map_fault_number map_fault.AreaShape = 6
map_fault_number map_fault.AreaOverlap = 7

abbrev pub gbb_fault_number : GbbFault → ℕ
gbb_fault_number gbb_fault.Size = 1
gbb_fault_number gbb_fault.Magic = 2
gbb_fault_number gbb_fault.Version = 3
gbb_fault_number gbb_fault.Outside = 4
