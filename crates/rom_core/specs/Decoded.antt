-- What the bytes of a flash hold, as one answer: the first fault of a table, or what was read where there is none.
use Rattle.std.specs.Prelude.{ℕ, List, Option, Some, None, Result, Ok, Err}
use Rattle.std.specs.Option.{option_map_or}
use Rattle.wire_core.specs.FirstFault.{first_fault}
use Rattle.rom_core.specs.declared.map.Map.{Map}
use Rattle.rom_core.specs.declared.gbb.Gbb.{Gbb}
use Rattle.rom_core.specs.declared.fault.MapFault.{MapFault}
use Rattle.rom_core.specs.declared.fault.MapFault.TheVariants as map_fault
use Rattle.rom_core.specs.declared.fault.GbbFault.{GbbFault}
use Rattle.rom_core.specs.Map.{MapQuestion, standing_map, areas_in, map_lines}
use Rattle.rom_core.specs.Gbb.{gbb_lines, gbb_in}

-- the areas, which are there where the table has no fault
abbrev pub map_from : Option MapFault → Option Map → Result Map MapFault
map_from (Some fault) areas = Err fault
map_from None (Some areas) = Ok areas
map_from None None = Err map_fault.MissingArea

-- the map of a flash
unfoldable pub flash_map : MapQuestion → Result Map MapFault
flash_map asked = map_from (first_fault map_lines asked) (areas_in (standing_map asked).rows)

-- the GBB in the bytes of its area
unfoldable pub gbb_of : List ℕ → Result Gbb GbbFault
gbb_of bytes = option_map_or Err (first_fault gbb_lines bytes) (Ok (gbb_in bytes))
