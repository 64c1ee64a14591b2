-- What a boot finds on its board, and what its mode is decided from.
use Rattle.std.specs.Prelude.{ℕ, List, Option, Some, None, Result, Ok, Err}
use Rattle.record_core.specs.declared.space.SpaceFault.{SpaceFault}
use Rattle.record_core.specs.Space.{fault_number, firmware_fault, kernel_fault, good_bytes, firmware_flags}
use Rattle.fwsel_core.specs.declared.boot_mode.ModeFacts.{ModeFacts}
use Rattle.board_core.specs.World.{World}
use Rattle.rom_core.specs.declared.map.Map.{Map}
use Rattle.rom_core.specs.declared.fault.MapFault.{MapFault}
use Rattle.rom_core.specs.declared.fault.GbbFault.{GbbFault}
use Rattle.rom_core.specs.declared.gbb.Gbb.{Gbb}
use Rattle.rom_core.specs.Gbb.{area_bytes}
use Rattle.rom_core.specs.Reading.{map_question}
use Rattle.rom_core.specs.Decoded.{flash_map, gbb_of}
use Rattle.rom_core.specs.Faults.{gbb_fault_number}
use Rattle.nvstore_core.specs.Pages.{state_in}
use Rattle.boot_core.specs.declared.switches.Switches.{Switches}
use Rattle.boot_core.specs.declared.found.Found.{Found}

-- ---- what is found

-- in a board whose flash has this map
unfoldable pub found_in : Map → World → Found
found_in map w = record {
  map = map;
  state = state_in map.nvram.at w.flash.medium.bytes;
  gbb = gbb_of (area_bytes map.gbb w.flash.medium);
  firmware = good_bytes (firmware_fault w.tpm.spaces.firmware) w.tpm.spaces.firmware;
  kernel = good_bytes (kernel_fault w.tpm.spaces.kernel) w.tpm.spaces.kernel;
}

-- the map that was read
abbrev pub found_by : Result Map MapFault → World → Result Found MapFault
found_by (Ok map) w = Ok (found_in map w)
found_by (Err fault) w = Err fault

unfoldable pub found_of : World → Result Found MapFault
found_of w = found_by (flash_map (map_question w.map_at w.flash.medium)) w

-- ---- what the mode is decided from

abbrev pub gbb_fact : Result Gbb GbbFault → Result ℕ ℕ
gbb_fact (Ok gbb) = Ok gbb.flags
gbb_fact (Err fault) = Err (gbb_fault_number fault)

abbrev pub flags_fact : Result (List ℕ) SpaceFault → Result ℕ ℕ
flags_fact (Ok space) = Ok (firmware_flags space)
flags_fact (Err fault) = Err (fault_number fault)

abbrev pub kernel_fact : Result (List ℕ) SpaceFault → Option ℕ
kernel_fact (Ok space) = None
kernel_fact (Err fault) = Some (fault_number fault)

abbrev pub facts_of : Switches → Found → ModeFacts
facts_of sw found = record {
  recovery = sw.recovery;
  gbb = gbb_fact found.gbb;
  firmware = flags_fact found.firmware;
  kernel = kernel_fact found.kernel;
  nv = found.state.nv;
}
