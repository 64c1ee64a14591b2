-- The first fault of a table and what stands where it finds none, as one answer.
use Rattle.std.proofs.Common.{◌≡◌, ◌∙◌, sym, ap, List, ℕ, Option, Some, None, Result, Ok, Err, IfOk, OnOk}
use Rattle.std.specs.Prelude.{IfErr}
use Rattle.std.specs.Option.{option_map_or}
use Rattle.wire_core.specs.FirstFault.{first_fault}
use Rattle.rom_core.specs.declared.map.Map.{Map}
use Rattle.rom_core.specs.declared.gbb.Gbb.{Gbb}
use Rattle.rom_core.specs.declared.fault.MapFault.{MapFault}
use Rattle.rom_core.specs.declared.fault.GbbFault.{GbbFault}
use Rattle.rom_core.specs.Map.{MapQuestion, standing_map, areas_in, map_lines}
use Rattle.rom_core.specs.Gbb.{gbb_lines, gbb_in}
use Rattle.rom_core.specs.Decoded.{map_from, flash_map, gbb_of}

pub gbb_is : (bytes : List ℕ) (answer : Result Gbb GbbFault) → IfErr answer (λ (fault : GbbFault). first_fault gbb_lines bytes ≡ Some fault) → OnOk answer (first_fault gbb_lines bytes ≡ None)
    → IfOk answer (λ (gbb : Gbb). gbb ≡ gbb_in bytes) → answer ≡ gbb_of bytes
unfolding gbb_of
gbb_is bytes (Ok gbb) fault none is = ap (λ (g : Gbb). let r : Result Gbb GbbFault = Ok g in r) is ∙ sym (ap (λ (o : Option GbbFault). option_map_or Err o (Ok (gbb_in bytes))) none)
gbb_is bytes (Err f) fault none is = sym (ap (λ (o : Option GbbFault). option_map_or Err o (Ok (gbb_in bytes))) fault)

pub map_is : (asked : MapQuestion) (answer : Result Map MapFault) → IfErr answer (λ (fault : MapFault). first_fault map_lines asked ≡ Some fault) → OnOk answer (first_fault map_lines asked ≡ None)
    → IfOk answer (λ (areas : Map). areas_in (standing_map asked).rows ≡ Some areas) → flash_map asked ≡ answer
unfolding flash_map
map_is asked (Ok areas) fault none is = ap (λ (o : Option MapFault). map_from o (areas_in (standing_map asked).rows)) none ∙ ap (map_from None) is
map_is asked (Err f) fault none is = ap (λ (o : Option MapFault). map_from o (areas_in (standing_map asked).rows)) fault
