-- A map in which its table finds no fault, from the bytes of its flash alone.
use Rattle.std.proofs.Common.{◌≡◌, ℕ, ◌+◌, ◌*◌, Bool, true, false, cond, List, length, Option, Some, None, Result, Ok, Err, refl, ap, sym, ◌∙◌, true≢false}
use Rattle.std.specs.Prelude.{is_some, is_ok}
use Rattle.wire_core.specs.FirstFault.{first_fault}
use Rattle.board_core.specs.Flash.{range}
use Rattle.rom_core.specs.declared.map.Map.{Map}
use Rattle.rom_core.specs.declared.fault.MapFault.{MapFault}
use Rattle.rom_core.specs.declared.fault.MapFault.TheVariants as faults
use Rattle.rom_core.specs.Map.{count_of, head_at, is_map_at, StandingMap, MapQuestion, standing_map, areas_in, map_lines, area_lines, any_outside, any_too_large, is_misshapen, any_overlap, map_area}
use Rattle.rom_core.specs.MapFits.{FitsFlash, IsApart}
use Rattle.rom_core.specs.Decoded.{map_from, flash_map}
use Rattle.rom_core.proofs.MapFaults.{length-rows_in, fits_of, apart_areas}

-- a line that is not the first fault, and those behind it
none_of : {A : Type 0} (b : Bool) (x : A) (rest : Option A) → cond b (Some x) rest ≡ None → (b ≡ false) × (rest ≡ None)
none_of true x rest is = absurd (true≢false (ap (λ (o : Option _). is_some o) is))
none_of false x rest is = (refl, is)

abbrev map_or : Map → Result Map MapFault → Map
map_or other (Ok map) = map
map_or other (Err fault) = other

read_from : (fault : Option MapFault) (areas : Option Map) (map : Map) → map_from fault areas ≡ Ok map → (fault ≡ None) × (areas ≡ Some map)
read_from (Some fault) areas map is = absurd (true≢false (sym (ap is_ok is)))
read_from None None map is = absurd (true≢false (sym (ap is_ok is)))
read_from None (Some areas) map is = (refl, ap (λ (r : Result Map MapFault). Some (map_or areas r)) is)

-- what the lines of six areas find, one after the other
areas_find : (standing : StandingMap) (areas : Map) → areas_in standing.rows ≡ Some areas
    → first_fault area_lines standing
    ≡ cond (any_outside standing.size areas) (Some faults.AreaOutside)
    (cond (any_too_large areas) (Some faults.AreaTooLarge)
    (cond (is_misshapen areas) (Some faults.AreaShape)
    (cond (any_overlap (map_area standing.at (length standing.rows)) areas) (Some faults.AreaOverlap) None)))
areas_find standing areas there = rw (there) refl

-- none of them does
record AreGood (standing : StandingMap) (areas : Map) : Type 0 where
  inside : any_outside standing.size areas ≡ false
  small : any_too_large areas ≡ false
  shaped : is_misshapen areas ≡ false
  apart : any_overlap (map_area standing.at (length standing.rows)) areas ≡ false

are_good : (standing : StandingMap) (areas : Map) → areas_in standing.rows ≡ Some areas → first_fault area_lines standing ≡ None → AreGood standing areas
are_good standing areas there none =
    let inside = none_of (any_outside standing.size areas) faults.AreaOutside _ (sym (areas_find standing areas there) ∙ none) in
    let small = none_of (any_too_large areas) faults.AreaTooLarge _ inside.1 in
    let shaped = none_of (is_misshapen areas) faults.AreaShape _ small.1 in
    let apart = none_of (any_overlap (map_area standing.at (length standing.rows)) areas) faults.AreaOverlap None shaped.1 in
    record { inside = inside.0; small = small.0; shaped = shaped.0; apart = apart.0 }

-- the lines of the areas come behind the two of the flash and of the head
find_areas : (asked : MapQuestion) → first_fault map_lines asked ≡ None → first_fault area_lines (standing_map asked) ≡ None
find_areas asked none =
    let size = none_of _ faults.FlashSize _ none in
    (none_of _ faults.NoMap _ size.1).1

-- The areas of a map that is read fit its flash, and the two pages of nvdata lie apart from the map and from each of them.
pub good_map : (asked : MapQuestion) (map : Map) → flash_map asked ≡ Ok map → FitsFlash asked.size map × IsApart asked.at (count_of (head_at asked.bytes asked.at)) map
unfolding flash_map
good_map asked map is =
    let count : ℕ = count_of (head_at asked.bytes asked.at) in
    let read = read_from (first_fault map_lines asked) (areas_in (standing_map asked).rows) map is in
    let good = are_good (standing_map asked) map read.1 (find_areas asked read.0) in
    let fits = fits_of asked.size map good.inside good.small good.shaped in
    let many : length (standing_map asked).rows ≡ count = length-rows_in count (range asked.bytes (asked.at + 56) (42 * count)) in
    (fits, apart_areas asked.at count map fits.nvram_size (sym (ap (λ (n : ℕ). any_overlap (map_area asked.at n) map) many) ∙ good.apart))
