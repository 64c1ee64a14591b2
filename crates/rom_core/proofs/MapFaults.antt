-- A map whose six areas are there: what its table finds, and what its areas fit where it finds nothing.
use Rattle.std.proofs.Common.{◌≡◌, ◌⊎◌, inl, inr, ℕ, zero, suc, ◌+◌, ◌*◌, ◌≤◌, false, Bool, cond, List, length, drop, refl, ap, arith}
use Rattle.std.specs.Prelude.{Some, None, nat_lt}
use Rattle.std.proofs.lemmas.Bool.{or_parts, and_cases, eqb-true, eqb-false, ltb-false, not-false}
use Rattle.wire_core.specs.FirstFault.{first_fault}
use Rattle.rom_core.specs.declared.area.Area.{Area}
use Rattle.rom_core.specs.declared.map.Map.{Map}
use Rattle.rom_core.specs.declared.fault.MapFault.TheVariants as faults
use Rattle.rom_core.specs.Map.{rows_in, areas_in, StandingMap, is_outside, any_outside, any_too_large, is_misshapen, first_page, end_page, share_page, any_overlap, map_area, area_lines}
use Rattle.rom_core.specs.MapFits.{IsIn, FitsFlash, AreApart, IsApart}

pub length-rows_in : (count : ℕ) (bytes : List ℕ) → length (rows_in count bytes) ≡ count
unfolding rows_in
length-rows_in zero bytes = refl
length-rows_in (suc count) bytes = ap suc (length-rows_in count (drop 42 bytes))

-- only the last line is left
pub area_lines-last : (standing : StandingMap) (areas : Map) (overlap : Bool) → areas_in standing.rows ≡ Some areas → any_outside standing.size areas ≡ false → any_too_large areas ≡ false → is_misshapen areas ≡ false
    → any_overlap (map_area standing.at (length standing.rows)) areas ≡ overlap → first_fault area_lines standing ≡ cond overlap (Some faults.AreaOverlap) None
area_lines-last standing areas overlap there inside small shaped apart = rw (there, inside, small, shaped, apart) refl

-- ---- what a caller may rely on

is_in_of : (size : ℕ) (area : Area) → is_outside size area ≡ false → IsIn size area
is_in_of size area inside =
    let parts = or_parts _ _ inside in
    let some : area.size ≡ 0 → ⊥ = eqb-false area.size 0 parts.0 in
    record { some = omega (arith, some); inside = ltb-false _ _ parts.1 }

pub fits_of : (size : ℕ) (areas : Map) → any_outside size areas ≡ false → any_too_large areas ≡ false → is_misshapen areas ≡ false → FitsFlash size areas
fits_of size areas inside small shaped =
    let gbb = or_parts _ _ inside in
    let nvram = or_parts _ _ gbb.1 in
    let vblock_a = or_parts _ _ nvram.1 in
    let main_a = or_parts _ _ vblock_a.1 in
    let vblock_b = or_parts _ _ main_a.1 in
    let main_b = or_parts _ _ vblock_b.1 in
    let body_b = or_parts _ _ small in
    let body_a = or_parts _ _ body_b.0 in
    let vblocks = or_parts _ _ body_a.0 in
    let shape = or_parts _ _ shaped in
    record {
      gbb = is_in_of size areas.gbb gbb.0;
      nvram = is_in_of size areas.nvram nvram.0;
      vblock_a = is_in_of size areas.vblock_a vblock_a.0;
      main_a = is_in_of size areas.main_a main_a.0;
      vblock_b = is_in_of size areas.vblock_b vblock_b.0;
      main_b = is_in_of size areas.main_b main_b.0;
      nvram_page = eqb-true _ _ (not-false _ shape.0);
      nvram_size = ltb-false _ _ shape.1;
      vblock_a_size = ltb-false _ _ vblocks.0;
      vblock_b_size = ltb-false _ _ vblocks.1;
      main_a_size = ltb-false _ _ body_a.1;
      main_b_size = ltb-false _ _ body_b.1;
    }

-- ---- areas that share no page

-- of two areas that share no page, one ends before the other begins
apart_of : (a b : Area) → share_page a b ≡ false → (a.at + a.size ≤ b.at) ⊎ (b.at + b.size ≤ a.at)
apart_of a b none =
    elim (and_cases (nat_lt (first_page a) (end_page b)) (nat_lt (first_page b) (end_page a)) none) [
      | inl behind ↦ let pages = ltb-false (first_page a) (end_page b) behind in inr (omega (arith, pages))
      | inr before ↦ let pages = ltb-false (first_page b) (end_page a) before in inl (omega (arith, pages))
    ]

-- so it is of the first part of the first one
front_apart : (a b : Area) (count : ℕ) → count ≤ a.size → share_page a b ≡ false → AreApart a.at count b.at b.size
front_apart a b count within none =
    elim (apart_of a b none) [
      | inl before ↦ inl (omega (arith, before))
      | inr behind ↦ inr behind
    ]

turned : (a b count at size : ℕ) → (at + size ≤ a) ⊎ (a + b ≤ at) → count ≤ b → AreApart a count at size
turned a b count at size (inl before) within = inr before
turned a b count at size (inr behind) within = inl (omega arith)

pub apart_areas : (at count : ℕ) (areas : Map) → 8192 ≤ areas.nvram.size → any_overlap (map_area at count) areas ≡ false → IsApart at count areas
apart_areas at count areas large none =
    let parts = or_parts _ _ none in
    let rows = or_parts _ _ parts.0 in
    let shares = or_parts _ _ parts.1 in
    let gbb = or_parts _ _ shares.0 in
    let written = or_parts _ _ shares.1 in
    let vblock_a = or_parts _ _ written.0 in
    let main_a = or_parts _ _ vblock_a.1 in
    let vblock_b = or_parts _ _ main_a.1 in
    let main_b = or_parts _ _ vblock_b.1 in
    record {
      rows = turned areas.nvram.at areas.nvram.size 8192 at (56 + 42 * count) (apart_of (map_area at count) areas.nvram rows.0) large;
      gbb = turned areas.nvram.at areas.nvram.size 8192 areas.gbb.at areas.gbb.size (apart_of areas.gbb areas.nvram gbb.0) large;
      vblock_a = front_apart areas.nvram areas.vblock_a 8192 large vblock_a.0;
      main_a = front_apart areas.nvram areas.main_a 8192 large main_a.0;
      vblock_b = front_apart areas.nvram areas.vblock_b 8192 large vblock_b.0;
      main_b = front_apart areas.nvram areas.main_b 8192 large main_b.0;
    }
