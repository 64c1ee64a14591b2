-- Ranges beside the pages of nvdata.
use Rattle.std.proofs.Common.{◌≡◌, inl, inr, ℕ, ◌+◌, ◌*◌, ◌%◌, ◌≤◌, Bool, cond, List, Option, Some, refl, ap, ◌∙◌, arith}
use Rattle.std.specs.Prelude.{not, ◌&&◌, ◌||◌, ◌==◌, nat_lt, nat_le}
use Rattle.wire_core.specs.FirstFault.{first_fault}
use Rattle.board_core.specs.Flash.{range}
use Rattle.rom_core.specs.declared.fault.MapFault.{MapFault}
use Rattle.rom_core.specs.declared.fault.MapFault.TheVariants as faults
use Rattle.rom_core.specs.Map.{count_of, head_at, is_map_at, is_map_head, rows_in, StandingMap, MapQuestion, standing_map, areas_in, map_lines, area_lines}
use Rattle.rom_core.specs.MapFits.{AreApart, IsApart}
use Rattle.rom_core.specs.Decoded.{map_from, flash_map}
use Rattle.rom_core.proofs.GoodMaps.{good_map}
use Rattle.nvstore_core.specs.Saving.{SameBut}
use Rattle.nvstore_core.proofs.Frames.{range_before, range_behind}
use Rattle.boot_core.specs.Beside.{asked, StaysBeside}

-- a range that lies apart from the bytes that changed
range_beside : (from count at size : ℕ) (old new : List ℕ) → AreApart from count at size → SameBut from count old new → range new at size ≡ range old at size
range_beside from count at size old new (inl before) same = range_behind from count at size old new before same
range_beside from count at size old new (inr behind) same = range_before from count at size old new behind same

-- a part of such a range
part_beside : (from count at size at' size' : ℕ) (old new : List ℕ) → AreApart from count at size → at ≤ at' → at' + size' ≤ at + size → SameBut from count old new → range new at' size' ≡ range old at' size'
part_beside from count at size at' size' old new (inl before) low high same = range_behind from count at' size' old new (omega arith) same
part_beside from count at size at' size' old new (inr behind) low high same = range_before from count at' size' old new (omega arith) same

-- ---- the map

-- what the map table finds, by whether a map stands, and by its rows
abbrev found_at : ℕ → Bool → StandingMap → Option MapFault
found_at size stands standing = cond (not (size % 4096 == 0) || nat_lt 33554432 size) (Some faults.FlashSize) (cond (not stands) (Some faults.NoMap) (first_fault area_lines standing))

found_is : (asked : MapQuestion) → first_fault map_lines asked ≡ found_at asked.size (is_map_at asked.size asked.bytes asked.at) (standing_map asked)
found_is asked = refl

abbrev standing_by : (size at : ℕ) → (head rows : List ℕ) → StandingMap
standing_by size at head rows = record { size = size; at = at; rows = rows_in (count_of head) rows }

same_standing : (size at : ℕ) (old new : List ℕ) → head_at new at ≡ head_at old at → range new (at + 56) (42 * count_of (head_at old at)) ≡ range old (at + 56) (42 * count_of (head_at old at))
    → standing_map (asked size at new) ≡ standing_map (asked size at old)
same_standing size at old new head rows =
    ap (λ (h : List ℕ). standing_by size at h (range new (at + 56) (42 * count_of h))) head ∙ ap (standing_by size at (head_at old at)) rows

same_map : (size at : ℕ) (old new : List ℕ) → is_map_at size new at ≡ is_map_at size old at → standing_map (asked size at new) ≡ standing_map (asked size at old) → flash_map (asked size at new) ≡ flash_map (asked size at old)
unfolding flash_map
same_map size at old new stands standing =
    ap (λ (o : Option MapFault). map_from o (areas_in (standing_map (asked size at new)).rows))
    (ap (λ (b : Bool). found_at size b (standing_map (asked size at new))) stands ∙ ap (found_at size (is_map_at size old at)) standing)
    ∙ ap (λ (s : StandingMap). map_from (first_fault map_lines (asked size at old)) (areas_in s.rows)) standing

pub stays_beside : StaysBeside
stays_beside size at map old new is same =
    let apart : IsApart at (count_of (head_at old at)) map = (good_map (asked size at old) map is).1 in
    let from : ℕ = map.nvram.at in
    let head : head_at new at ≡ head_at old at = part_beside from 8192 at (56 + 42 * count_of (head_at old at)) at 56 old new apart.rows (omega arith) (omega arith) same in
    let rows : range new (at + 56) (42 * count_of (head_at old at)) ≡ range old (at + 56) (42 * count_of (head_at old at)) =
    part_beside from 8192 at (56 + 42 * count_of (head_at old at)) (at + 56) (42 * count_of (head_at old at)) old new apart.rows (omega arith) (omega arith) same in
    record {
      map_stays = same_map size at old new (ap (λ (h : List ℕ). nat_le (at + 56) size && is_map_head size at h) head) (same_standing size at old new head rows);
      gbb = range_beside from 8192 map.gbb.at map.gbb.size old new apart.gbb same;
      vblock_a = range_beside from 8192 map.vblock_a.at map.vblock_a.size old new apart.vblock_a same;
      main_a = range_beside from 8192 map.main_a.at map.main_a.size old new apart.main_a same;
      vblock_b = range_beside from 8192 map.vblock_b.at map.vblock_b.size old new apart.vblock_b same;
      main_b = range_beside from 8192 map.main_b.at map.main_b.size old new apart.main_b same;
    }
