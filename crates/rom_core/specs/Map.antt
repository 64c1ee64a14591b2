-- The flash map: where it stands, the areas that its rows name, and its fault table.
-- Source: `struct fmap` and `struct fmap_area` of the flashmap library (lib/fmap.h). The places at which a map is looked for,
-- the choice of the six areas, all limits and the order of the lines are this project's own.
use Rattle.std.specs.Prelude.{ℕ, zero, suc, ◌+◌, ◌*◌, ◌/◌, ◌%◌, Bool, false, not, ◌&&◌, ◌||◌, nat_lt, nat_le, nat_eq, ◌==◌, List, [], ◌∷◌, length, map, take, drop, codes, slice_index, Option, Some, is_none, option_map, option_and_then, find, bytes_eq}
use Rattle.std.specs.List.{list_any, starts_with, before_first}
use Rattle.std.specs.Option.{option_map_or}
use Rattle.wire_core.specs.Fields.{number_at}
use Rattle.wire_core.specs.FirstFault.{Line, Table, line}
use Rattle.board_core.specs.Flash.{range}
use Rattle.rom_core.specs.declared.area.Area.{Area}
use Rattle.rom_core.specs.declared.map.Map.{Map}
use Rattle.rom_core.specs.declared.fault.MapFault.{MapFault}
use Rattle.rom_core.specs.declared.fault.MapFault.TheVariants as faults

-- ---- the head

abbrev pub count_of : List ℕ → ℕ
count_of head = number_at 2 head 54

-- These 56 bytes are the head of a map at a place of a flash of this size: the magic and the one major version, and at most
-- 128 rows behind it, which end in the flash.
abbrev pub is_map_head : (size at : ℕ) → List ℕ → Bool
is_map_head size at head =
    starts_with nat_eq head (codes "__FMAP__")
    && slice_index head 8 == 1
    && nat_le (count_of head) 128
    && nat_le (at + 56 + 42 * count_of head) size

abbrev pub head_at : List ℕ → ℕ → List ℕ
head_at bytes at = range bytes at 56

-- a map stands at a place of a flash of this size
abbrev pub is_map_at : (size : ℕ) → List ℕ → ℕ → Bool
is_map_at size bytes at = nat_le (at + 56) size && is_map_head size at (head_at bytes at)

-- ---- the rows

-- a row of a map
pub record Row : Type 0 where
  pub name : List ℕ
  pub area : Area

-- the row in these 42 bytes: its name ends before the first NUL
abbrev pub row_of : List ℕ → Row
row_of bytes = record {
  name = before_first (λ byte. byte == 0) (range bytes 8 32);
  area = record { at = number_at 4 bytes 0; size = number_at 4 bytes 4 };
}

-- so many rows, one after the other
unfoldable pub rows_in : ℕ → List ℕ → List Row
rows_in zero bytes = []
rows_in (suc count) bytes = row_of (take 42 bytes) ∷ rows_in count (drop 42 bytes)

-- the area of the first row of this name
abbrev pub area_named : List ℕ → List Row → Option Area
area_named name rows = option_map (λ row. row.area) (find (λ row. bytes_eq row.name name) rows)

infixl 10 ◌>>=◌
abbrev ◌>>=◌ : {A B : Type 0} → Option A → (A → Option B) → Option B
o >>= f = option_and_then f o

-- the six areas of a boot, where each is there
abbrev pub areas_in : List Row → Option Map
areas_in rows = do
  gbb ← area_named (codes "GBB") rows
  nvram ← area_named (codes "RW_NVRAM") rows
  vblock_a ← area_named (codes "VBLOCK_A") rows
  main_a ← area_named (codes "FW_MAIN_A") rows
  vblock_b ← area_named (codes "VBLOCK_B") rows
  main_b ← area_named (codes "FW_MAIN_B") rows
  Some (record { gbb = gbb; nvram = nvram; vblock_a = vblock_a; main_a = main_a; vblock_b = vblock_b; main_b = main_b })

-- ---- areas

-- it has no byte, or one that is not in the flash
abbrev pub is_outside : (size : ℕ) → Area → Bool
is_outside size area = area.size == 0 || nat_lt size (area.at + area.size)

-- the page of its first byte
abbrev pub first_page : Area → ℕ
first_page area = area.at / 4096

-- the first page behind it
abbrev pub end_page : Area → ℕ
end_page area = (area.at + area.size + 4095) / 4096

-- there is a page in which both have bytes
abbrev pub share_page : Area → Area → Bool
share_page a b = nat_lt (first_page a) (end_page b) && nat_lt (first_page b) (end_page a)

-- two of them do
abbrev pub any_share : List Area → Bool
any_share [] = false
any_share (area ∷ areas) = list_any (share_page area) areas || any_share areas

-- the areas that are written
abbrev pub written_areas : Map → List Area
written_areas areas = areas.nvram ∷ areas.vblock_a ∷ areas.main_a ∷ areas.vblock_b ∷ areas.main_b ∷ []

-- the head of a map and its rows
abbrev pub map_area : (at count : ℕ) → Area
map_area at count = record { at = at; size = 56 + 42 * count }

-- ---- what can be wrong with the six areas

-- one of them has no byte, or one that is not in the flash
abbrev pub any_outside : (size : ℕ) → Map → Bool
any_outside size areas = list_any (is_outside size) (areas.gbb ∷ written_areas areas)

abbrev pub any_too_large : Map → Bool
any_too_large areas =
    nat_lt 65536 areas.vblock_a.size || nat_lt 65536 areas.vblock_b.size || nat_lt 16777216 areas.main_a.size
    || nat_lt 16777216 areas.main_b.size

-- nvdata does not begin at a page, or has not two of them
abbrev pub is_misshapen : Map → Bool
is_misshapen areas = not (areas.nvram.at % 4096 == 0) || nat_lt areas.nvram.size 8192

-- an area that is written shares a page with the map, with the GBB or with another one
abbrev pub any_overlap : (map : Area) → Map → Bool
any_overlap map areas = list_any (share_page map) (written_areas areas) || any_share (areas.gbb ∷ written_areas areas)

-- ---- the fault table

-- what is asked of a map that stands: the size of its flash, its place and its rows
pub record StandingMap : Type 0 where
  pub size : ℕ
  pub at : ℕ
  pub rows : List Row

-- a test of its six areas
abbrev of_areas : (StandingMap → Map → Bool) → StandingMap → Bool
of_areas test standing = option_map_or (test standing) (areas_in standing.rows) false

-- lines 3 to 7 of the map table
abbrev pub area_lines : Table StandingMap MapFault
area_lines =
    line faults.MissingArea (λ standing. is_none (areas_in standing.rows))
    ∷ line faults.AreaOutside (of_areas (λ standing. any_outside standing.size))
    ∷ line faults.AreaTooLarge (of_areas (λ standing. any_too_large))
    ∷ line faults.AreaShape (of_areas (λ standing. is_misshapen))
    ∷ line faults.AreaOverlap (of_areas (λ standing. any_overlap (map_area standing.at (length standing.rows))))
    ∷ []

-- what is asked of a flash: its size, its bytes, and the place of its map
pub record MapQuestion : Type 0 where
  pub size : ℕ
  pub bytes : List ℕ
  pub at : ℕ

abbrev pub standing_map : MapQuestion → StandingMap
standing_map asked =
    let count : ℕ = count_of (head_at asked.bytes asked.at) in
    record { size = asked.size; at = asked.at; rows = rows_in count (range asked.bytes (asked.at + 56) (42 * count)) }

abbrev asks_standing : Line StandingMap MapFault → Line MapQuestion MapFault
asks_standing l = line l.fault (λ asked. l.test (standing_map asked))

-- the map table
abbrev pub map_lines : Table MapQuestion MapFault
map_lines =
    line faults.FlashSize (λ asked. not (asked.size % 4096 == 0) || nat_lt 33554432 asked.size)
    ∷ line faults.NoMap (λ asked. not (is_map_at asked.size asked.bytes asked.at))
    ∷ map asks_standing area_lines
