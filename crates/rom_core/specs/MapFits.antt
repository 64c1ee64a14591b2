-- What a caller may rely on of the areas of a map without a fault, whatever the flash tells.
use Rattle.std.specs.Prelude.{◌≡◌, ◌⊎◌, ℕ, ◌+◌, ◌*◌, ◌%◌, ◌≤◌, ◌<◌}
use Rattle.rom_core.specs.declared.area.Area.{Area}
use Rattle.rom_core.specs.declared.map.Map.{Map}

-- it has a byte, and all of its bytes lie in a flash of this size
pub record IsIn (size : ℕ) (area : Area) : Type 0 where
  pub some : 0 < area.size
  pub inside : area.at + area.size ≤ size

-- The areas of a map lie in a flash of this size, and each has the size and the place that its use wants.
pub record FitsFlash (size : ℕ) (map : Map) : Type 0 where
  pub gbb : IsIn size map.gbb
  pub nvram : IsIn size map.nvram
  pub vblock_a : IsIn size map.vblock_a
  pub main_a : IsIn size map.main_a
  pub vblock_b : IsIn size map.vblock_b
  pub main_b : IsIn size map.main_b
  -- nvdata has at least two whole pages
  pub nvram_page : map.nvram.at % 4096 ≡ 0
  pub nvram_size : 8192 ≤ map.nvram.size
  pub vblock_a_size : map.vblock_a.size ≤ 65536
  pub vblock_b_size : map.vblock_b.size ≤ 65536
  pub main_a_size : map.main_a.size ≤ 16777216
  pub main_b_size : map.main_b.size ≤ 16777216

-- two ranges of bytes, each by its place and its length, have no byte in common
abbrev pub AreApart : (at count at' count' : ℕ) → Type 0
AreApart at count at' count' = (at + count ≤ at') ⊎ (at' + count' ≤ at)

abbrev pub IsBesideNvdata : Map → Area → Type 0
IsBesideNvdata map area = AreApart map.nvram.at 8192 area.at area.size

-- The two pages of nvdata have no byte in common with the head and the rows of the map, with the GBB or with another area, so
-- that storing a record changes none of them.
pub record IsApart (at count : ℕ) (map : Map) : Type 0 where
  pub rows : AreApart map.nvram.at 8192 at (56 + 42 * count)
  pub gbb : IsBesideNvdata map map.gbb
  pub vblock_a : IsBesideNvdata map map.vblock_a
  pub main_a : IsBesideNvdata map map.main_a
  pub vblock_b : IsBesideNvdata map map.vblock_b
  pub main_b : IsBesideNvdata map map.main_b
