-- The flash of a generated machine: what stands where.
-- Source: `struct fmap` and `struct fmap_area` of the flashmap library (lib/fmap.h), and `struct vb2_gbb_header` of
-- vboot_reference (firmware/2lib/include/2struct.h); which areas and keys there are, and where, is the project's own. The
-- page of nvdata is the project's own too: a head of generation 0, and one cell with a record of `2nvstorage.h`.
use Rattle.std.specs.Prelude.{ℕ, ◌-◌, List, [], ◌∷◌, ◌++◌, length, replicate, codes}
use Rattle.sha2.specs.Sha256.{sha256}
use Rattle.board_core.specs.Flash.{spliced}
use Rattle.make_core.specs.Fill.{fill}
use Rattle.make_core.specs.Firmware.{words, key_head, vblock, body, slot_a, slot_b}

-- a name of 32 bytes, with zeros behind its text
abbrev pub name_field : List ℕ → List ℕ
name_field text = text ++ replicate (32 - length text) 0

-- the row of an area: its place, its size, its name, and flags 0
abbrev pub area_row : ℕ → ℕ → List ℕ → List ℕ
area_row at size name = words (at ∷ size ∷ []) ++ name_field name ++ replicate 2 0

-- the head of the map: version 1.1, a base address of 0 in eight bytes, the size of the flash, the map's name, six areas
abbrev pub map_head : List ℕ
map_head = codes "__FMAP__" ++ (1 ∷ 1 ∷ []) ++ words (0 ∷ 0 ∷ 1048576 ∷ []) ++ name_field (codes "FMAP") ++ (6 ∷ 0 ∷ [])

-- the map of the flash
unfoldable pub flash_map : List ℕ
flash_map =
    map_head
    ++ area_row 8192 16384 (codes "GBB")
    ++ area_row 32768 8192 (codes "RW_NVRAM")
    ++ area_row 65536 65536 (codes "VBLOCK_A")
    ++ area_row 131072 131072 (codes "FW_MAIN_A")
    ++ area_row 262144 65536 (codes "VBLOCK_B")
    ++ area_row 327680 131072 (codes "FW_MAIN_B")

abbrev pub hwid : List ℕ
hwid = codes "DEMO TEST 1234"

-- the head of the GBB: version 1.2; size and flags; then place and size of the HWID, the root key, the bitmap block and
-- the recovery key, from the GBB's start; the digest of the HWID, and padding
abbrev pub gbb_head : List ℕ
gbb_head =
    codes "$GBB" ++ (1 ∷ 0 ∷ 2 ∷ 0 ∷ []) ++ words (128 ∷ 0 ∷ 128 ∷ 16 ∷ 144 ∷ 552 ∷ 1248 ∷ 0 ∷ 696 ∷ 552 ∷ [])
    ++ sha256 hwid ++ replicate 48 0

-- a packed key of this tag
abbrev pub packed_key : ℕ → ℕ → List ℕ
packed_key number tag = words (key_head 32) ++ fill number tag 520

-- the GBB: its head, the HWID and two NULs, the root key (tag 1) and the recovery key (tag 2)
unfoldable pub gbb : ℕ → List ℕ
gbb number = gbb_head ++ hwid ++ (0 ∷ 0 ∷ []) ++ packed_key number 1 ++ packed_key number 2

-- what stands first in a page of nvdata: a head of generation 0, and a cell whose record says that slot A was tried with
-- success
abbrev pub nv_page : List ℕ
nv_page =
    78 ∷ 86 ∷ 80 ∷ 71 ∷ 0 ∷ 0 ∷ 0 ∷ 0 ∷ 0 ∷ 0 ∷ 0 ∷ 0 ∷ 0 ∷ 0 ∷ 0 ∷ 119
    ∷ 64 ∷ 0 ∷ 0 ∷ 0 ∷ 0 ∷ 0 ∷ 0 ∷ 2 ∷ 0 ∷ 0 ∷ 0 ∷ 0 ∷ 0 ∷ 0 ∷ 0 ∷ 165 ∷ []

-- ---- the whole

-- bytes after an erase
unfoldable pub erased : ℕ → List ℕ
erased count = replicate count 255

-- A part of an image: where it begins, and its bytes.
pub record Part : Type 0 where
  pub at : ℕ
  pub bytes : List ℕ

abbrev pub part : ℕ → List ℕ → Part
part at bytes = record { at = at; bytes = bytes }

-- the bytes with each part in its place
abbrev pub with_parts : List Part → List ℕ → List ℕ
with_parts [] bytes = bytes
with_parts (p ∷ parts) bytes = spliced (with_parts parts bytes) p.at p.bytes

-- the parts of the flash, in the order of their places
abbrev pub flash_parts : ℕ → List Part
flash_parts number =
    part 4096 flash_map
    ∷ part 8192 (gbb number)
    ∷ part 32768 nv_page
    ∷ part 65536 (vblock number slot_a)
    ∷ part 131072 (body number slot_a)
    ∷ part 262144 (vblock number slot_b)
    ∷ part 327680 (body number slot_b)
    ∷ []

-- the flash: each part in its place, and 0xff elsewhere
unfoldable pub machine_flash : ℕ → List ℕ
machine_flash number = with_parts (flash_parts number) (erased 1048576)

-- a page that begins with these bytes
abbrev pub padded_page : List ℕ → List ℕ
padded_page bytes = bytes ++ erased (4096 - length bytes)
