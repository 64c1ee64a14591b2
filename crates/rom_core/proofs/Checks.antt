-- The definitions against rows from outside: the map of a flash of 1,048,576 bytes, at 4,096, and a small GBB.
use Rattle.std.proofs.Common.{◌≡◌, refl, List, ℕ, ◌-◌, ◌∷◌, [], ◌++◌, replicate, take, length, true, Some, None}
use Rattle.std.specs.Prelude.{codes}
use Rattle.wire_core.specs.FirstFault.{first_fault}
use Rattle.rom_core.specs.declared.fault.MapFault.TheVariants as faults
use Rattle.key_core.specs.Algorithms.{padded}
use Rattle.rom_core.specs.declared.fault.GbbFault.TheVariants as gbb_faults
use Rattle.rom_core.specs.Gbb.{gbb_lines, gbb_in}
use Rattle.rom_core.specs.Map.{is_map_head, rows_in, areas_in, area_lines}

-- the row of an area: its place, its size, its name and its flags
row : List ℕ → List ℕ → List ℕ → List ℕ
row at size name = at ++ size ++ name ++ replicate (32 - length name) 0 ++ 0 ∷ 0 ∷ []

head : List ℕ
head = codes "__FMAP__" ++ 1 ∷ 1 ∷ replicate 8 0 ++ 0 ∷ 0 ∷ 16 ∷ 0 ∷ codes "FMAP" ++ replicate 28 0 ++ 6 ∷ 0 ∷ []

rows : List ℕ
rows =
    row (0 ∷ 32 ∷ 0 ∷ 0 ∷ []) (0 ∷ 64 ∷ 0 ∷ 0 ∷ []) (codes "GBB")
    ++ row (0 ∷ 128 ∷ 0 ∷ 0 ∷ []) (0 ∷ 32 ∷ 0 ∷ 0 ∷ []) (codes "RW_NVRAM")
    ++ row (0 ∷ 0 ∷ 1 ∷ 0 ∷ []) (0 ∷ 0 ∷ 1 ∷ 0 ∷ []) (codes "VBLOCK_A")
    ++ row (0 ∷ 0 ∷ 2 ∷ 0 ∷ []) (0 ∷ 0 ∷ 2 ∷ 0 ∷ []) (codes "FW_MAIN_A")
    ++ row (0 ∷ 0 ∷ 4 ∷ 0 ∷ []) (0 ∷ 0 ∷ 1 ∷ 0 ∷ []) (codes "VBLOCK_B")
    ++ row (0 ∷ 0 ∷ 5 ∷ 0 ∷ []) (0 ∷ 0 ∷ 2 ∷ 0 ∷ []) (codes "FW_MAIN_B")

head_passes : is_map_head 1048576 4096 head ≡ true
unfolding head
head_passes = refl

its_areas : areas_in (rows_in 6 rows) ≡ Some (record {
  gbb = record { at = 8192; size = 16384 };
  nvram = record { at = 32768; size = 8192 };
  vblock_a = record { at = 65536; size = 65536 };
  main_a = record { at = 131072; size = 131072 };
  vblock_b = record { at = 262144; size = 65536 };
  main_b = record { at = 327680; size = 131072 };
})
unfolding rows_in rows row
its_areas = refl

no_fault : first_fault area_lines (record { size = 1048576; at = 4096; rows = rows_in 6 rows }) ≡ None
unfolding rows_in rows row
no_fault = refl

-- in a flash that ends a page before the last area does
outside : first_fault area_lines (record { size = 454656; at = 4096; rows = rows_in 6 rows }) ≡ Some faults.AreaOutside
unfolding rows_in rows row
outside = refl

-- a row less
missing : first_fault area_lines (record { size = 1048576; at = 4096; rows = rows_in 5 rows }) ≡ Some faults.MissingArea
unfolding rows_in rows row
missing = refl

-- the map in a page of the nvdata
overlap : first_fault area_lines (record { size = 1048576; at = 36864; rows = rows_in 6 rows }) ≡ Some faults.AreaOverlap
unfolding rows_in rows row
overlap = refl

-- ---- a GBB of 208 bytes, of which the keys have no bytes

-- a u32 under 256
small : ℕ → List ℕ
small n = n ∷ 0 ∷ 0 ∷ 0 ∷ []

gbb_head : ℕ → ℕ → List ℕ
gbb_head minor recovery_size =
    codes "$GBB" ++ 1 ∷ 0 ∷ minor ∷ 0 ∷ small 128 ++ small 0x39 ++ small 128 ++ small 16 ++ small 144 ++ small 32 ++ small 0 ++ small 0 ++ small 176 ++ small recovery_size ++ replicate 80 0

-- a packed key with algorithm 4
gbb_key : ℕ → List ℕ
gbb_key version = small 32 ++ replicate 12 0 ++ small 4 ++ replicate 4 0 ++ small version ++ replicate 4 0

gbb : ℕ → ℕ → List ℕ
gbb minor recovery_size = gbb_head minor recovery_size ++ codes "DEMO TEST 1234" ++ 0 ∷ 0 ∷ gbb_key 1 ++ gbb_key 2

gbb_without_fault : first_fault gbb_lines (gbb 2 32) ≡ None
unfolding gbb gbb_head gbb_key small
gbb_without_fault = refl

its_flags : (gbb_in (gbb 2 32)).flags ≡ 0x39
unfolding gbb gbb_head gbb_key small
its_flags = refl

its_hwid : take 18 (gbb_in (gbb 2 32)).hwid ≡ codes "DEMO TEST 1234" ++ replicate 4 0
unfolding gbb gbb_head gbb_key small padded
its_hwid = refl

its_versions : ((gbb_in (gbb 2 32)).root.version ≡ 1) × ((gbb_in (gbb 2 32)).recovery.version ≡ 2)
unfolding gbb gbb_head gbb_key small
its_versions = (refl, refl)

minor_1 : first_fault gbb_lines (gbb 1 32) ≡ Some gbb_faults.Version
unfolding gbb gbb_head gbb_key small
minor_1 = refl

-- the range of the recovery key ends a byte behind the area
past_the_area : first_fault gbb_lines (gbb 2 33) ≡ Some gbb_faults.Outside
unfolding gbb gbb_head gbb_key small
past_the_area = refl

-- the area ends a byte before the range does
cut_short : first_fault gbb_lines (take 207 (gbb 2 32)) ≡ Some gbb_faults.Outside
unfolding gbb gbb_head gbb_key small
cut_short = refl
