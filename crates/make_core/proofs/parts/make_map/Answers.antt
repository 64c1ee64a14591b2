use Rattle.std.proofs.Common.{refl, arith}
use Rattle.std.specs.Prelude.{codes}
use Rattle.make_core.proofs.Fronts.{begins_none, begins_as, begins_whole}
use Rattle.make_core.specs.Layout.{flash_map}
use Rattle.make_core.proofs.Sizes.{length-map_head, length-area_row}
use Rattle.make_core.proofs.parts.make_map.Goals as goal

pub returns : goal.returns
unfolding flash_map
returns c =
    begins_whole 308 _ _
    (begins_as 308 266 42 _ _ _ _ _
    (begins_as 308 224 42 _ _ _ _ _
    (begins_as 308 182 42 _ _ _ _ _
    (begins_as 308 140 42 _ _ _ _ _
    (begins_as 308 98 42 _ _ _ _ _
    (begins_as 308 56 42 _ _ _ _ _
    (begins_as 308 0 56 _ _ _ _ _
    (begins_none 308 _ refl)
    c.put_bytes.ensures c.make_map_head.ensures length-map_head (omega arith))
    c.put_bytes-2.ensures c.make_area_row.ensures (length-area_row 8192 16384 (codes "GBB") (omega arith)) (omega arith))
    c.put_bytes-3.ensures c.make_area_row-2.ensures (length-area_row 32768 8192 (codes "RW_NVRAM") (omega arith)) (omega arith))
    c.put_bytes-4.ensures c.make_area_row-3.ensures (length-area_row 65536 65536 (codes "VBLOCK_A") (omega arith)) (omega arith))
    c.put_bytes-5.ensures c.make_area_row-4.ensures (length-area_row 131072 131072 (codes "FW_MAIN_A") (omega arith)) (omega arith))
    c.put_bytes-6.ensures c.make_area_row-5.ensures (length-area_row 262144 65536 (codes "VBLOCK_B") (omega arith)) (omega arith))
    c.put_bytes-7.ensures c.make_area_row-6.ensures (length-area_row 327680 131072 (codes "FW_MAIN_B") (omega arith)) (omega arith))
