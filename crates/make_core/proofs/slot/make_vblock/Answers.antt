use Rattle.std.proofs.Common.{refl, arith}
use Rattle.make_core.proofs.Fronts.{begins_none, begins_as, begins_whole}
use Rattle.make_core.specs.Firmware.{vblock}
use Rattle.make_core.proofs.Sizes.{length-keyblock, length-preamble}
use Rattle.make_core.proofs.slot.make_vblock.Goals as goal

pub returns : goal.returns
unfolding vblock
returns c =
    begins_whole 2092 _ _
    (begins_as 2092 952 1140 _ _ _ _ _
    (begins_as 2092 0 952 _ _ _ _ _
    (begins_none 2092 _ refl)
    c.put_bytes.ensures c.make_keyblock-keyblock.ensures (length-keyblock _ _ _ _) (omega arith))
    c.put_bytes-2.ensures c.make_preamble-preamble.ensures (length-preamble _ _ _) (omega arith))
