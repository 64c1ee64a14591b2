use Rattle.std.proofs.Common.{refl, arith}
use Rattle.make_core.proofs.Fronts.{begins_none, begins_more, begins_as, begins_whole}
use Rattle.make_core.proofs.Fills.{length-fill_from}
use Rattle.make_core.specs.Firmware.{preamble}
use Rattle.make_core.proofs.Sizes.{length-signed_preamble}
use Rattle.make_core.proofs.slot.make_preamble.Goals as goal

pub returns : goal.returns
unfolding preamble
returns c =
    begins_whole 1140 _ _
    (begins_more 1140 884 256 _ _ _ _
    (begins_as 1140 0 884 _ _ _ _ _
    (begins_none 1140 _ refl)
    c.put_bytes.ensures c.make_signed_preamble.ensures (length-signed_preamble _ _) (omega arith))
    c.put_fill.ensures (length-fill_from _ _ _ _) (omega arith))
