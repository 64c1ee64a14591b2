use Rattle.std.proofs.Common.{refl, arith}
use Rattle.make_core.proofs.Fronts.{begins_none, begins_more, begins_whole}
use Rattle.make_core.proofs.Fills.{length-fill_from}
use Rattle.make_core.specs.Firmware.{signed_keyblock}
use Rattle.make_core.proofs.Sizes.{length-words}
use Rattle.make_core.proofs.slot.make_signed_keyblock.Goals as goal

pub returns : goal.returns
unfolding signed_keyblock
returns c =
    begins_whole 632 _ _
    (begins_more 632 112 520 _ _ _ _
    (begins_more 632 8 104 _ _ _ _
    (begins_more 632 0 8 _ _ _ _
    (begins_none 632 _ refl)
    c.put_bytes.ensures refl (omega arith))
    c.put_words.ensures (length-words _) (omega arith))
    c.put_fill.ensures (length-fill_from _ _ _ _) (omega arith))
