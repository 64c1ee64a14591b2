use Rattle.std.proofs.Common.{refl, arith}
use Rattle.make_core.proofs.Fronts.{begins_none, begins_more, begins_as, begins_whole}
use Rattle.make_core.proofs.Sizes.{length-words}
use Rattle.make_core.proofs.parts.make_map_head.Goals as goal

pub returns : goal.returns
returns c =
    begins_whole 56 _ _
    (begins_more 56 54 2 _ _ _ _
    (begins_as 56 22 32 _ _ _ _ _
    (begins_more 56 10 12 _ _ _ _
    (begins_more 56 8 2 _ _ _ _
    (begins_more 56 0 8 _ _ _ _
    (begins_none 56 _ refl)
    c.put_bytes.ensures refl (omega arith))
    c.put_bytes-2.ensures refl (omega arith))
    c.put_words.ensures (length-words _) (omega arith))
    c.put_bytes-3.ensures c.make_name.ensures refl (omega arith))
    c.put_bytes-4.ensures refl (omega arith))
