use Rattle.std.proofs.Common.{refl, arith}
use Rattle.make_core.proofs.Fronts.{begins_none, begins_more, begins_as, begins_whole}
use Rattle.make_core.specs.Layout.{gbb}
use Rattle.make_core.proofs.Sizes.{length-gbb_head, length-packed_key}
use Rattle.make_core.proofs.parts.make_gbb.Goals as goal

pub returns : goal.returns
unfolding gbb
returns c =
    begins_whole 1248 _ _
    (begins_as 1248 696 552 _ _ _ _ _
    (begins_as 1248 144 552 _ _ _ _ _
    (begins_more 1248 142 2 _ _ _ _
    (begins_more 1248 128 14 _ _ _ _
    (begins_as 1248 0 128 _ _ _ _ _
    (begins_none 1248 _ refl)
    c.put_bytes.ensures c.make_gbb_head.ensures length-gbb_head (omega arith))
    c.put_bytes-2.ensures refl (omega arith))
    c.put_bytes-3.ensures refl (omega arith))
    c.put_bytes-4.ensures c.make_packed_key.ensures (length-packed_key _ _) (omega arith))
    c.put_bytes-5.ensures c.make_packed_key-2.ensures (length-packed_key _ _) (omega arith))
