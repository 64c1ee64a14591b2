use Rattle.std.proofs.Common.{refl, arith}
use Rattle.make_core.proofs.Fronts.{begins_none, begins_more, begins_as, begins_whole}
use Rattle.sha2.proofs.Facts256.{length-sha256}
use Rattle.make_core.proofs.Sizes.{length-words}
use Rattle.make_core.proofs.parts.make_gbb_head.Goals as goal

pub returns : goal.returns
returns c =
    begins_whole 128 _ _
    (begins_more 128 80 48 _ _ _ _
    (begins_as 128 48 32 _ _ _ _ _
    (begins_more 128 8 40 _ _ _ _
    (begins_more 128 4 4 _ _ _ _
    (begins_more 128 0 4 _ _ _ _
    (begins_none 128 _ refl)
    c.put_bytes.ensures refl (omega arith))
    c.put_bytes-2.ensures refl (omega arith))
    c.put_words.ensures (length-words _) (omega arith))
    c.put_bytes-3.ensures c.digest-digest.ensures (length-sha256 _) (omega arith))
    c.put_bytes-4.ensures refl (omega arith))
