use Rattle.std.proofs.Common.{refl, arith}
use Rattle.make_core.proofs.Fronts.{begins_none, begins_more, begins_whole}
use Rattle.make_core.proofs.Fills.{length-fill_from}
use Rattle.make_core.proofs.Sizes.{length-words}
use Rattle.make_core.proofs.parts.make_packed_key.Goals as goal

pub returns : goal.returns
returns c =
    begins_whole 552 _ _
    (begins_more 552 32 520 _ _ _ _
    (begins_more 552 0 32 _ _ _ _
    (begins_none 552 _ refl)
    c.put_words.ensures (length-words _) (omega arith))
    c.put_fill.ensures (length-fill_from _ _ _ _) (omega arith))
