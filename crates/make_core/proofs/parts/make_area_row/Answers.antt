use Rattle.std.proofs.Common.{refl, arith}
use Rattle.make_core.proofs.Fronts.{begins_none, begins_more, begins_as, begins_whole}
use Rattle.make_core.proofs.Sizes.{length-words, length-name_field}
use Rattle.make_core.proofs.parts.make_area_row.Goals as goal

pub returns : goal.returns
returns c =
    begins_whole 42 _ _
    (begins_more 42 40 2 _ _ _ _
    (begins_as 42 8 32 _ _ _ _ _
    (begins_more 42 0 8 _ _ _ _
    (begins_none 42 _ refl)
    c.put_words.ensures (length-words _) (omega arith))
    c.put_bytes.ensures c.make_name.ensures (length-name_field _ c.requires) (omega arith))
    c.put_bytes-2.ensures refl (omega arith))
