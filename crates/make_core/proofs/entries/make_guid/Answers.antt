use Rattle.std.proofs.Common.{List, ℕ, get_or, refl, ap, arith}
use Rattle.make_core.specs.Fill.{fill_from}
use Rattle.make_core.specs.Table.{guid, stored_guid}
use Rattle.make_core.proofs.Fills.{length-fill_from}
use Rattle.make_core.proofs.Fronts.{begins_none, begins_more, begins_whole}
use Rattle.make_core.proofs.entries.make_guid.Goals as goal

pub returns : goal.returns
unfolding guid fill_from
returns c =
    ap (λ (l : List ℕ). stored_guid (λ (i : ℕ). get_or l i 0))
    (begins_whole 16 _ _ (begins_more 16 0 16 _ _ _ _ (begins_none 16 _ refl) c.put_fill.ensures (length-fill_from c.args.number c.args.tag 0 16) (omega arith)))
