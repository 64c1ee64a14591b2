use Rattle.std.proofs.Common.{ℕ, refl, arith, ap}
use Rattle.make_core.proofs.Fronts.{begins_none, begins_more, begins_as, begins_whole}
use Rattle.make_core.proofs.Fills.{length-fill_from}
use Rattle.make_core.specs.Firmware.{words, preamble_head, signed_preamble}
use Rattle.make_core.proofs.Sizes.{length-words}
use Rattle.make_core.proofs.slot.make_signed_preamble.Goals as goal

pub returns : goal.returns
unfolding signed_preamble
returns c =
    begins_whole 884 _ _
    (begins_more 884 628 256 _ _ _ _
    (begins_more 884 108 520 _ _ _ _
    (begins_as 884 0 108 _ _ _ _ _
    (begins_none 884 _ refl)
    c.put_words.ensures (ap (λ (n : ℕ). words (preamble_head c.args.number n)) c.body_size.ensures) (length-words _) (omega arith))
    c.put_fill.ensures (length-fill_from _ _ _ _) (omega arith))
    c.put_fill-2.ensures (length-fill_from _ _ _ _) (omega arith))
