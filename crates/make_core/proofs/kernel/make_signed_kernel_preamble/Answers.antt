use Rattle.std.proofs.Common.{ℕ, refl, arith, ap}
use Rattle.make_core.proofs.Fronts.{begins_none, begins_more, begins_as, begins_whole}
use Rattle.make_core.proofs.Fills.{length-fill_from}
use Rattle.make_core.specs.Firmware.{words}
use Rattle.make_core.specs.Kernel.{kernel_preamble_head, signed_kernel_preamble}
use Rattle.make_core.proofs.Sizes.{length-words}
use Rattle.make_core.proofs.kernel.make_signed_kernel_preamble.Goals as goal

pub returns : goal.returns
unfolding signed_kernel_preamble
returns c =
    begins_whole 372 _ _
    (begins_more 372 116 256 _ _ _ _
    (begins_as 372 0 116 _ _ _ _ _
    (begins_none 372 _ refl)
    c.put_words.ensures (ap (λ (n : ℕ). words (kernel_preamble_head c.args.version n)) c.kernel_body_size.ensures) (length-words _) (omega arith))
    c.put_fill.ensures (length-fill_from _ _ _ _) (omega arith))
