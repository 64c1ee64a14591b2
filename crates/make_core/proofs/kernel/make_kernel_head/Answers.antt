use Rattle.std.proofs.Common.{refl, arith}
use Rattle.make_core.proofs.Fronts.{begins_none, begins_more, begins_as, begins_whole}
use Rattle.make_core.proofs.Fills.{length-fill_from}
use Rattle.make_core.specs.Kernel.{kernel_head}
use Rattle.make_core.proofs.Sizes.{length-keyblock}
use Rattle.make_core.proofs.KernelSizes.{length-signed_kernel_preamble}
use Rattle.make_core.proofs.kernel.make_kernel_head.Goals as goal

pub returns : goal.returns
unfolding kernel_head
returns c =
    begins_whole 1580 _ _
    (begins_more 1580 1324 256 _ _ _ _
    (begins_as 1580 952 372 _ _ _ _ _
    (begins_as 1580 0 952 _ _ _ _ _
    (begins_none 1580 _ refl)
    c.put_bytes.ensures c.make_keyblock-keyblock.ensures (length-keyblock _ _ _ _) (omega arith))
    c.put_bytes-2.ensures c.make_signed_kernel_preamble-signed.ensures (length-signed_kernel_preamble _ _ _) (omega arith))
    c.put_fill.ensures (length-fill_from _ _ _ _) (omega arith))
