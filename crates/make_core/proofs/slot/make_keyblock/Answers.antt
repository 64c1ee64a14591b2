use Rattle.std.proofs.Common.{refl, arith, ap, ◌∙◌}
use Rattle.make_core.proofs.Fronts.{begins_none, begins_more, begins_as, begins_whole}
use Rattle.make_core.proofs.Fills.{length-fill_from}
use Rattle.sha2.specs.Sha512.{sha512}
use Rattle.sha2.proofs.Facts512.{length-sha512}
use Rattle.make_core.specs.Firmware.{keyblock}
use Rattle.make_core.proofs.Sizes.{length-signed_keyblock}
use Rattle.make_core.proofs.slot.make_keyblock.Goals as goal

pub returns : goal.returns
unfolding keyblock
returns c =
    begins_whole 952 _ _
    (begins_more 952 696 256 _ _ _ _
    (begins_as 952 632 64 _ _ _ _ _
    (begins_as 952 0 632 _ _ _ _ _
    (begins_none 952 _ refl)
    c.put_bytes.ensures c.make_signed_keyblock-signed.ensures (length-signed_keyblock _ _ _) (omega arith))
    c.put_bytes-2.ensures (c.digest-hash.ensures ∙ ap sha512 c.make_signed_keyblock-signed.ensures) (length-sha512 _) (omega arith))
    c.put_fill.ensures (length-fill_from _ _ _ _) (omega arith))
