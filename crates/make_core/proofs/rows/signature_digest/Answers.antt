use Rattle.std.proofs.Common.{refl, arith, ap, ◌∙◌}
use Rattle.sha2.specs.Sha256.{sha256}
use Rattle.make_core.proofs.Fills.{length-fill_from}
use Rattle.make_core.proofs.Fronts.{begins_none, begins_more, begins_whole}
use Rattle.make_core.proofs.rows.signature_digest.Goals as goal

pub returns : goal.returns
returns c = c.digest.ensures ∙ ap sha256 (begins_whole 256 _ _ (begins_more 256 0 256 _ _ _ _ (begins_none 256 _ refl) c.put_fill.ensures (length-fill_from _ _ _ _) (omega arith)))
