-- The bytes of a key that has room are the first of its copy.
use Rattle.std.proofs.Common.{length, take, ap, ◌∙◌}
use Rattle.key_core.specs.Algorithms.{padded}
use Rattle.key_core.specs.Parts.{Key}
use Rattle.key_core.proofs.Padding.{take-padded}
use Rattle.key_core.proofs.key.pack.Goals as goal

pub returns-clause-front : goal.returns-clause-front
returns-clause-front c = λ fits.
    ap (take (length c.args.key.now.bytes)) (c.padded.ensures ∙ ap (λ (k : Key). padded 2056 k.bytes) c.key.view_is)
    ∙ take-padded 2056 c.args.key.now.bytes fits
