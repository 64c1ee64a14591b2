-- The digest is that of the message, by the hash of the key's algorithm.
use Rattle.std.proofs.Common.{◌∙◌, subst}
use Rattle.chain_core.specs.Hashing.{HoldsMessage}
use Rattle.chain_core.specs.declared.hasher.Hasher.{Hasher}
use Rattle.chain_core.proofs.Asking.{digest_256, digest_512, asks_for}
use Rattle.chain_core.proofs.hasher.Hasher.verify.Goals as goal

pub returns-in-Sha256-clause-meets : goal.returns-in-Sha256-clause-meets
returns-in-Sha256-clause-meets g c =
    λ message held.
    let holds = subst (λ (h : Hasher). HoldsMessage c.args.key.now.algorithm h message) c.in-Sha256.is held in
    asks_for c.args.key.now _ message _ _ _ _ _ c.key_bytes-bytes.ensures.value
    (c.finalize.ensures message holds.1 ∙ digest_256 _ message holds.0) c.verify.ensures.meets

pub returns-in-Sha512-clause-meets : goal.returns-in-Sha512-clause-meets
returns-in-Sha512-clause-meets g c =
    λ message held.
    let holds = subst (λ (h : Hasher). HoldsMessage c.args.key.now.algorithm h message) c.in-Sha512.is held in
    asks_for c.args.key.now _ message _ _ _ _ _ c.key_bytes-bytes.ensures.value
    (c.finalize-in-Sha512.ensures message holds.1 ∙ digest_512 _ message holds.0) c.verify-in-Sha512.ensures.meets
