-- The data key and the signature are those of the head, so its body is checked.
use Rattle.std.proofs.Common.{◌≡◌, ◌∙◌, ◌≤◌, ℕ, List, ap, subst, length, drop, arith}
use Rattle.key_core.specs.Parts.{Key, key_in}
use Rattle.preamble_core.specs.Common.{CommonPreamble, body_signature_of}
use Rattle.preamble_core.specs.Kernel.{KernelPreamble, kernel_preamble_in}
use Rattle.preamble_core.specs.declared.common.PreambleKind.TheVariants as kinds
use Rattle.chain_core.proofs.SlotAnswers.{Copied, copied_key}
use Rattle.kernel_core.specs.Heads.{head_key, behind_keyblock}
use Rattle.kernel_core.proofs.HeadAnswers.{usable_fits}
use Rattle.kernel_core.proofs.KernelBodyAnswers.{TakenFrom, body_of_head}
use Rattle.kernel_core.proofs.body.verify_body.Goals as goal

pub check_body-requires-clause-size : goal.check_body-requires-clause-size
check_body-requires-clause-size g c =
    let vblock = c.args.vblock.now in
    let key : c.view.result ≡ head_key vblock = c.view.ensures.value ∙ ap (key_in vblock) c.key_at.ensures in
    let size : c.pack-key.result.size ≡ length (head_key vblock).bytes = c.pack-key.ensures.size ∙ ap (λ (k : Key). length k.bytes) key in
    let most : length (head_key vblock).bytes ≤ 2056 = usable_fits (head_key vblock) c.requires.head.key in
    omega (arith, size, most)

pub returns : goal.returns
returns g c =
    let vblock = c.args.vblock.now in
    let packed = c.pack-key.result in
    let key : c.view.result ≡ head_key vblock = c.view.ensures.value ∙ ap (key_in vblock) c.key_at.ensures in
    let copied : Copied (head_key vblock) packed = subst (λ (k : Key). Copied k packed) key
    (record { algorithm = c.pack-key.ensures.algorithm; version = c.pack-key.ensures.version; size = c.pack-key.ensures.size; bytes = c.pack-key.ensures.bytes; front = c.pack-key.ensures.front }) in
    let rest : c.behind-rest.result.now ≡ behind_keyblock vblock = c.behind-rest.ensures ∙ ap (λ (n : ℕ). drop n vblock) c.u32_at.ensures in
    let whole : c.body_signature.result.now ≡ c.in-Ok.preamble.common.body_signature =
    c.body_signature.ensures ∙ ap (λ (p : CommonPreamble). p.body_signature) c.common-common.ensures in
    let taken : TakenFrom vblock packed c.body_signature.result.now = record {
      key = copied_key (head_key vblock) packed copied (usable_fits (head_key vblock) c.requires.head.key);
      signature_is = whole ∙ ap (λ (p : KernelPreamble). p.common.body_signature) (c.in-Ok.ensures.parts ∙ ap kernel_preamble_in rest);
      signature_size = ap (λ (xs : List ℕ). length xs) whole ∙ c.in-Ok.ensures.fits.common.body_signature_length
          ∙ ap (λ (xs : List ℕ). (body_signature_of kinds.Kernel xs).size) rest;
    } in
    record {
      meets = body_of_head vblock c.args.head.now packed c.body_signature.result.now c.args.partition.first c.args.partition.sectors
          (g.D.Disk.state c.args.disk.now) (g.D.Disk.state c.check_body.new.disk) (g.H.Hook.state c.args.hook.now)
          (g.H.Hook.state c.check_body.new.hook)
          c.check_body.new.room c.check_body.result c.requires.head c.requires.vblock c.requires.sectors taken c.check_body.ensures.meets;
    }
