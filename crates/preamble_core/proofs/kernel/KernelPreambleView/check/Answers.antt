-- The load address stands in what is signed.
use Rattle.std.proofs.Common.{◌≡◌, ◌∙◌, ◌≤◌, take, ap, sym, arith}
use Rattle.wire_core.specs.Fields.{number_at}
use Rattle.key_core.specs.declared.parts.SignatureHead.{SignatureHead}
use Rattle.preamble_core.specs.Common.{CommonPreamble, head_of, IsHeadOf}
use Rattle.preamble_core.specs.declared.common.PreambleKind.TheVariants as kinds
use Rattle.preamble_core.proofs.Signed.{version-in_head, number-signed}
use Rattle.preamble_core.proofs.kernel.KernelPreambleView.check.Goals as goal

pub u64_at-load_address-requires : goal.u64_at-load_address-requires
u64_at-load_address-requires c =
    let head : IsHeadOf kinds.Kernel c.args.bytes.now c.in-Ok.head = c.in-Ok.ensures.head in
    let least : 96 ≤ head_of kinds.Kernel c.args.bytes.now = version-in_head kinds.Kernel (number_at 4 c.args.bytes.now 36) in
    omega (arith, least, head.head_signed, head.signed_in_preamble, head.whole)

pub returns-clause-signed : goal.returns-clause-signed
returns-clause-signed c =
    let bytes = c.args.bytes.now in
    let n = c.in-Ok.head.signature.data_size in
    let head : IsHeadOf kinds.Kernel bytes c.in-Ok.head = c.in-Ok.ensures.head in
    let least : 96 ≤ head_of kinds.Kernel bytes = version-in_head kinds.Kernel (number_at 4 bytes 36) in
    let signed : c.in-Ok-view.common.signed ≡ take n bytes =
    ap (λ (p : CommonPreamble). p.signed) c.in-Ok-view.ensures.parts ∙ ap (λ (s : SignatureHead). take s.data_size bytes) (sym head.signature) in
    record {
      common = c.in-Ok-view.ensures.signed;
      load_address = number-signed 8 48 n bytes _ _ c.u64_at-load_address.ensures signed (omega (arith, least, head.head_signed));
    }
