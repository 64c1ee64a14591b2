-- The line on the subkey stands between those that both tables have, and flags and subkey stand in what is signed.
use Rattle.std.proofs.Common.{◌≡◌, ◌∙◌, ◌≤◌, true, not, take, ap, sym}
use Rattle.key_core.specs.Parts.{key_in, key_is_inside}
use Rattle.key_core.specs.declared.parts.SignatureHead.{SignatureHead}
use Rattle.preamble_core.specs.Common.{CommonPreamble, signature_of, IsHeadOf}
use Rattle.preamble_core.specs.Firmware.{subkey_of}
use Rattle.preamble_core.specs.declared.common.PreambleKind.TheVariants as kinds
use Rattle.preamble_core.proofs.Signed.{no_firmware_fault, number-signed, subkey-signed}
use Rattle.preamble_core.proofs.firmware.FwPreambleView.check.Goals as goal

pub returns-clause-none : goal.returns-clause-none
returns-clause-none c =
    let bytes = c.args.bytes.now in
    let head : IsHeadOf kinds.Firmware bytes c.in-Ok.head = c.in-Ok.ensures.head in
    let read : key_is_inside c.in-Ok.head.signature.data_size c.key_at-subkey.result ≡ true = cc in
    let inside : key_is_inside (signature_of bytes).data_size (subkey_of bytes) ≡ true =
    ap (λ (s : SignatureHead). key_is_inside s.data_size (subkey_of bytes)) (sym head.signature)
    ∙ ap (key_is_inside c.in-Ok.head.signature.data_size) (sym c.key_at-subkey.ensures) ∙ read in
    no_firmware_fault bytes c.in-Ok.ensures.none (ap not inside) c.in-Ok-view.ensures.none

pub returns-clause-parts : goal.returns-clause-parts
returns-clause-parts c = λ i. record {
  common = c.in-Ok-view.ensures.parts i;
  flags = c.u32_at-flags.ensures i;
  subkey =
      let is : c.view-2.result ≡ key_in c.args.bytes.now (subkey_of c.args.bytes.now) =
      c.view-2.ensures.value ∙ ap (key_in c.args.bytes.now) c.key_at-subkey.ensures in
      is i;
}

pub returns-clause-signed : goal.returns-clause-signed
returns-clause-signed c =
    let bytes = c.args.bytes.now in
    let n = c.in-Ok.head.signature.data_size in
    let head : IsHeadOf kinds.Firmware bytes c.in-Ok.head = c.in-Ok.ensures.head in
    let long : 108 ≤ n = head.head_signed in
    let signed : c.in-Ok-view.common.signed ≡ take n bytes =
    ap (λ (p : CommonPreamble). p.signed) c.in-Ok-view.ensures.parts ∙ ap (λ (s : SignatureHead). take s.data_size bytes) (sym head.signature) in
    record {
      common = c.in-Ok-view.ensures.signed;
      flags = number-signed 4 104 n bytes _ _ c.u32_at-flags.ensures signed long;
      subkey = c.view-2.ensures.value ∙ subkey-signed n bytes _ c.key_at-subkey.result c.key_at-subkey.ensures signed long cc;
    }
