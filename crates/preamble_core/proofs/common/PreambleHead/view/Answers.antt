-- What is handed out beside the signature stands in what is signed.
use Rattle.std.proofs.Common.{refl, ap, ◌∙◌}
use Rattle.wire_core.specs.Fields.{number_at}
use Rattle.key_core.specs.Parts.{signature_at}
use Rattle.preamble_core.proofs.Signed.{ReadFrom-signed}
use Rattle.preamble_core.proofs.common.PreambleHead.view.Goals as goal

pub returns-clause-signed : goal.returns-clause-signed
returns-clause-signed c =
    let bytes = c.args.bytes.now in
    ReadFrom-signed c.args.kind bytes c.args.self.now.signature.data_size (number_at 4 bytes 36) _ c.signature_at-body.result (record {
      size = c.requires.size;
      version = c.u32_at-version.ensures;
      signed = refl;
      body_len = refl;
      body_signature = c.part-2.ensures.value;
      body_is = c.signature_at-body.ensures ∙ ap (signature_at bytes) c.body_place.ensures;
      head = c.requires.head_signed;
      body_inside = cc;
    })
