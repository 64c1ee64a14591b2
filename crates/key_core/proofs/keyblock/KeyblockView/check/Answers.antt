-- What is handed out beside the seal stands in what is signed.
use Rattle.std.proofs.Common.{refl}
use Rattle.key_core.proofs.SignedKeyblock.{ReadFrom-signed}
use Rattle.key_core.proofs.keyblock.KeyblockView.check.Goals as goal

pub returns-clause-signed : goal.returns-clause-signed
returns-clause-signed c =
    ReadFrom-signed c.args.bytes.now c.signature_at-seal.result.data_size _ c.key_at-key.result (record {
      size = c.u32_at-size.ensures;
      flags = c.u32_at-flags.ensures;
      signed = refl;
      data_key = c.view.ensures.value;
      key_is = c.key_at-key.ensures;
      head = c.if-seal-lt-KEYBLOCK_HEAD.false;
      inside = cc;
    })
