-- The register after all bytes is what the division of all bits leaves.
use Rattle.std.proofs.Common.{◌≡◌, fold, sym, ap, ◌∙◌, rules}
use Rattle.std.specs.Int.Bits.{bit_xor}
use Rattle.wire_core.specs.Register.{after_byte}
use Rattle.wire_core.proofs.ShiftRegister.{crc32_of_fold}
use Rattle.wire_core.proofs.reflected.crc32.Goals as goal

pub returns : goal.returns
returns c =
    let folds : c.fold.result ≡ fold after_byte 4294967295 c.args.bytes.now = search rules in
    ap (λ n. bit_xor n 4294967295) folds ∙ sym (crc32_of_fold c.args.bytes.now)
