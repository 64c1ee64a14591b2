-- The register after all bytes is what the division of all bits leaves.
use Rattle.std.proofs.Common.{◌≡◌, fold, sym, ◌∙◌, rules}
use Rattle.wire_core.proofs.Registers.{next, crc8_of_fold}
use Rattle.wire_core.proofs.checksums.crc8.Goals as goal

pub returns : goal.returns
returns c =
    let folds : c.fold.result ≡ fold next 0 c.args.bytes.now = search rules in
    folds ∙ sym (crc8_of_fold c.args.bytes.now)
