-- A piece is the first bytes, with zeros up to 512.
use Rattle.std.proofs.Common.{◌≡◌, ◌++◌, drop, take, replicate, arith, ap, ◌∙◌, List, ℕ}
use Rattle.std.proofs.lemmas.Grind.{common_steps}
use Rattle.board_core.proofs.TornRecords.{padded_front}
use Rattle.board_core.proofs.torn.padded.Goals as goal

pub returns : goal.returns
returns c =
    let copied : c.copy_from_slice.new.self ≡ take c.min-count.result c.args.bytes.now = grind (arith, common_steps, c.copy_from_slice.ensures.after) in
    ap (λ (front : List ℕ). front ++ drop c.min-count.result (replicate 512 0)) copied
    ∙ padded_front 512 c.min-count.result c.args.bytes.now c.min-count.ensures
