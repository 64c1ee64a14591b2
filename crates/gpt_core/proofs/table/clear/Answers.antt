-- All bytes are 0.
use Rattle.std.proofs.Common.{◌≡◌, length, replicate, ◌∙◌, rules}
use Rattle.gpt_core.proofs.Units.{zeros_are}
use Rattle.gpt_core.proofs.table.clear.Goals as goal

pub returns : goal.returns
returns c =
    let all : c.fill.new.self ≡ replicate (length c.args.bytes.now) 0 = search rules in
    all ∙ zeros_are (length c.args.bytes.now)
