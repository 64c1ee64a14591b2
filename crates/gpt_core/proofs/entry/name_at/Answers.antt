-- All units are read.
use Rattle.std.proofs.Common.{◌≡◌, ◌+◌, ◌-◌, length, take, drop, ap, ◌∙◌, arith, rules}
use Rattle.gpt_core.specs.Entries.{units_in}
use Rattle.gpt_core.proofs.Units.{units_read}
use Rattle.gpt_core.proofs.entry.name_at.Goals as goal

pub returns : goal.returns
returns c =
    let size : length c.read_u16_into.new.dst ≡ 36 = search rules in
    let part : c.args.at + 72 - c.args.at ≡ 72 = omega arith in
    units_read 36 _ c.read_u16_into.new.dst size c.read_u16_into.ensures ∙ ap (λ n. units_in 36 (take n (drop c.args.at c.args.bytes.now))) part
