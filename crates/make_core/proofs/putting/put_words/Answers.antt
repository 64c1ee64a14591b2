use Rattle.std.proofs.Common.{◌≡◌, ◌+◌, ◌-◌, ◌*◌, ◌∙◌, length, sym, arith}
use Rattle.make_core.specs.Firmware.{words}
use Rattle.make_core.proofs.Fronts.{puts_part}
use Rattle.make_core.proofs.Sizes.{length-words}
use Rattle.make_core.proofs.putting.put_words.Goals as goal

pub returns : goal.returns
unfolding words
returns c =
    let long : c.args.at + 4 * length c.args.numbers.now - c.args.at ≡ 4 * length c.args.numbers.now = omega arith in
    puts_part c.args.at _ c.args.out.now (words c.args.numbers.now) _ c.write_u32_into.ensures (long ∙ sym (length-words c.args.numbers.now))
