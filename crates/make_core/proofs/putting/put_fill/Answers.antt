use Rattle.std.proofs.Common.{◌≡◌, ◌+◌, ◌-◌, ◌∙◌, ap, sym, length, take, drop, arith, length-take, length-drop}
use Rattle.make_core.specs.Fill.{fill_from}
use Rattle.make_core.proofs.Fronts.{puts_part}
use Rattle.make_core.proofs.Fills.{length-fill_from}
use Rattle.make_core.proofs.putting.put_fill.Goals as goal

pub returns : goal.returns
returns c =
    let count : c.args.at + c.args.count - c.args.at ≡ c.args.count = omega arith in
    let long : length (take (c.args.at + c.args.count - c.args.at) (drop c.args.at c.args.out.now)) ≡ c.args.count =
    omega (arith, count, c.requires.inside, length-take (c.args.at + c.args.count - c.args.at) (drop c.args.at c.args.out.now), length-drop c.args.at c.args.out.now) in
    puts_part c.args.at _ c.args.out.now (fill_from c.args.number c.args.tag c.args.first c.args.count) _
    (c.fill_bytes.ensures ∙ ap (fill_from c.args.number c.args.tag c.args.first) long)
    (count ∙ sym (length-fill_from c.args.number c.args.tag c.args.first c.args.count))
