-- Behind what was pushed the room is 0 still.
use Rattle.std.proofs.Common.{◌≡◌, ◌+◌, ◌≤◌, length, arith, rules, length-take-le, ap, ◌∙◌, sym}
use Rattle.gpt_core.proofs.Padding.{padded_after}
use Rattle.gpt_core.proofs.bytes.Bytes.push.Goals as goal

pub invariant_of-self : goal.invariant_of-self
invariant_of-self c =
    let fits : length c.copy_from_slice.new.self ≡ length c.args.more.now = search rules in
    let size : length c.self.inside.bytes ≡ 512 = search rules in
    let told : length (c.args.self.now) + length c.args.more.now ≤ 512 = c.requires in
    let here : length c.args.self.now ≡ c.self.inside.len = ap length (sym c.self.view_is) ∙ length-take-le c.self.inside.len c.self.inside.bytes (omega (arith, size)) in
    padded_after c.self.inside.len c.self.inside.bytes c.copy_from_slice.new.self (length c.args.more.now) fits c.self.invariant (omega (arith, told, here)) size
