use Rattle.std.proofs.Common.{◌≡◌, ◌+◌, ◌-◌, List, ℕ, take, drop, ap, subst, arith}
use Rattle.make_core.specs.Puts.{Puts}
use Rattle.make_core.proofs.DriveParts.{puts_one}
use Rattle.make_core.proofs.pieces.put_part.Goals as goal

pub returns : goal.returns
returns c =
    let o = c.find_overlap-o.result in
    let count : o.skip + o.count - o.skip ≡ o.count = omega arith in
    puts_one c.args.at c.args.place c.args.bytes.now c.args.out.now _ o c.requires.at c.requires.place c.find_overlap-o.ensures.inside c.find_overlap-o.ensures.within c.find_overlap-o.ensures.is
    (subst (λ (l : List ℕ). Puts o.start l c.args.out.now c.put_bytes.new.out) (ap (λ (n : ℕ). take n (drop o.skip c.args.bytes.now)) count) c.put_bytes.ensures)
