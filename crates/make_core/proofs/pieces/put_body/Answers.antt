use Rattle.std.proofs.Common.{◌≡◌, ◌+◌, ◌≤◌, ◌∙◌, List, ℕ, length, sym, ap, subst, arith}
use Rattle.board_core.specs.Flash.{range}
use Rattle.make_core.specs.Fill.{fill, fill_from}
use Rattle.make_core.specs.Kernel.{kernel_body_size}
use Rattle.make_core.specs.Puts.{Puts}
use Rattle.make_core.specs.DriveParts.{Overlaps}
use Rattle.make_core.proofs.Fills.{length-fill_from, range-fill_from}
use Rattle.make_core.proofs.DriveParts.{puts_one}
use Rattle.make_core.proofs.pieces.put_body.Goals as goal

pub returns : goal.returns
returns c =
    let o = c.find_overlap-o.result in
    let size = kernel_body_size c.args.number in
    let bytes = fill c.args.number c.args.tag size in
    let long : length bytes ≡ size = length-fill_from c.args.number c.args.tag 0 size in
    let is : Overlaps c.args.at 32768 c.args.place (length bytes) o =
    subst (λ (n : ℕ). Overlaps c.args.at 32768 c.args.place n o) (c.kernel_body_size-size.ensures ∙ sym long) c.find_overlap-o.ensures.is in
    let within : o.skip + o.count ≤ size = omega (arith, c.find_overlap-o.ensures.within, c.kernel_body_size-size.ensures) in
    let start : o.skip ≡ 0 + o.skip = omega arith in
    let piece : fill_from c.args.number c.args.tag o.skip o.count ≡ range bytes o.skip o.count =
    ap (λ (k : ℕ). fill_from c.args.number c.args.tag k o.count) start ∙ sym (range-fill_from c.args.number c.args.tag 0 size o.skip o.count within) in
    puts_one c.args.at c.args.place bytes c.args.out.now _ o c.requires.at (omega (arith, c.requires.place, long)) c.find_overlap-o.ensures.inside (omega (arith, within, long)) is
    (subst (λ (l : List ℕ). Puts o.start l c.args.out.now c.put_fill.new.out) piece c.put_fill.ensures)
