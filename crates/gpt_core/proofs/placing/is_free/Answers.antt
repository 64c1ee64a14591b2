-- Each entry so far passes, or one does not.
use Rattle.std.proofs.Common.{◌≡◌, ℕ, true, false, sym, subst, ◌∙◌, arith}
use Rattle.gpt_core.specs.Entries.{all_below}
use Rattle.gpt_core.specs.Placing.{leaves_sectors}
use Rattle.gpt_core.proofs.AllBelow.{all_below-none, all_below-more, all_below-false}
use Rattle.gpt_core.proofs.placing.is_free.Goals as goal

pub loop-j-init : goal.loop-j-init
loop-j-init c = all_below-none (leaves_sectors c.args.entries.now c.args.k c.args.first c.args.last)

pub returns-then-not-leaves_sectors : goal.returns-then-not-leaves_sectors
returns-then-not-leaves_sectors c =
    let fails : leaves_sectors c.args.entries.now c.args.k c.args.first c.args.last c.loop-j.j ≡ false = sym c.leaves_sectors.ensures ∙ c.if-not-leaves_sectors.true in
    sym (all_below-false 128 c.loop-j.j (leaves_sectors c.args.entries.now c.args.k c.args.first c.args.last) (omega arith) fails)

pub loop-j-preserved : goal.loop-j-preserved
loop-j-preserved c =
    let holds : leaves_sectors c.args.entries.now c.args.k c.args.first c.args.last c.loop-j.j ≡ true = sym c.leaves_sectors.ensures ∙ c.if-not-leaves_sectors.false in
    all_below-more c.loop-j.j (leaves_sectors c.args.entries.now c.args.k c.args.first c.args.last) c.loop-j.invariant holds

pub returns : goal.returns
returns c =
    let end : c.loop-j.j ≡ 128 = omega arith in
    sym (subst (λ (n : ℕ). all_below n (leaves_sectors c.args.entries.now c.args.k c.args.first c.args.last) ≡ true) end c.loop-j.invariant)
