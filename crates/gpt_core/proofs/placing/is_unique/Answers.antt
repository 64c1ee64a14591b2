-- Each entry so far passes, or one does not.
use Rattle.std.proofs.Common.{◌≡◌, ℕ, true, false, sym, subst, ◌∙◌, arith}
use Rattle.gpt_core.specs.Entries.{all_below}
use Rattle.gpt_core.specs.Placing.{leaves_guid}
use Rattle.gpt_core.proofs.AllBelow.{all_below-none, all_below-more, all_below-false}
use Rattle.gpt_core.proofs.placing.is_unique.Goals as goal

pub loop-j-init : goal.loop-j-init
loop-j-init c = all_below-none (leaves_guid c.args.entries.now c.args.k c.args.unique.now)

pub returns-then-not-leaves_guid : goal.returns-then-not-leaves_guid
returns-then-not-leaves_guid c =
    let fails : leaves_guid c.args.entries.now c.args.k c.args.unique.now c.loop-j.j ≡ false = sym c.leaves_guid.ensures ∙ c.if-not-leaves_guid.true in
    sym (all_below-false 128 c.loop-j.j (leaves_guid c.args.entries.now c.args.k c.args.unique.now) (omega arith) fails)

pub loop-j-preserved : goal.loop-j-preserved
loop-j-preserved c =
    let holds : leaves_guid c.args.entries.now c.args.k c.args.unique.now c.loop-j.j ≡ true = sym c.leaves_guid.ensures ∙ c.if-not-leaves_guid.false in
    all_below-more c.loop-j.j (leaves_guid c.args.entries.now c.args.k c.args.unique.now) c.loop-j.invariant holds

pub returns : goal.returns
returns c =
    let end : c.loop-j.j ≡ 128 = omega arith in
    sym (subst (λ (n : ℕ). all_below n (leaves_guid c.args.entries.now c.args.k c.args.unique.now) ≡ true) end c.loop-j.invariant)
