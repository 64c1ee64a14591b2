-- Each entry so far fits, or one does not.
use Rattle.std.proofs.Common.{◌≡◌, ℕ, true, false, sym, subst, ◌∙◌, arith}
use Rattle.gpt_core.specs.Entries.{all_below, pair_fits}
use Rattle.gpt_core.proofs.AllBelow.{all_below-none, all_below-more, all_below-false}
use Rattle.gpt_core.proofs.entries.is_apart_from_earlier.Goals as goal

pub loop-j-init : goal.loop-j-init
loop-j-init c = all_below-none (pair_fits c.args.entries.now c.args.k)

pub returns-then-not-pair_fits : goal.returns-then-not-pair_fits
returns-then-not-pair_fits c =
    let fails : pair_fits c.args.entries.now c.args.k c.loop-j.j ≡ false = sym c.pair_fits.ensures ∙ c.if-not-pair_fits.true in
    sym (all_below-false (c.args.k) c.loop-j.j (pair_fits c.args.entries.now c.args.k) (omega arith) fails)

pub loop-j-preserved : goal.loop-j-preserved
loop-j-preserved c =
    let holds : pair_fits c.args.entries.now c.args.k c.loop-j.j ≡ true = sym c.pair_fits.ensures ∙ c.if-not-pair_fits.false in
    all_below-more c.loop-j.j (pair_fits c.args.entries.now c.args.k) c.loop-j.invariant holds

pub returns : goal.returns
returns c =
    let end : c.loop-j.j ≡ c.args.k = omega arith in
    sym (subst (λ (n : ℕ). all_below n (pair_fits c.args.entries.now c.args.k) ≡ true) end c.loop-j.invariant)
