-- Each entry so far fits, or one does not.
use Rattle.std.proofs.Common.{◌≡◌, ℕ, true, false, sym, subst, ◌∙◌, arith}
use Rattle.gpt_core.specs.Entries.{all_below, entry_fits}
use Rattle.gpt_core.proofs.AllBelow.{all_below-none, all_below-more, all_below-false}
use Rattle.gpt_core.proofs.entries.all_lie_within.Goals as goal

pub loop-k-init : goal.loop-k-init
loop-k-init c = all_below-none (entry_fits c.args.first c.args.last c.args.entries.now)

pub returns-then-not-entry_fits : goal.returns-then-not-entry_fits
returns-then-not-entry_fits c =
    let fails : entry_fits c.args.first c.args.last c.args.entries.now c.loop-k.k ≡ false = sym c.entry_fits.ensures ∙ c.if-not-entry_fits.true in
    sym (all_below-false (128) c.loop-k.k (entry_fits c.args.first c.args.last c.args.entries.now) (omega arith) fails)

pub loop-k-preserved : goal.loop-k-preserved
loop-k-preserved c =
    let holds : entry_fits c.args.first c.args.last c.args.entries.now c.loop-k.k ≡ true = sym c.entry_fits.ensures ∙ c.if-not-entry_fits.false in
    all_below-more c.loop-k.k (entry_fits c.args.first c.args.last c.args.entries.now) c.loop-k.invariant holds

pub returns : goal.returns
returns c =
    let end : c.loop-k.k ≡ 128 = omega arith in
    sym (subst (λ (n : ℕ). all_below n (entry_fits c.args.first c.args.last c.args.entries.now) ≡ true) end c.loop-k.invariant)
