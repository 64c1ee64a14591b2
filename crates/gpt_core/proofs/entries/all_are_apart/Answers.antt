-- Each entry so far fits, or one does not.
use Rattle.std.proofs.Common.{◌≡◌, ℕ, true, false, sym, subst, ◌∙◌, arith}
use Rattle.gpt_core.specs.Entries.{all_below, fits_earlier}
use Rattle.gpt_core.proofs.AllBelow.{all_below-none, all_below-more, all_below-false}
use Rattle.gpt_core.proofs.entries.all_are_apart.Goals as goal

pub loop-k-init : goal.loop-k-init
loop-k-init c = all_below-none (fits_earlier c.args.entries.now)

pub returns-then-not-fits_earlier : goal.returns-then-not-fits_earlier
returns-then-not-fits_earlier c =
    let fails : fits_earlier c.args.entries.now c.loop-k.k ≡ false = sym c.fits_earlier.ensures ∙ c.if-not-fits_earlier.true in
    sym (all_below-false (128) c.loop-k.k (fits_earlier c.args.entries.now) (omega arith) fails)

pub loop-k-preserved : goal.loop-k-preserved
loop-k-preserved c =
    let holds : fits_earlier c.args.entries.now c.loop-k.k ≡ true = sym c.fits_earlier.ensures ∙ c.if-not-fits_earlier.false in
    all_below-more c.loop-k.k (fits_earlier c.args.entries.now) c.loop-k.invariant holds

pub returns : goal.returns
returns c =
    let end : c.loop-k.k ≡ 128 = omega arith in
    sym (subst (λ (n : ℕ). all_below n (fits_earlier c.args.entries.now) ≡ true) end c.loop-k.invariant)
