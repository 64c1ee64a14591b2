-- Both tests hold, or the first that fails decides.
use Rattle.std.proofs.Common.{◌≡◌, Bool, true, false, ◌&&◌, sym, ap, ◌∙◌}
use Rattle.gpt_core.specs.Entries.{entries_fit, all_below, entry_fits, fits_earlier}
use Rattle.gpt_core.proofs.entries.entries_fit.Goals as goal

pub returns-then-all_lie_within : goal.returns-then-all_lie_within
unfolding entries_fit
returns-then-all_lie_within c =
    let first : all_below 128 (entry_fits c.args.first c.args.last c.args.entries.now) ≡ true = sym c.all_lie_within.ensures ∙ c.if-all_lie_within.true in
    c.all_are_apart.ensures ∙ sym (ap (λ (b : Bool). b && all_below 128 (fits_earlier c.args.entries.now)) first)

pub returns-else-all_lie_within : goal.returns-else-all_lie_within
unfolding entries_fit
returns-else-all_lie_within c =
    let first : all_below 128 (entry_fits c.args.first c.args.last c.args.entries.now) ≡ false = sym c.all_lie_within.ensures ∙ c.if-all_lie_within.false in
    c.if-all_lie_within.false ∙ sym (ap (λ (b : Bool). b && all_below 128 (fits_earlier c.args.entries.now)) first)
