-- No entry so far is in the group, or one is.
use Rattle.std.proofs.Common.{◌≡◌, ℕ, true, false, get_or, sym, ap, subst, ◌∙◌, arith}
use Rattle.std.specs.Prelude.{nat_eq, not}
use Rattle.gpt_core.specs.Entries.{all_below}
use Rattle.gpt_core.proofs.AllBelow.{all_below-none, all_below-more, all_below-false}
use Rattle.cgpt_core.proofs.ranking.is_group.Goals as goal

pub loop-k-init : goal.loop-k-init
loop-k-init c = all_below-none (λ (k : ℕ). not (nat_eq (get_or c.args.levels.now k 0) c.args.group))

pub returns-then-has_level : goal.returns-then-has_level
returns-then-has_level c =
    let fails : not (nat_eq (get_or c.args.levels.now c.loop-k.k 0) c.args.group) ≡ false = ap not (sym c.has_level.ensures ∙ c.if-has_level.true) in
    ap not (sym (all_below-false 128 c.loop-k.k (λ (k : ℕ). not (nat_eq (get_or c.args.levels.now k 0) c.args.group)) (omega arith) fails))

pub loop-k-preserved : goal.loop-k-preserved
loop-k-preserved c =
    let holds : not (nat_eq (get_or c.args.levels.now c.loop-k.k 0) c.args.group) ≡ true = ap not (sym c.has_level.ensures ∙ c.if-has_level.false) in
    all_below-more c.loop-k.k (λ (k : ℕ). not (nat_eq (get_or c.args.levels.now k 0) c.args.group)) c.loop-k.invariant holds

pub returns : goal.returns
returns c =
    let end : c.loop-k.k ≡ 128 = omega arith in
    ap not (sym (subst (λ (n : ℕ). all_below n (λ (k : ℕ). not (nat_eq (get_or c.args.levels.now k 0) c.args.group)) ≡ true) end c.loop-k.invariant))
