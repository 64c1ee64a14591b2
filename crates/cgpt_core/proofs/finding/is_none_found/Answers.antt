-- No entry so far has what is looked for, or one has.
use Rattle.std.proofs.Common.{◌≡◌, ℕ, true, false, sym, ap, subst, ◌∙◌, arith}
use Rattle.std.specs.Prelude.{not}
use Rattle.gpt_core.specs.Entries.{all_below}
use Rattle.gpt_core.proofs.AllBelow.{all_below-none, all_below-more, all_below-false}
use Rattle.cgpt_core.specs.Plans.{is_found}
use Rattle.cgpt_core.proofs.finding.is_none_found.Goals as goal

pub loop-k-init : goal.loop-k-init
loop-k-init c = all_below-none (λ (k : ℕ). not (is_found c.args.call.now c.args.room.now.table.entries k))

pub returns-then-is_found : goal.returns-then-is_found
returns-then-is_found c =
    let fails : not (is_found c.args.call.now c.args.room.now.table.entries c.loop-k.k) ≡ false = ap not (sym c.is_found.ensures ∙ c.if-is_found.true) in
    sym (all_below-false 128 c.loop-k.k (λ (k : ℕ). not (is_found c.args.call.now c.args.room.now.table.entries k)) (omega arith) fails)

pub loop-k-preserved : goal.loop-k-preserved
loop-k-preserved c =
    let holds : not (is_found c.args.call.now c.args.room.now.table.entries c.loop-k.k) ≡ true = ap not (sym c.is_found.ensures ∙ c.if-is_found.false) in
    all_below-more c.loop-k.k (λ (k : ℕ). not (is_found c.args.call.now c.args.room.now.table.entries k)) c.loop-k.invariant holds

pub returns : goal.returns
returns c =
    let end : c.loop-k.k ≡ 128 = omega arith in
    sym (subst (λ (n : ℕ). all_below n (λ (k : ℕ). not (is_found c.args.call.now c.args.room.now.table.entries k)) ≡ true) end c.loop-k.invariant)
