-- Each entry so far is used, or one is not.
use Rattle.std.proofs.Common.{rules, ◌≡◌, ℕ, true, false, None, sym, ap, subst, arith}
use Rattle.std.specs.Prelude.{not}
use Rattle.gpt_core.specs.Entries.{is_used}
use Rattle.cgpt_core.specs.Adding.{first_below}
use Rattle.cgpt_core.proofs.FirstBelow.{first_none, first_more, first_found}
use Rattle.cgpt_core.proofs.adding.first_unused.Goals as goal

pub loop-k-init : goal.loop-k-init
loop-k-init c = first_none (λ (k : ℕ). not (is_used c.args.room.now.table.entries k))

pub returns-then-is_none-clause-first : goal.returns-then-is_none-clause-first
returns-then-is_none-clause-first c =
    let unused : is_used c.args.room.now.table.entries c.loop-k.k ≡ false = search rules in
    sym (first_found 128 c.loop-k.k (λ (k : ℕ). not (is_used c.args.room.now.table.entries k)) (omega arith) c.loop-k.invariant (ap not unused))

pub loop-k-preserved : goal.loop-k-preserved
loop-k-preserved c =
    let used : is_used c.args.room.now.table.entries c.loop-k.k ≡ true = search rules in
    first_more c.loop-k.k (λ (k : ℕ). not (is_used c.args.room.now.table.entries k)) c.loop-k.invariant (ap not used)

pub returns-clause-first : goal.returns-clause-first
returns-clause-first c =
    let end : c.loop-k.k ≡ 128 = omega arith in
    sym (subst (λ (n : ℕ). first_below n (λ (k : ℕ). not (is_used c.args.room.now.table.entries k)) ≡ None) end c.loop-k.invariant)
