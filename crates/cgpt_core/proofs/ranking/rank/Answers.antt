-- A group more is counted where it stands above.
use Rattle.std.proofs.Common.{◌≡◌, ◌∙◌, ◌+◌, ◌≤◌, ◌&&◌, ℕ, Bool, true, false, get_or, sym, ap, arith}
use Rattle.std.specs.Prelude.{nat_lt}
use Rattle.cgpt_core.specs.Ranking.{count_below, is_group}
use Rattle.cgpt_core.proofs.Counting.{count_none, count_more}
use Rattle.cgpt_core.proofs.ranking.rank.Goals as goal
use Rattle.cgpt_core.proofs.ranking.rank.Goals.{then-is_above, else-is_above}

pub loop-above-init : goal.loop-above-init
loop-above-init c = record {
  counted = sym (count_none (λ (above : ℕ). nat_lt c.args.group above && is_group (λ (k : ℕ). get_or c.args.levels.now k 0) above));
  few = omega arith;
}

pub loop-above-preserved : goal.loop-above-preserved
loop-above-preserved c =
    let test : ℕ → Bool = λ (above : ℕ). nat_lt c.args.group above && is_group (λ (k : ℕ). get_or c.args.levels.now k 0) above in
    let counted : (c.if-is_above.count ≡ count_below (c.loop-above.above + 1) test) × (c.if-is_above.count ≤ c.loop-above.above + 1) =
    elim c.if-is_above.branch [
      | then-is_above w ↦
          let more = count_more c.loop-above.above test true (sym c.is_above.ensures ∙ w.if-is_above.true) in
          (w.count-is ∙ ap (λ (n : ℕ). n + 1) c.loop-above.invariant.counted ∙ sym more, omega (arith, w.count-is, c.loop-above.invariant.few))
      | else-is_above w ↦
          let more = count_more c.loop-above.above test false (sym c.is_above.ensures ∙ w.if-is_above.false) in
          (w.count-is ∙ c.loop-above.invariant.counted ∙ ap (λ (n : ℕ). n) (omega (arith, more)), omega (arith, w.count-is, c.loop-above.invariant.few))
    ] in
    record { counted = counted.0; few = counted.1 }
