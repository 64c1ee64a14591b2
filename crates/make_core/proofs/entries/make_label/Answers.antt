use Rattle.std.proofs.Common.{◌≡◌, ◌≢◌, ◌-◌, ◌<◌, ◌∙◌, inl, inr, ℕ, ◌++◌, get_or, length, refl, sym, arith, get_or-set_other, get_or-set_same, below_more, length-append, length-set}
use Rattle.std.specs.Prelude.{replicate}
use Rattle.std.proofs.lemmas.Bool.{cases_lt}
use Rattle.std.proofs.lemmas.List.{ext_get_or, get_or_append_left, get_or-append_right, get_or-replicate, length-replicate}
use Rattle.make_core.proofs.entries.make_label.Goals as goal

pub loop-k-init : goal.loop-k-init
loop-k-init c = (length-replicate {A = ℕ} 36 0, λ i lt. absurd (omega arith), λ i le lt. get_or-replicate {A = ℕ} 36 i 0 0 lt)

pub loop-k-preserved : goal.loop-k-preserved
loop-k-preserved c =
    let long : length c.loop-k.name ≡ 36 = c.loop-k.invariant.0 in
    let ten : length c.args.text.now ≡ 10 = omega arith in
    let lt : c.loop-k.k < length c.loop-k.name = omega (arith, long, ten, c.loop-k-test.true) in (
      length-set _ _ _ ∙ long,
      below_more _ _
          (λ i h. let ne : i ≢ c.loop-k.k = omega arith in rw get_or-set_other (c.loop-k.invariant.1 i h))
          (rw get_or-set_same refl),
      λ i le lt'. let ne : i ≢ c.loop-k.k = omega (arith, le) in rw get_or-set_other (c.loop-k.invariant.2 i (omega (arith, le)) lt'),
    )

pub returns : goal.returns
returns c =
    let text = c.args.text.now in
    let name = c.loop-k.name in
    let ten : length text ≡ 10 = omega arith in
    let end : c.loop-k.k ≡ 10 = omega (arith, c.loop-k-test.false, ten) in
    let long : length name ≡ 36 = c.loop-k.invariant.0 in
    let both : length (text ++ replicate 26 0) ≡ 36 = omega (arith, ten, length-append text (replicate 26 0), length-replicate {A = ℕ} 26 0) in
    ext_get_or 0 name (text ++ replicate 26 0) (long ∙ sym both)
    (λ i lt. elim (cases_lt i (length text)) as (λ _. get_or name i 0 ≡ get_or (text ++ replicate 26 0) i 0) [
      | inl inside ↦ c.loop-k.invariant.1 i (omega (arith, end, ten)) ∙ sym (get_or_append_left text (replicate 26 0) 0 i inside)
      | inr behind ↦
          c.loop-k.invariant.2 i (omega (arith, end, ten)) (omega (arith, long))
          ∙ sym (get_or-append_right text (replicate 26 0) (length text) i 0 refl behind ∙ get_or-replicate {A = ℕ} 26 (i - length text) 0 0 (omega (arith, long, ten)))
    ])
