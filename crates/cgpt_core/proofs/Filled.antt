-- An array that is filled element by element.
use Rattle.std.proofs.Common.{◌≡◌, ◌≢◌, ◌∙◌, ℕ, ◌+◌, ◌<◌, List, get_or, length, arith, get_or-set_other, get_or-set_same, below_more}
use Rattle.std.specs.Prelude.{slice_set}

-- one more element
pub filled_more : (xs : List ℕ) (f : ℕ → ℕ) (k value : ℕ) → ((j : ℕ) → j < k → get_or xs j 0 ≡ f j) → k < length xs → value ≡ f k
    → (j : ℕ) → j < k + 1 → get_or (slice_set xs k value) j 0 ≡ f j
filled_more xs f k value before below here =
    below_more _ _
    (λ j less. let other : j ≢ k = λ same. omega arith in get_or-set_other xs k j value 0 other ∙ before j less)
    (get_or-set_same xs k value 0 below ∙ here)
