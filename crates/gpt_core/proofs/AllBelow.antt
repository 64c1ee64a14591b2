-- A test that holds at each number below a count.
use Rattle.std.proofs.Common.{◌≡◌, ℕ, zero, suc, ◌+◌, ◌<◌, Bool, true, false, ◌&&◌, refl, ap, sym, ◌∙◌, arith, ◌⊎◌, inl, inr}
use Rattle.std.proofs.lemmas.Bool.{and_parts}
use Rattle.gpt_core.specs.Entries.{all_below}

pub all_below-none : (test : ℕ → Bool) → all_below 0 test ≡ true
unfolding all_below
all_below-none test = refl

-- one more
pub all_below-more : (count : ℕ) (test : ℕ → Bool) → all_below count test ≡ true → test count ≡ true → all_below (count + 1) test ≡ true
unfolding all_below
all_below-more count test before here =
    let next : count + 1 ≡ suc count = omega arith in
    ap (λ n. all_below n test) next ∙ ap (λ b. b && all_below count test) here ∙ before

and-false : (b : Bool) → (b && false) ≡ false
and-false true = refl
and-false false = refl

-- one at which it fails
pub all_below-false : (count k : ℕ) (test : ℕ → Bool) → k < count → test k ≡ false → all_below count test ≡ false
unfolding all_below
all_below-false zero k test below fails = absurd (omega arith)
all_below-false (suc count) k test below fails =
    let split : (k ≡ count) ⊎ (k < count) = grind arith in
    elim split [
      | inl here ↦ ap (λ b. b && all_below count test) (ap test (sym here) ∙ fails)
      | inr later ↦ ap (λ b. test count && b) (all_below-false count k test later fails) ∙ and-false (test count)
    ]

-- one of those at which it holds
pub all_below-at : (count k : ℕ) (test : ℕ → Bool) → all_below count test ≡ true → k < count → test k ≡ true
unfolding all_below
all_below-at zero k test all below = absurd (omega arith)
all_below-at (suc count) k test all below =
    let parts : (test count ≡ true) × (all_below count test ≡ true) = and_parts (test count) (all_below count test) all in
    let split : (k ≡ count) ⊎ (k < count) = grind arith in
    elim split [
      | inl here ↦ ap test here ∙ parts.0
      | inr later ↦ all_below-at count k test parts.1 later
    ]

-- two tests that answer alike
pub all_below-same : (count : ℕ) (one two : ℕ → Bool) → ((k : ℕ) → k < count → one k ≡ two k) → all_below count one ≡ all_below count two
unfolding all_below
all_below-same zero one two same = refl
all_below-same (suc count) one two same =
    let here : one count ≡ two count = same count (omega arith) in
    let rest : all_below count one ≡ all_below count two = all_below-same count one two (λ k below. same k (omega arith)) in
    ap (λ b. b && all_below count one) here ∙ ap (λ b. two count && b) rest

-- a test that holds everywhere
pub all_below-always : (count : ℕ) (test : ℕ → Bool) → ((k : ℕ) → k < count → test k ≡ true) → all_below count test ≡ true
unfolding all_below
all_below-always zero test holds = refl
all_below-always (suc count) test holds =
    ap (λ b. b && all_below count test) (holds count (omega arith)) ∙ all_below-always count test (λ k below. holds k (omega arith))
