-- The least number below a count at which a test holds.
use Rattle.std.proofs.Common.{◌≡◌, ◌∙◌, ℕ, zero, suc, ◌+◌, ◌-◌, ◌<◌, Bool, true, false, Option, Some, None, refl, ap, arith}
use Rattle.std.specs.Prelude.{if◌then◌else◌}
use Rattle.gpt_core.specs.Tables.{or_else}
use Rattle.cgpt_core.specs.Adding.{first_below}

pub first_none : (test : ℕ → Bool) → first_below 0 test ≡ None
unfolding first_below
first_none test = refl

-- one more at which it does not hold
pub first_more : (count : ℕ) (test : ℕ → Bool) → first_below count test ≡ None → test count ≡ false → first_below (count + 1) test ≡ None
unfolding first_below
first_more count test before here =
    let next : count + 1 ≡ suc count = omega arith in
    ap (λ (n : ℕ). first_below n test) next
    ∙ ap (λ (o : Option ℕ). or_else o (if test count then Some count else None)) before
    ∙ ap (λ (b : Bool). if b then Some count else None) here

-- the first at which it holds
first_here : (count : ℕ) (test : ℕ → Bool) → first_below count test ≡ None → test count ≡ true → first_below (suc count) test ≡ Some count
unfolding first_below
first_here count test before here =
    ap (λ (o : Option ℕ). or_else o (if test count then Some count else None)) before
    ∙ ap (λ (b : Bool). if b then Some count else None) here

first_stays : (more count k : ℕ) (test : ℕ → Bool) → first_below count test ≡ Some k → first_below (more + count) test ≡ Some k
unfolding first_below
first_stays zero count k test is =
    let none : 0 + count ≡ count = omega arith in
    ap (λ (n : ℕ). first_below n test) none ∙ is
first_stays (suc more) count k test is =
    let next : suc more + count ≡ suc (more + count) = omega arith in
    ap (λ (n : ℕ). first_below n test) next
    ∙ ap (λ (o : Option ℕ). or_else o (if test (more + count) then Some (more + count) else None)) (first_stays more count k test is)

pub first_found : (count k : ℕ) (test : ℕ → Bool) → k < count → first_below k test ≡ None → test k ≡ true → first_below count test ≡ Some k
first_found count k test below before here =
    let whole : count ≡ (count - suc k) + suc k = omega (arith, below) in
    ap (λ (n : ℕ). first_below n test) whole ∙ first_stays (count - suc k) (suc k) k test (first_here k test before here)
