-- The sectors that a walk reads: the sum over the ranks in order is that over the candidates.
use Rattle.std.proofs.Common.{◌≡◌, ℕ, zero, suc, ◌+◌, ◌*◌, ◌<◌, ◌≤◌, Bool, true, false, ◌&&◌, List, [], ◌∷◌, ◌++◌, length, take, drop}
use Rattle.std.proofs.Common.{sum_by, refl, ap, ◌∙◌, arith, append-nil}
use Rattle.std.specs.Prelude.{if◌then◌else◌}
use Rattle.std.proofs.lemmas.List.Sums.{sum_by-cons, sum_by_push, sum_by-take-drop}
use Rattle.std.proofs.lemmas.List.Sorted.{sum_by-IsPermutation}
use Rattle.walk_core.specs.Candidates.{is_candidate, rank_in, ranks_among, AreInOrder}
use Rattle.walk_core.specs.Kernels.{WalkQuestion}
use Rattle.walk_core.specs.Chosen.{head_is_good}
use Rattle.walk_core.specs.Walks.{sum_below, is_reached, body_sectors_in, sectors_for, most_sectors_for}
use Rattle.walk_core.specs.Steps.{sectors_of_rank, most_sectors_of_rank}
use Rattle.walk_core.proofs.OrderFacts.{rank_rest}

one_more_sum : (f : ℕ → ℕ) (ranks : List ℕ) (rank g total : ℕ) (b : Bool) → f rank ≡ g → sum_by f ranks ≡ total
    → sum_by f (ranks ++ (if b then rank ∷ [] else [])) ≡ total + (if b then g else 0)
one_more_sum f ranks rank g total true is before = sum_by_push f ranks rank ∙ ap (λ (n : ℕ). n + f rank) before
    ∙ ap (λ (n : ℕ). total + n) is
one_more_sum f ranks rank g total false is before =
    let none : total ≡ total + 0 = omega arith in
    ap (λ (l : List ℕ). sum_by f l) (append-nil ranks) ∙ before ∙ none

sum_among : (f g : ℕ → ℕ) (entries : List ℕ) (n : ℕ) → n ≤ 128 → ((k : ℕ) → k < 128 → f (rank_in entries k) ≡ g k)
    → sum_by f (ranks_among n entries) ≡ sum_below n (λ k. if is_candidate entries k then g k else 0)
unfolding ranks_among sum_below
sum_among f g entries zero few same = refl
sum_among f g entries (suc k) few same =
    one_more_sum f (ranks_among k entries) (rank_in entries k) (g k) (sum_below k (λ j. if is_candidate entries j then g j else 0))
    (is_candidate entries k) (same k (omega (arith, few)))
    (sum_among f g entries k (omega (arith, few)) same)

sum_in_order : (f g : ℕ → ℕ) (entries ranks : List ℕ) → AreInOrder entries ranks → ((k : ℕ) → k < 128 → f (rank_in entries k) ≡ g k)
    → sum_by f ranks ≡ sum_below 128 (λ k. if is_candidate entries k then g k else 0)
sum_in_order f g entries ranks are same = sum_by-IsPermutation f (ranks_among 128 entries) ranks are.all
    ∙ sum_among f g entries 128 (omega arith) same

pub sum_most : (d : WalkQuestion) (entries ranks : List ℕ) → AreInOrder entries ranks
    → sum_by (most_sectors_of_rank d entries) ranks ≡ sum_below 128 (most_sectors_for d entries)
sum_most d entries ranks are =
    sum_in_order (most_sectors_of_rank d entries) (λ k. 128 + body_sectors_in d entries k) entries ranks are
    (λ k below. ap (λ (j : ℕ). 128 + body_sectors_in d entries j) (rank_rest entries k below))

pub sum_exact : (d : WalkQuestion) (entries ranks : List ℕ) → AreInOrder entries ranks
    → sum_by (sectors_of_rank d entries) ranks ≡ sum_below 128 (sectors_for d entries)
sum_exact d entries ranks are =
    sum_in_order (sectors_of_rank d entries) (λ k. 128 +
    (if is_reached d entries k && head_is_good d entries k then body_sectors_in d entries k else 0)) entries ranks are
    (λ k below. ap (λ (j : ℕ). 128 + (if is_reached d entries j && head_is_good d entries j then body_sectors_in d entries j else 0))
    (rank_rest entries k below))

-- heads alone are no more
heads : (f : ℕ → ℕ) (ranks : List ℕ) → ((rank : ℕ) → 128 ≤ f rank) → 128 * length ranks ≤ sum_by f ranks
heads f [] least = omega arith
heads f (rank ∷ ranks) least =
    let first = least rank in
    let rest = heads f ranks least in
    let all = sum_by-cons f rank ranks in
    omega (arith, first, rest, all)

pub then_heads : (f : ℕ → ℕ) (ranks : List ℕ) (place : ℕ) → ((rank : ℕ) → 128 ≤ f rank)
    → sum_by f (take place ranks) + 128 * length (drop place ranks) ≤ sum_by f ranks
then_heads f ranks place least =
    let rest = heads f (drop place ranks) least in
    let all = sum_by-take-drop f ranks place in
    omega (arith, rest, all)

pub most_least : (d : WalkQuestion) (entries : List ℕ) (rank : ℕ) → 128 ≤ most_sectors_of_rank d entries rank
most_least d entries rank = omega arith

pub exact_least : (d : WalkQuestion) (entries : List ℕ) (rank : ℕ) → 128 ≤ sectors_of_rank d entries rank
exact_least d entries rank = omega arith
