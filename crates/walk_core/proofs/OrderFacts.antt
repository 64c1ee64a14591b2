-- The candidates in order: each rank is that of a candidate, and each candidate has its place.
use Rattle.std.proofs.Common.{◌≡◌, ℕ, zero, suc, ◌+◌, ◌-◌, ◌*◌, ◌%◌, ◌<◌, ◌≤◌, ◌⊎◌, inl, inr, Bool, true, false, List, [], ◌∷◌, ◌++◌, All}
use Rattle.std.proofs.Common.{Contains, length, get_or, refl, ap, sym, subst, ◌∙◌, arith, append-nil, true≢false}
use Rattle.std.specs.Prelude.{if◌then◌else◌}
use Rattle.std.proofs.lemmas.List.{get_or_default}
use Rattle.std.proofs.lemmas.List.Elements.{All-nil, All-push, All-weaker, All-get_or, Contains-append_left, Contains-push}
use Rattle.std.proofs.lemmas.List.Sorted.{All-permutation, Contains-permutation}
use Rattle.gpt_core.specs.Entries.{attributes_in}
use Rattle.gpt_core.specs.Attributes.{priority_of}
use Rattle.walk_core.specs.Candidates.{is_candidate, rank_in, ranks_among, AreInOrder}
use Rattle.walk_core.specs.Steps.{entry_at}

rest_of : (p k : ℕ) → k < 128 → ((15 - p) * 128 + k) % 128 ≡ k
rest_of p k below = grind arith

-- the entry of a candidate's rank
pub rank_rest : (entries : List ℕ) (k : ℕ) → k < 128 → entry_at (rank_in entries k) ≡ k
rank_rest entries k below = rest_of (priority_of (attributes_in entries k)) k below

-- ---- each rank is that of a candidate

pub record IsRankBelow (entries : List ℕ) (n rank : ℕ) : Type 0 where
  pub below : entry_at rank < n
  pub candidate : is_candidate entries (entry_at rank) ≡ true
  pub same : rank ≡ rank_in entries (entry_at rank)

more_ranked : (k : ℕ) (entries ranks : List ℕ) (b : Bool) → is_candidate entries k ≡ b → k < 128 → All (IsRankBelow entries k) ranks
    → All (IsRankBelow entries (suc k)) (ranks ++ (if b then rank_in entries k ∷ [] else []))
more_ranked k entries ranks true is below all =
    let rest : entry_at (rank_in entries k) ≡ k = rank_rest entries k below in
    All-push (IsRankBelow entries (suc k)) ranks (rank_in entries k)
    (All-weaker (IsRankBelow entries k) (IsRankBelow entries (suc k))
    (λ rank one. record { below = omega (arith, one.below); candidate = one.candidate; same = one.same }) ranks all)
    (record {
      below = omega (arith, rest);
      candidate = ap (is_candidate entries) rest ∙ is;
      same = ap (rank_in entries) (sym rest);
    })
more_ranked k entries ranks false is below all =
    subst (All (IsRankBelow entries (suc k))) (sym (append-nil ranks))
    (All-weaker (IsRankBelow entries k) (IsRankBelow entries (suc k))
    (λ rank one. record { below = omega (arith, one.below); candidate = one.candidate; same = one.same }) ranks all)

all_ranked : (n : ℕ) (entries : List ℕ) → n ≤ 128 → All (IsRankBelow entries n) (ranks_among n entries)
unfolding ranks_among
all_ranked zero entries few = All-nil (IsRankBelow entries 0)
all_ranked (suc k) entries few = more_ranked k entries (ranks_among k entries) (is_candidate entries k) refl (omega arith)
    (all_ranked k entries (omega arith))

-- ---- each candidate has its place

with_rank : (n : ℕ) (entries ranks : List ℕ) (b : Bool) → b ≡ true
    → Contains (ranks ++ (if b then rank_in entries n ∷ [] else [])) (rank_in entries n)
with_rank n entries ranks true is = Contains-push ranks (rank_in entries n)
with_rank n entries ranks false is = absurd (true≢false (sym is))

all_contained : (n k : ℕ) (entries : List ℕ) → k < n → is_candidate entries k ≡ true → Contains (ranks_among n entries) (rank_in entries k)
unfolding ranks_among
all_contained zero k entries below is = absurd (omega arith)
all_contained (suc n) k entries below is =
    let split : (n ≡ k) ⊎ (k < n) = grind arith in
    elim split [
      | inl here ↦ subst (λ (j : ℕ). Contains (ranks_among n entries ++ (if is_candidate entries n then rank_in entries n ∷ [] else [])) (rank_in entries j)) here
          (with_rank n entries (ranks_among n entries) (is_candidate entries n) (ap (is_candidate entries) here ∙ is))
      | inr before ↦ Contains-append_left (ranks_among n entries) (if is_candidate entries n then rank_in entries n ∷ [] else []) (rank_in entries k) (all_contained n k entries before is)
    ]

-- ---- in order

-- A candidate's place among the ranks.
pub record HasPlace (entries ranks : List ℕ) (k : ℕ) : Type 0 where
  pub place : ℕ
  pub inside : place < length ranks
  pub is : get_or ranks place 0 ≡ rank_in entries k

has_place : (entries ranks : List ℕ) (k : ℕ) → Contains ranks (rank_in entries k) → HasPlace entries ranks k
has_place entries ranks k (place, inside, is) = record {
  place = place;
  inside = inside;
  is = get_or_default ranks place 0
      (rank_in entries k) inside ∙ is;
}

pub record Ordered (entries ranks : List ℕ) : Type 0 where
  pub ranked : (place : ℕ) → place < length ranks → IsRankBelow entries 128 (get_or ranks place 0)
  pub order : (i j : ℕ) → i ≤ j → j < length ranks → get_or ranks i 0 ≤ get_or ranks j 0
  pub places : (k : ℕ) → k < 128 → is_candidate entries k ≡ true → HasPlace entries ranks k

pub ordered : (entries ranks : List ℕ) → AreInOrder entries ranks → Ordered entries ranks
ordered entries ranks are = record {
  ranked = λ place inside. All-get_or (IsRankBelow entries 128) ranks place 0 inside
      (All-permutation (IsRankBelow entries 128) (ranks_among 128 entries) ranks are.all (all_ranked 128 entries (omega arith)));
  order = λ i j le inside. are.ordered i j 0 le inside;
  places = λ k below is. has_place entries ranks k
      (Contains-permutation (ranks_among 128 entries) ranks (rank_in entries k) are.all (all_contained 128 k entries below is));
}

-- two places, of which the second is before the first only where a number is at most another
not_later : (p q a b : ℕ) → b < a → (q ≤ p → a ≤ b) → p < q
not_later p q a b less later =
    let split : (p < q) ⊎ (q ≤ p) = grind arith in
    elim split [
      | inl before ↦ before
      | inr behind ↦ let le = later behind in absurd (omega (arith, le, less))
    ]

-- a candidate before the one at this place stands before it
pub place_before : (entries ranks : List ℕ) (o : Ordered entries ranks) (place k : ℕ) → place < length ranks
    → (below : k < 128) (is : is_candidate entries k ≡ true)
    → rank_in entries k < get_or ranks place 0 → (o.places k below is).place < place
place_before entries ranks o place k inside below is earlier =
    let has = o.places k below is in
    not_later has.place place (get_or ranks place 0) (rank_in entries k) earlier
    (λ later. subst (λ (r : ℕ). get_or ranks place 0 ≤ r) has.is (o.order place has.place later has.inside))

-- and one behind it stands behind it
pub place_behind : (entries ranks : List ℕ) (o : Ordered entries ranks) (place k : ℕ) → place < length ranks
    → (below : k < 128) (is : is_candidate entries k ≡ true)
    → get_or ranks place 0 < rank_in entries k → place < (o.places k below is).place
place_behind entries ranks o place k inside below is later =
    let has = o.places k below is in
    not_later place has.place (rank_in entries k) (get_or ranks place 0) later
    (λ earlier. subst (λ (r : ℕ). r ≤ get_or ranks place 0) has.is (o.order has.place place earlier inside))
