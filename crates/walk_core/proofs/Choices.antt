-- What is said of the chosen entry and of the least version is what the functions compute.
use Rattle.std.proofs.Common.{◌≡◌, ℕ, zero, suc, ◌+◌, ◌-◌, ◌*◌, ◌%◌, ◌<◌, ◌≤◌, ◌⊎◌, inl, inr, min, Bool, true, false, ◌&&◌, ◌||◌, List}
use Rattle.std.proofs.Common.{Option, Some, None, refl, ap, sym, subst, ◌∙◌, arith, true≢false}
use Rattle.std.specs.Prelude.{nat_eq, if◌then◌else◌}
use Rattle.std.proofs.lemmas.Bool.{and_parts, and_from, ltb-true, ltb-false, eqb-true, eq-eqb, lt-ltb, or_cases, or_left, or_right}
use Rattle.gpt_core.specs.Entries.{attributes_in}
use Rattle.gpt_core.specs.Attributes.{priority_of}
use Rattle.walk_core.specs.Candidates.{is_candidate, rank_in}
use Rattle.walk_core.specs.Kernels.{WalkQuestion}
use Rattle.walk_core.specs.Chosen.{head_is_good, kernel_is_good, is_good_candidate, head_of, ComesBefore, comes_before, IsChosen, Chosen}
use Rattle.walk_core.specs.Chosen.{later_count, Counts, IsLeastVersion, IsLowest}
use Rattle.walk_core.specs.Choice.{earlier_of, chosen_below, chosen_in, counts, least_below, lowest_in}
use Rattle.walk_core.proofs.OrderFacts.{rank_rest}

-- ---- the order of entries is that of their ranks

rank_before : (p k p' k' : ℕ) → p < 16 → p' < 16 → k < 128 → k' < 128 → (15 - p) * 128 + k < (15 - p') * 128 + k'
    → (p' < p) ⊎ ((p ≡ p') × (k < k'))
rank_before p k p' k' most most' below below' less =
    let split : (p' < p) ⊎ ((p ≡ p') ⊎ (p < p')) = grind arith in
    elim split [
      | inl higher ↦ inl higher
      | inr rest ↦ elim rest [
        | inl same ↦ inr (same, omega (arith, less, ap (λ (q : ℕ). (15 - q) * 128) same))
        | inr lower ↦ absurd (grind (arith, less, lower, below, below'))
      ]
    ]

before_rank : (p k p' k' : ℕ) → p < 16 → p' < 16 → k < 128 → k' < 128 → (p' < p) ⊎ ((p ≡ p') × (k < k'))
    → (15 - p) * 128 + k < (15 - p') * 128 + k'
before_rank p k p' k' most most' below below' before =
    elim before [
      | inl higher ↦ grind (arith, higher, most, most', below, below')
      | inr tie ↦ omega (arith, ap (λ (q : ℕ). (15 - q) * 128) tie.0, tie.1)
    ]

priority-small : (a : ℕ) → priority_of a < 16
priority-small a = grind arith

pub before_by_rank : (entries : List ℕ) (j k : ℕ) → j < 128 → k < 128 → rank_in entries j < rank_in entries k → ComesBefore entries j k
before_by_rank entries j k below below' less =
    rank_before (priority_of (attributes_in entries j)) j (priority_of (attributes_in entries k)) k
    (priority-small (attributes_in entries j)) (priority-small (attributes_in entries k)) below below' less

pub rank_by_before : (entries : List ℕ) (j k : ℕ) → j < 128 → k < 128 → ComesBefore entries j k → rank_in entries j < rank_in entries k
rank_by_before entries j k below below' before =
    before_rank (priority_of (attributes_in entries j)) j (priority_of (attributes_in entries k)) k
    (priority-small (attributes_in entries j)) (priority-small (attributes_in entries k)) below below' before

-- entries of one rank are one
pub one_rank : (entries : List ℕ) (j k : ℕ) → j < 128 → k < 128 → rank_in entries j ≡ rank_in entries k → j ≡ k
one_rank entries j k below below' same = sym (rank_rest entries j below) ∙ ap (λ (r : ℕ). r % 128) same ∙ rank_rest entries k below'

-- ---- the earliest good candidate among so many entries

record IsBest (n : ℕ) (d : WalkQuestion) (entries : List ℕ) (k : ℕ) : Type 0 where
  inside : k < n
  good : is_good_candidate d entries k ≡ true
  lowest : (j : ℕ) → j < n → is_good_candidate d entries j ≡ true → rank_in entries k ≤ rank_in entries j

abbrev Best : ℕ → WalkQuestion → List ℕ → Option ℕ → Type 0
Best n d entries (Some k) = IsBest n d entries k
Best n d entries None = (j : ℕ) → j < n → is_good_candidate d entries j ≡ false

one_more : (n j : ℕ) → j < suc n → (j ≡ n) ⊎ (j < n)
one_more n j less = grind arith

best_first : (n : ℕ) (d : WalkQuestion) (entries : List ℕ) → is_good_candidate d entries n ≡ true → Best n d entries None
    → IsBest (suc n) d entries n
best_first n d entries good none = record {
  inside = omega arith;
  good = good;
  lowest = λ j less is.
      elim (one_more n j less) [
        | inl same ↦ subst (λ (i : ℕ). rank_in entries n ≤ rank_in entries i) (sym same) (omega arith)
        | inr before ↦ absurd (true≢false (sym is ∙ none j before))
      ];
}

best_new : (n : ℕ) (d : WalkQuestion) (entries : List ℕ) (i : ℕ) → is_good_candidate d entries n ≡ true → IsBest n d entries i
    → rank_in entries n < rank_in entries i → IsBest (suc n) d entries n
best_new n d entries i good best less = record {
  inside = omega arith;
  good = good;
  lowest = λ j below is.
      elim (one_more n j below) [
        | inl same ↦ subst (λ (m : ℕ). rank_in entries n ≤ rank_in entries m) (sym same) (omega arith)
        | inr before ↦ let most = best.lowest j before is in omega (arith, most, less)
      ];
}

best_old : (n : ℕ) (d : WalkQuestion) (entries : List ℕ) (i : ℕ) → IsBest n d entries i → rank_in entries i ≤ rank_in entries n
    → IsBest (suc n) d entries i
best_old n d entries i best most = record {
  inside = omega (arith, best.inside);
  good = best.good;
  lowest = λ j below is.
      elim (one_more n j below) [
        | inl same ↦ subst (λ (m : ℕ). rank_in entries i ≤ rank_in entries m) (sym same) most
        | inr before ↦ best.lowest j before is
      ];
}

best_either : (n : ℕ) (d : WalkQuestion) (entries : List ℕ) (i : ℕ) → is_good_candidate d entries n ≡ true → IsBest n d entries i
    → (b : Bool) → comes_before entries n i ≡ b
    → IsBest (suc n) d entries (if b then n else i)
best_either n d entries i good best true is = best_new n d entries i good best (ltb-true (rank_in entries n) (rank_in entries i) is)
best_either n d entries i good best false is = best_old n d entries i best (ltb-false (rank_in entries n) (rank_in entries i) is)

best_good : (n : ℕ) (d : WalkQuestion) (entries : List ℕ) (was : Option ℕ) → is_good_candidate d entries n ≡ true → Best n d entries was
    → Best (suc n) d entries (earlier_of entries was n)
best_good n d entries None good best = best_first n d entries good best
best_good n d entries (Some i) good best = best_either n d entries i good best (comes_before entries n i) refl

best_bad : (n : ℕ) (d : WalkQuestion) (entries : List ℕ) (was : Option ℕ) → is_good_candidate d entries n ≡ false → Best n d entries was
    → Best (suc n) d entries was
best_bad n d entries None bad best = λ j less.
    elim (one_more n j less) [
      | inl same ↦ ap (is_good_candidate d entries) same ∙ bad
      | inr before ↦ best j before
    ]
best_bad n d entries (Some i) bad best = record {
  inside = omega (arith, best.inside);
  good = best.good;
  lowest = λ j less is.
      elim (one_more n j less) [
        | inl same ↦ absurd (true≢false (sym is ∙ ap (is_good_candidate d entries) same ∙ bad))
        | inr before ↦ best.lowest j before is
      ];
}

best_step : (n : ℕ) (d : WalkQuestion) (entries : List ℕ) (was : Option ℕ) (b : Bool) → is_good_candidate d entries n ≡ b
    → Best n d entries was
    → Best (suc n) d entries (if b then earlier_of entries was n else was)
best_step n d entries was true is best = best_good n d entries was is best
best_step n d entries was false is best = best_bad n d entries was is best

best_below : (n : ℕ) (d : WalkQuestion) (entries : List ℕ) → Best n d entries (chosen_below n d entries)
unfolding chosen_below
best_below zero d entries = λ j less. absurd (omega (arith, less))
best_below (suc n) d entries = best_step n d entries (chosen_below n d entries) (is_good_candidate d entries n) refl
    (best_below n d entries)

-- ---- the chosen one is it

both_chosen : (d : WalkQuestion) (entries : List ℕ) (k i : ℕ) → IsChosen d entries k → IsBest 128 d entries i → k ≡ i
both_chosen d entries k i chosen best =
    let most = best.lowest k chosen.inside chosen.good in
    let split : (rank_in entries i < rank_in entries k) ⊎ (rank_in entries k ≡ rank_in entries i) = grind (arith, most) in
    elim split [
      | inl less ↦ absurd (chosen.none_earlier i best.inside best.good (before_by_rank entries i k best.inside chosen.inside less))
      | inr same ↦ one_rank entries k i chosen.inside best.inside same
    ]

chosen_same : (d : WalkQuestion) (entries : List ℕ) (c b : Option ℕ) → Chosen d entries c → Best 128 d entries b → c ≡ b
chosen_same d entries None None chosen best = refl
chosen_same d entries None (Some i) chosen best = absurd (true≢false (sym best.good ∙ chosen i best.inside))
chosen_same d entries (Some k) None chosen best = absurd (true≢false (sym chosen.good ∙ best k chosen.inside))
chosen_same d entries (Some k) (Some i) chosen best = ap Some (both_chosen d entries k i chosen best)

pub chosen_is : (d : WalkQuestion) (entries : List ℕ) (c : Option ℕ) → Chosen d entries c → c ≡ chosen_in d entries
chosen_is d entries c chosen = chosen_same d entries c (chosen_in d entries) chosen (best_below 128 d entries)

-- and the function gives a chosen one
chosen_from : (d : WalkQuestion) (entries : List ℕ) (b : Option ℕ) → Best 128 d entries b → Chosen d entries b
chosen_from d entries None best = best
chosen_from d entries (Some i) best = record {
  inside = best.inside;
  good = best.good;
  none_earlier = λ j below good before.
      let less = rank_by_before entries j i below best.inside before in
      let most = best.lowest j below good in
      omega (arith, less, most);
}

pub is_chosen : (d : WalkQuestion) (entries : List ℕ) → Chosen d entries (chosen_in d entries)
is_chosen d entries = chosen_from d entries (chosen_in d entries) (best_below 128 d entries)

-- ---- the least version

-- the version of an entry's head
abbrev version_of : WalkQuestion → List ℕ → ℕ → ℕ
version_of d entries k = (head_of d entries k).version

counts_from : (d : WalkQuestion) (entries : List ℕ) (chosen k : ℕ) → chosen < 128 → k < 128 → counts d entries chosen k ≡ true
    → Counts d entries chosen k
counts_from d entries chosen k below inside is =
    let outer = and_parts (is_candidate entries k && head_is_good d entries k) (nat_eq k chosen || comes_before entries chosen k) is in
    let inner = and_parts (is_candidate entries k) (head_is_good d entries k) outer.0 in
    record {
      inside = inside;
      candidate = inner.0;
      head = inner.1;
      place =
          elim (or_cases (nat_eq k chosen) (comes_before entries chosen k) outer.1) [
            | inl same ↦ inl (eqb-true k chosen same)
            | inr behind ↦ inr (before_by_rank entries chosen k below inside (ltb-true (rank_in entries chosen) (rank_in entries k) behind))
          ];
    }

counts_place : (d : WalkQuestion) (entries : List ℕ) (chosen k : ℕ) → chosen < 128 → k < 128 → (k ≡ chosen) ⊎ ComesBefore entries chosen k
    → (nat_eq k chosen || comes_before entries chosen k) ≡ true
counts_place d entries chosen k below inside place =
    elim place [
      | inl same ↦ or_left (nat_eq k chosen) (comes_before entries chosen k) (eq-eqb k chosen same)
      | inr behind ↦ or_right (nat_eq k chosen) (comes_before entries chosen k) (lt-ltb (rank_in entries chosen) (rank_in entries k) (rank_by_before entries chosen k below inside behind))
    ]

counts_to : (d : WalkQuestion) (entries : List ℕ) (chosen k : ℕ) → chosen < 128 → Counts d entries chosen k
    → counts d entries chosen k ≡ true
counts_to d entries chosen k below c =
    and_from (is_candidate entries k && head_is_good d entries k) (nat_eq k chosen || comes_before entries chosen k)
    (and_from (is_candidate entries k) (head_is_good d entries k) c.candidate c.head)
    (counts_place d entries chosen k below c.inside c.place)

-- what was found so far: the version of the chosen entry or of one that counts, and no higher than any of them
record IsLeastBelow (n : ℕ) (d : WalkQuestion) (entries : List ℕ) (chosen least : ℕ) : Type 0 where
  had : (least ≡ version_of d entries chosen) ⊎ ((k : ℕ) × (k < n) × (counts d entries chosen k ≡ true) × (least ≡ version_of d entries k))
  most : least ≤ version_of d entries chosen
  lowest : (k : ℕ) → k < n → counts d entries chosen k ≡ true → least ≤ version_of d entries k

min_either : (a b : ℕ) → ((min a b ≡ a) × (a ≤ b)) ⊎ ((min a b ≡ b) × (b ≤ a))
min_either a b = grind arith

min_most : (a b v : ℕ) → a ≤ v → min a b ≤ v
min_most a b v le = elim (min_either a b) [
  | inl old ↦ omega (arith, old.0, le)
  | inr new ↦ omega (arith, new.0, new.1, le)
]

min_second : (a b : ℕ) → min a b ≤ b
min_second a b = elim (min_either a b) [
  | inl old ↦ omega (arith, old.0, old.1)
  | inr new ↦ omega (arith, new.0)
]

same_le : (a b : ℕ) → a ≡ b → a ≤ b
same_le a b same = omega (arith, same)

at_most : (l v w : ℕ) → w ≡ v → l ≤ v → l ≤ w
at_most l v w same le = omega (arith, same, le)

between : (lowest least v : ℕ) → least ≤ v → lowest ≤ least → lowest ≡ v → lowest ≡ least
between lowest least v low high same = omega (arith, low, high, same)

least_step_counts : (n : ℕ) (d : WalkQuestion) (entries : List ℕ) (chosen was : ℕ) → counts d entries chosen n ≡ true
    → IsLeastBelow n d entries chosen was
    → IsLeastBelow (suc n) d entries chosen (min was (version_of d entries n))
least_step_counts n d entries chosen was is so = record {
  had =
      elim (min_either was (version_of d entries n)) [
        | inl old ↦ elim so.had [
          | inl first ↦ inl (old.0 ∙ first)
          | inr other ↦ inr (other.0, omega (arith, other.1), other.2, old.0 ∙ other.3)
        ]
        | inr new ↦ inr (n, omega arith, is, new.0)
      ];
  most = min_most was (version_of d entries n) (version_of d entries chosen) so.most;
  lowest = λ k less counted.
      elim (one_more n k less) [
        | inl same ↦ subst (λ (i : ℕ). min was (version_of d entries n) ≤ version_of d entries i) (sym same) (min_second was (version_of d entries n))
        | inr before ↦ min_most was (version_of d entries n) (version_of d entries k) (so.lowest k before counted)
      ];
}

least_step_not : (n : ℕ) (d : WalkQuestion) (entries : List ℕ) (chosen was : ℕ) → counts d entries chosen n ≡ false
    → IsLeastBelow n d entries chosen was → IsLeastBelow (suc n) d entries chosen was
least_step_not n d entries chosen was not_so so = record {
  had =
      elim so.had [
        | inl first ↦ inl first
        | inr other ↦ inr (other.0, omega (arith, other.1), other.2, other.3)
      ];
  most = so.most;
  lowest = λ k less counted.
      elim (one_more n k less) [
        | inl same ↦ absurd (true≢false (sym counted ∙ ap (counts d entries chosen) same ∙ not_so))
        | inr before ↦ so.lowest k before counted
      ];
}

least_step : (n : ℕ) (d : WalkQuestion) (entries : List ℕ) (chosen was : ℕ) (b : Bool) → counts d entries chosen n ≡ b
    → IsLeastBelow n d entries chosen was
    → IsLeastBelow (suc n) d entries chosen (if b then min was (version_of d entries n) else was)
least_step n d entries chosen was true is so = least_step_counts n d entries chosen was is so
least_step n d entries chosen was false is so = least_step_not n d entries chosen was is so

least_below_is : (n : ℕ) (d : WalkQuestion) (entries : List ℕ) (chosen : ℕ)
    → IsLeastBelow n d entries chosen (least_below n d entries chosen)
unfolding least_below
least_below_is zero d entries chosen = record {
  had = inl refl;
  most = same_le _ _ refl;
  lowest = λ k less counted. absurd
      (omega (arith, less));
}
least_below_is (suc n) d entries chosen =
    least_step n d entries chosen (least_below n d entries chosen) (counts d entries chosen n) refl (least_below_is n d entries chosen)

-- so it is no higher than that of the chosen one
pub least_most : (d : WalkQuestion) (entries : List ℕ) (chosen : ℕ) → least_below 128 d entries chosen ≤ (head_of d entries chosen).version
least_most d entries chosen = (least_below_is 128 d entries chosen).most

both_least : (d : WalkQuestion) (entries : List ℕ) (chosen lowest least : ℕ) → IsChosen d entries chosen → IsLeastVersion d entries chosen lowest → IsLeastBelow 128 d entries chosen least → lowest ≡ least
both_least d entries chosen lowest least c is so =
    let low = so.lowest is.at is.counts.inside (counts_to d entries chosen is.at c.inside is.counts) in
    let good = and_parts (is_candidate entries chosen) (kernel_is_good d entries chosen) c.good in
    let own : Counts d entries chosen chosen = record {
      inside = c.inside;
      candidate = good.0;
      head = (and_parts
          (head_is_good d entries chosen) _ good.1).0;
      place = inl refl;
    } in
    let high : lowest ≤ least =
    elim so.had [
      | inl first ↦ at_most lowest (version_of d entries chosen) least first (is.least chosen own)
      | inr other ↦ at_most lowest (version_of d entries other.0) least other.3 (is.least other.0 (counts_from d entries chosen other.0 c.inside other.1 other.2))
    ] in
    between lowest least (version_of d entries is.at) low high is.version

lowest_of : (d : WalkQuestion) (entries : List ℕ) (chosen lowest : ℕ) (b : Bool) → later_count d entries chosen ≡ b
    → IsChosen d entries chosen → IsLowest d entries (Some chosen) lowest
    → lowest ≡ (if b then least_below 128 d entries chosen else d.rules.stored)
lowest_of d entries chosen lowest true is c so = both_least d entries chosen lowest (least_below 128 d entries chosen) c (so.counted is)
    (least_below_is 128 d entries chosen)
lowest_of d entries chosen lowest false is c so = so.stored is

pub lowest_is : (d : WalkQuestion) (entries : List ℕ) (chosen : Option ℕ) (lowest : ℕ) → Chosen d entries chosen
    → IsLowest d entries chosen lowest → lowest ≡ lowest_in d entries chosen
lowest_is d entries None lowest c so = so
lowest_is d entries (Some chosen) lowest c so = lowest_of d entries chosen lowest (later_count d entries chosen) refl c so
