-- The first good candidate in order is the chosen one, the least version is that of those behind it, and each entry has its
-- fate.
use Rattle.std.proofs.Common.{◌≡◌, ℕ, ◌+◌, ◌-◌, ◌*◌, ◌<◌, ◌≤◌, ◌⊎◌, inl, inr, Bool, true, false, not, ◌&&◌, ◌||◌, nat_eq, Some, List}
use Rattle.std.proofs.Common.{length, get_or, drop, refl, ap, sym, subst, ◌∙◌, arith, true≢false, get_or-drop, length-drop}
use Rattle.std.specs.Prelude.{is_some, if◌then◌else◌}
use Rattle.std.proofs.lemmas.Bool.{and_from, and_parts, and_left, and_right, ltb-true}
use Rattle.gpt_core.specs.Entries.{attributes_in, first_in}
use Rattle.walk_core.specs.Attributes.{tried, found_bad}
use Rattle.gpt_core.specs.Attributes.{priority_of}
use Rattle.walk_core.specs.Candidates.{is_candidate, rank_in}
use Rattle.walk_core.specs.Kernels.{WalkQuestion, body_fault}
use Rattle.walk_core.specs.Chosen.{sectors_in, head_is_good, kernel_is_good, is_good_candidate, head_of, ComesBefore, comes_before}
use Rattle.walk_core.specs.Chosen.{IsChosen, later_count_by, later_count, Counts, IsLeastVersion, IsLowestFor}
use Rattle.walk_core.specs.Fates.{fate_by, has_bad_head, fate}
use Rattle.walk_core.specs.Steps.{entry_at, entry_in_order, Knows, none_later, mark_of}
use Rattle.walk_core.specs.declared.later.Later.{Later}
use Rattle.walk_core.proofs.OrderFacts.{Ordered, place_before, place_behind, rank_rest}
use Rattle.walk_core.proofs.FirstSteps.{has_entry}
use Rattle.walk_core.proofs.LaterSteps.{unmarked}

-- ---- earlier is of lower rank

lower : (p p' k k' : ℕ) → p < 16 → p' < 16 → k < 128 → k' < 128 → (p' < p) ⊎ ((p ≡ p') × (k < k'))
    → (15 - p) * 128 + k < (15 - p') * 128 + k'
lower p p' k k' few few' below below' (inl higher) = omega (arith, few, few', below, below', higher)
lower p p' k k' few few' below below' (inr both) = omega (arith, few, few', below, below', both.0, both.1)

earlier_of : (p p' k k' : ℕ) → p < 16 → p' < 16 → k < 128 → k' < 128 → (15 - p) * 128 + k < (15 - p') * 128 + k'
    → (p' < p) ⊎ ((p ≡ p') × (k < k'))
earlier_of p p' k k' few few' below below' less =
    let split : (p' < p) ⊎ ((p ≡ p') ⊎ (p < p')) = grind arith in
    elim split [
      | inl higher ↦ inl higher
      | inr rest ↦ elim rest [
        | inl same ↦ inr (same, omega (arith, few, few', below, below', same, less))
        | inr lower ↦ absurd (omega (arith, few, few', below, below', lower, less))
      ]
    ]

priority_few : (attributes : ℕ) → priority_of attributes < 16
priority_few attributes = omega arith

pub earlier_lower : (entries : List ℕ) (j k : ℕ) → j < 128 → k < 128 → ComesBefore entries j k → rank_in entries j < rank_in entries k
earlier_lower entries j k below below' earlier =
    lower (priority_of (attributes_in entries j)) (priority_of (attributes_in entries k)) j k (priority_few (attributes_in entries j))
    (priority_few (attributes_in entries k)) below below' earlier

pub lower_earlier : (entries : List ℕ) (j k : ℕ) → j < 128 → k < 128 → rank_in entries j < rank_in entries k → ComesBefore entries j k
lower_earlier entries j k below below' less =
    earlier_of (priority_of (attributes_in entries j)) (priority_of (attributes_in entries k)) j k (priority_few (attributes_in entries j))
    (priority_few (attributes_in entries k)) below below' less

-- ---- none is good

pub none_chosen : (d : WalkQuestion) (entries ranks : List ℕ) → Ordered entries ranks
    → ((p : ℕ) → p < length ranks → kernel_is_good d entries (entry_in_order ranks p) ≡ false)
    → (j : ℕ) → j < 128 → (b : Bool) → is_candidate entries j ≡ b → is_good_candidate d entries j ≡ false
none_chosen d entries ranks o bad j below false is = and_left (is_candidate entries j) (kernel_is_good d entries j) is
none_chosen d entries ranks o bad j below true is =
    let has = o.places j below is in
    and_right (is_candidate entries j) (kernel_is_good d entries j)
    (ap (kernel_is_good d entries) (sym (has_entry entries ranks j has below)) ∙ bad has.place has.inside)

-- ---- the first good one

pub is_chosen : (d : WalkQuestion) (entries ranks : List ℕ) (o : Ordered entries ranks) (place : ℕ) → place < length ranks
    → ((p : ℕ) → p < place → kernel_is_good d entries (entry_in_order ranks p) ≡ false)
    → kernel_is_good d entries (entry_in_order ranks place) ≡ true
    → IsChosen d entries (entry_in_order ranks place)
is_chosen d entries ranks o place inside bad good =
    let k = entry_in_order ranks place in
    let here = o.ranked place inside in
    record {
      inside = here.below;
      good = and_from (is_candidate entries k) (kernel_is_good d entries k) here.candidate good;
      none_earlier = λ j below fine earlier.
          let parts = and_parts (is_candidate entries j) (kernel_is_good d entries j) fine in
          let less = earlier_lower entries j k below here.below earlier in
          let before : (o.places j below parts.0).place < place = place_before entries ranks o place j inside below parts.0
          (subst (λ (r : ℕ). rank_in entries j < r) (sym here.same) less) in
          let has = o.places j below parts.0 in
          true≢false (sym parts.1 ∙ ap (kernel_is_good d entries) (sym (has_entry entries ranks j has below)) ∙ bad has.place before);
    }

-- ---- those behind it

behind_entry : (ranks : List ℕ) (place q : ℕ) → entry_in_order (drop (place + 1) ranks) q ≡ entry_in_order ranks (place + 1 + q)
behind_entry ranks place q = ap entry_at (get_or-drop (place + 1) ranks q 0)

two_ways : (a b : ℕ) → a ≤ b → (a ≡ b) ⊎ (a < b)
two_ways a b le = grind (arith, le)

-- the place of a later candidate among those behind the chosen one
pub record HasPlaceBehind (ranks : List ℕ) (place k : ℕ) : Type 0 where
  pub place' : ℕ
  pub inside : place' < length (drop (place + 1) ranks)
  pub is : entry_in_order (drop (place + 1) ranks) place' ≡ k

pub behind : (entries ranks : List ℕ) (o : Ordered entries ranks) (place k : ℕ) → place < length ranks → k < 128
    → is_candidate entries k ≡ true
    → rank_in entries (entry_in_order ranks place) < rank_in entries k → HasPlaceBehind ranks place k
behind entries ranks o place k inside below is later =
    let has = o.places k below is in
    let here = o.ranked place inside in
    let after : place < has.place = place_behind entries ranks o place k inside below is
    (subst (λ (r : ℕ). r < rank_in entries k) (sym here.same) later) in
    let back : place + 1 + (has.place - (place + 1)) ≡ has.place = omega (arith, after) in
    let long = length-drop (place + 1) ranks in
    record {
      place' = has.place - (place + 1);
      inside = omega (arith, after, has.inside, long);
      is = behind_entry ranks place (has.place - (place + 1)) ∙ ap (λ (q : ℕ). entry_in_order ranks q) back
          ∙ has_entry entries ranks k has below;
    }

-- an entry of no lower rank is the same one or later
not_before : (entries : List ℕ) (c k : ℕ) → c < 128 → k < 128 → rank_in entries c ≤ rank_in entries k → (k ≡ c) ⊎ ComesBefore entries c k
not_before entries c k below below' le =
    let split : (rank_in entries c ≡ rank_in entries k) ⊎ (rank_in entries c < rank_in entries k) = two_ways (rank_in entries c)
    (rank_in entries k) le in
    elim split [
      | inl same ↦ inl (sym (rank_rest entries k below') ∙ ap entry_at (sym same) ∙ rank_rest entries c below)
      | inr less ↦ inr (lower_earlier entries c k below below' less)
    ]

-- each of those behind it counts where its head is good
behind_counts : (d : WalkQuestion) (entries ranks : List ℕ) (o : Ordered entries ranks) (place q : ℕ) → place < length ranks
    → q < length (drop (place + 1) ranks)
    → head_is_good d entries (entry_in_order (drop (place + 1) ranks) q) ≡ true
    → Counts d entries (entry_in_order ranks place) (entry_in_order (drop (place + 1) ranks) q)
behind_counts d entries ranks o place q inside within good =
    let long = length-drop (place + 1) ranks in
    let far : place + 1 + q < length ranks = omega (arith, within, long, inside) in
    let c = entry_in_order ranks place in
    let here = o.ranked place inside in
    let there = o.ranked (place + 1 + q) far in
    let same = behind_entry ranks place q in
    let le : rank_in entries c ≤ rank_in entries (entry_in_order ranks (place + 1 + q)) =
    subst (λ (r : ℕ). rank_in entries c ≤ r) there.same
    (subst (λ (r : ℕ). r ≤ get_or ranks (place + 1 + q) 0) here.same (o.order place (place + 1 + q) (omega arith) far)) in
    subst (λ (k : ℕ). Counts d entries c k) (sym same) (record {
      inside = there.below;
      candidate = there.candidate;
      head = ap (head_is_good d entries) (sym same) ∙ good;
      place = not_before entries c (entry_in_order ranks (place + 1 + q)) here.below there.below le;
    })

-- ---- the least version

good_head : (d : WalkQuestion) (entries : List ℕ) (k : ℕ) → kernel_is_good d entries k ≡ true → head_is_good d entries k ≡ true
good_head d entries k good =
    (and_parts (head_is_good d entries k) (not (is_some (body_fault d (first_in entries k) (sectors_in entries k)))) good).0

least_version : (d : WalkQuestion) (entries ranks : List ℕ) (o : Ordered entries ranks) (place : ℕ) (later : Later) → place < length ranks
    → kernel_is_good d entries (entry_in_order ranks place) ≡ true → (version : ℕ)
    → version ≡ (head_of d entries (entry_in_order ranks place)).version
    → Knows d entries (drop (place + 1) ranks) version (length (drop (place + 1) ranks)) later
    → IsLeastVersion d entries (entry_in_order ranks place) later.lowest
least_version d entries ranks o place later inside good version is knows =
    let c = entry_in_order ranks place in
    let ranks' = drop (place + 1) ranks in
    let here = o.ranked place inside in
    let counts : Counts d entries c c = record { inside = here.below; candidate = here.candidate; head = good_head d entries c good; place = inl refl } in
    let below_all : (k : ℕ) → Counts d entries c k → later.lowest ≤ (head_of d entries k).version =
    λ k counted. elim counted.place [
      | inl same ↦ subst (λ (n : ℕ). later.lowest ≤ n) (is ∙ ap (λ (j : ℕ). (head_of d entries j).version) (sym same)) knows.given
      | inr after ↦
          let has = behind entries ranks o place k inside counted.inside counted.candidate
          (earlier_lower entries c k here.below counted.inside after) in
          subst (λ (j : ℕ). later.lowest ≤ (head_of d entries j).version) has.is
          (knows.least has.place' has.inside (ap (head_is_good d entries) has.is ∙ counted.head))
    ] in
    elim knows.one [
      | inl given ↦ record { at = c; counts = counts; version = given ∙ is; least = below_all }
      | inr has ↦ record { at = entry_in_order ranks' has.place; counts = behind_counts d entries ranks o place has.place inside has.inside has.good; version = has.same; least = below_all }
    ]

pub is_lowest : (d : WalkQuestion) (entries ranks : List ℕ) (o : Ordered entries ranks) (place : ℕ) (later : Later) → place < length ranks
    → kernel_is_good d entries (entry_in_order ranks place) ≡ true → (version : ℕ)
    → version ≡ (head_of d entries (entry_in_order ranks place)).version
    → (later_count_by d.rules version ≡ true → Knows d entries (drop (place + 1) ranks) version (length (drop (place + 1) ranks)) later)
    → (later_count_by d.rules version ≡ false → later ≡ none_later d.rules.stored)
    → IsLowestFor d entries (entry_in_order ranks place) later.lowest
is_lowest d entries ranks o place later inside good version is counted stored =
    let same : later_count_by d.rules version ≡ later_count d entries (entry_in_order ranks place) = ap (later_count_by d.rules) is in
    record {
      counted = λ it. least_version d entries ranks o place later inside good version is (counted (same ∙ it));
      stored = λ it. ap (λ (l : Later). l.lowest) (stored (same ∙ it));
    }

-- ---- the fates

-- a later candidate is marked exactly where its head is bad
marked_alike : (d : WalkQuestion) (entries ranks : List ℕ) (o : Ordered entries ranks) (place : ℕ) (later : Later) → place < length ranks
    → (version : ℕ)
    → Knows d entries (drop (place + 1) ranks) version (length (drop (place + 1) ranks)) later
    → (k : ℕ) → k < 128 → is_candidate entries k ≡ true → rank_in entries (entry_in_order ranks place) < rank_in entries k
    → (good : Bool) → head_is_good d entries k ≡ good → (marked : Bool) → mark_of later.bad k ≡ marked → marked ≡ not good
marked_alike d entries ranks o place later inside version knows k below is after true good true marked = absurd
    (true≢false (sym good ∙ knows.sound k marked))
marked_alike d entries ranks o place later inside version knows k below is after true good false marked = refl
marked_alike d entries ranks o place later inside version knows k below is after false good true marked = refl
marked_alike d entries ranks o place later inside version knows k below is after false good false marked =
    let has = behind entries ranks o place k inside below is after in
    absurd (true≢false (sym (knows.complete has.place' has.inside (ap (head_is_good d entries) has.is ∙ good)) ∙ ap
    (λ (j : ℕ). get_or later.bad j false) has.is ∙ marked))

-- what is noted of a later candidate
noted_of : (d : WalkQuestion) (entries ranks : List ℕ) (o : Ordered entries ranks) (place : ℕ) (later : Later) → place < length ranks
    → (version : ℕ) → version ≡ (head_of d entries (entry_in_order ranks place)).version
    → (later_count_by d.rules version ≡ true → Knows d entries (drop (place + 1) ranks) version (length (drop (place + 1) ranks)) later)
    → (later_count_by d.rules version ≡ false → later ≡ none_later d.rules.stored)
    → (k : ℕ) → k < 128 → is_candidate entries k ≡ true → rank_in entries (entry_in_order ranks place) < rank_in entries k
    → (counts : Bool) → later_count d entries (entry_in_order ranks place) ≡ counts
    → mark_of later.bad k ≡ (counts && not (head_is_good d entries k))
noted_of d entries ranks o place later inside version is counted stored k below candidate after true same_count =
    let same : later_count_by d.rules version ≡ later_count d entries (entry_in_order ranks place) = ap (later_count_by d.rules) is in
    marked_alike d entries ranks o place later inside version (counted (same ∙ same_count)) k below candidate after
    (head_is_good d entries k) refl (mark_of later.bad k) refl
noted_of d entries ranks o place later inside version is counted stored k below candidate after false same_count =
    let same : later_count_by d.rules version ≡ later_count d entries (entry_in_order ranks place) = ap (later_count_by d.rules) is in
    ap (λ (l : Later). mark_of l.bad k) (stored (same ∙ same_count)) ∙ unmarked k

alike : (candidate before after one two : Bool) → (candidate ≡ true → after ≡ true → one ≡ two)
    → (candidate && (before || (after && one))) ≡ (candidate && (before || (after && two)))
alike false before after one two same = refl
alike true true after one two same = refl
alike true false false one two same = refl
alike true false true one two same = same refl refl

pub fates_are : (d : WalkQuestion) (entries ranks : List ℕ) (o : Ordered entries ranks) (place : ℕ) (later : Later) → place < length ranks
    → (version : ℕ) → version ≡ (head_of d entries (entry_in_order ranks place)).version
    → (later_count_by d.rules version ≡ true → Knows d entries (drop (place + 1) ranks) version (length (drop (place + 1) ranks)) later)
    → (later_count_by d.rules version ≡ false → later ≡ none_later d.rules.stored)
    → (k : ℕ) → k < 128 → fate_by (mark_of later.bad) entries (Some (entry_in_order ranks place)) k ≡ fate d entries
    (Some (entry_in_order ranks place)) k
fates_are d entries ranks o place later inside version is counted stored k below =
    let c = entry_in_order ranks place in
    ap (λ (b : Bool). if nat_eq c k then tried (attributes_in entries k) else
    (if b then found_bad (attributes_in entries k) else attributes_in entries k))
    (alike (is_candidate entries k) (comes_before entries k c) (comes_before entries c k) (mark_of later.bad k)
    (has_bad_head d entries (Some c) k)
    (λ candidate after. noted_of d entries ranks o place later inside version is counted stored k below candidate
    (ltb-true (rank_in entries c) (rank_in entries k) after) (later_count d entries c) refl))
