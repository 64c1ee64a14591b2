-- Groups and ranks depend on the groups of the 128 entries alone, and are counted one after the other.
use Rattle.std.proofs.Common.{◌≡◌, ◌∙◌, ℕ, zero, suc, ◌+◌, ◌-◌, ◌<◌, Bool, ◌&&◌, Option, List, refl, ap, arith}
use Rattle.std.specs.Prelude.{if◌then◌else◌, max, min, nat_eq, nat_lt, not}
use Rattle.gpt_core.specs.Entries.{attributes_in}
use Rattle.gpt_core.specs.Attributes.{with_priority}
use Rattle.gpt_core.proofs.AllBelow.{all_below-same}
use Rattle.cgpt_core.specs.Adding.{given_or}
use Rattle.cgpt_core.specs.Ranking.{attributes_ranked, count_below, is_group, rank, top_value, value_of}

pub count_none : (test : ℕ → Bool) → count_below 0 test ≡ 0
unfolding count_below
count_none test = refl

-- one more, that passes or does not
pub count_more : (count : ℕ) (test : ℕ → Bool) (passes : Bool) → test count ≡ passes
    → count_below (count + 1) test ≡ count_below count test + (if passes then 1 else 0)
unfolding count_below
count_more count test passes is =
    let next : count + 1 ≡ suc count = omega arith in
    ap (λ (n : ℕ). count_below n test) next ∙ ap (λ (b : Bool). count_below count test + (if b then 1 else 0)) is

pub count_same : (count : ℕ) (one two : ℕ → Bool) → ((k : ℕ) → one k ≡ two k) → count_below count one ≡ count_below count two
unfolding count_below
count_same zero one two same = refl
count_same (suc k) one two same =
    ap (λ (n : ℕ). n + (if one k then 1 else 0)) (count_same k one two same)
    ∙ ap (λ (b : Bool). count_below k two + (if b then 1 else 0)) (same k)

module _ (one two : ℕ → ℕ) (same : (k : ℕ) → k < 128 → one k ≡ two k) where
  group_same : (group : ℕ) → is_group one group ≡ is_group two group
  group_same group =
      ap not (all_below-same 128 (λ (k : ℕ). not (nat_eq (one k) group)) (λ (k : ℕ). not (nat_eq (two k) group))
      (λ k below. ap (λ (n : ℕ). not (nat_eq n group)) (same k below)))

  rank_same : (group : ℕ) → rank one group ≡ rank two group
  rank_same group =
      count_same 17 (λ (above : ℕ). nat_lt group above && is_group one above) (λ (above : ℕ). nat_lt group above && is_group two above)
      (λ above. ap (λ (b : Bool). nat_lt group above && b) (group_same above))

  value_same : (given : Option ℕ) (group : ℕ) → value_of given one group ≡ value_of given two group
  value_same given group =
      ap (λ (groups : ℕ). max 1 (given_or given (min 15 groups) - rank one group)) (rank_same 0)
      ∙ ap (λ (n : ℕ). max 1 (top_value given two - n)) (rank_same group)

  pub attributes_agree : (given : Option ℕ) (entries : List ℕ) (k : ℕ) → k < 128
      → attributes_ranked given one entries k ≡ attributes_ranked given two entries k
  attributes_agree given entries k below =
      ap (λ (group : ℕ). if nat_eq group 0 then attributes_in entries k else with_priority (value_of given one group) (attributes_in entries k)) (same k below)
      ∙ ap (λ (value : ℕ). if nat_eq (two k) 0 then attributes_in entries k else with_priority value (attributes_in entries k)) (value_same given (two k))
