-- The sort moves the ranks, and puts them in order.
use Rattle.std.proofs.Common.{ℕ, List, subst, ◌∙◌, rules}
use Rattle.std.specs.List.Sorted.{IsPermutation}
use Rattle.std.proofs.lemmas.List.Sorted.{IsNonDecreasingBy-from_sort}
use Rattle.arrayvec.proofs.ArrayVecLemmas.{items-with_items}
use Rattle.walk_core.proofs.candidates.candidates_in_order.Goals as goal

pub returns : goal.returns
returns c =
    let ranks = c.candidates_as_they_stand-ranks.result in
    let whole = items-with_items ranks c.sort_unstable.new.self (search rules) in
    record {
      all = rw whole (subst (λ (xs : List ℕ). IsPermutation xs c.sort_unstable.new.self)
          (c.deref_mut.ensures.value ∙ c.candidates_as_they_stand-ranks.ensures) c.sort_unstable.ensures.permutation);
      ordered = rw whole (IsNonDecreasingBy-from_sort (λ rank. rank) _ c.sort_unstable.ensures.sorted);
    }
