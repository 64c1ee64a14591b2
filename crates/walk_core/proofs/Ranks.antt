-- The ranks of the candidates among so many entries, and one more.
use Rattle.std.proofs.Common.{◌≡◌, ℕ, suc, ◌+◌, Bool, true, false, List, [], ◌∷◌, ◌++◌, refl, ap, ◌∙◌, arith, append-nil}
use Rattle.std.specs.Prelude.{if◌then◌else◌}
use Rattle.walk_core.specs.Candidates.{is_candidate, rank_in, ranks_among}

pub ranks_among-none : (entries : List ℕ) → ranks_among 0 entries ≡ []
unfolding ranks_among
ranks_among-none entries = refl

-- one more entry
pub ranks_among-more : (k : ℕ) (entries : List ℕ)
    → ranks_among (k + 1) entries ≡ ranks_among k entries ++ (if is_candidate entries k then rank_in entries k ∷ [] else [])
unfolding ranks_among
ranks_among-more k entries =
    let next : k + 1 ≡ suc k = omega arith in
    ap (λ n. ranks_among n entries) next

-- which is a candidate
pub ranks_among-with : (k : ℕ) (entries : List ℕ) → is_candidate entries k ≡ true
    → ranks_among (k + 1) entries ≡ ranks_among k entries ++ rank_in entries k ∷ []
ranks_among-with k entries is =
    ranks_among-more k entries ∙ ap (λ (b : Bool). ranks_among k entries ++ (if b then rank_in entries k ∷ [] else [])) is

-- or is none
pub ranks_among-without : (k : ℕ) (entries : List ℕ) → is_candidate entries k ≡ false → ranks_among (k + 1) entries ≡ ranks_among k entries
ranks_among-without k entries is =
    ranks_among-more k entries ∙ ap (λ (b : Bool). ranks_among k entries ++ (if b then rank_in entries k ∷ [] else [])) is
    ∙ append-nil (ranks_among k entries)
