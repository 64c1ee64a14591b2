-- Which entry is chosen, and the least version, as functions: what `Chosen` and `IsLowest` say of an answer, these compute.
-- Source: as for `Chosen`.
use Rattle.std.specs.Prelude.{ℕ, zero, suc, min, Bool, ◌&&◌, ◌||◌, nat_eq, List, Option, Some, None, if◌then◌else◌}
use Rattle.walk_core.specs.Candidates.{is_candidate}
use Rattle.walk_core.specs.Kernels.{WalkQuestion}
use Rattle.walk_core.specs.Chosen.{comes_before, head_is_good, is_good_candidate, head_of, later_count}

-- the earlier one of the one that was found so far and of this entry
abbrev pub earlier_of : List ℕ → Option ℕ → ℕ → Option ℕ
earlier_of entries None k = Some k
earlier_of entries (Some j) k = Some (if comes_before entries k j then k else j)

-- the earliest good candidate among so many entries, or none
unfoldable pub chosen_below : ℕ → WalkQuestion → List ℕ → Option ℕ
chosen_below zero d entries = None
chosen_below (suc k) d entries =
    if is_good_candidate d entries k then earlier_of entries (chosen_below k d entries) k else chosen_below k d entries

-- that of a table
abbrev pub chosen_in : WalkQuestion → List ℕ → Option ℕ
chosen_in d entries = chosen_below 128 d entries

-- the entry counts: it is the chosen one, or a later candidate whose head is good
abbrev pub counts : WalkQuestion → List ℕ → (chosen k : ℕ) → Bool
counts d entries chosen k = is_candidate entries k && head_is_good d entries k && (nat_eq k chosen || comes_before entries chosen k)

-- the least version of the chosen entry and of those that count among so many
unfoldable pub least_below : ℕ → WalkQuestion → List ℕ → (chosen : ℕ) → ℕ
least_below zero d entries chosen = (head_of d entries chosen).version
least_below (suc k) d entries chosen =
    if counts d entries chosen k then min (least_below k d entries chosen) (head_of d entries k).version else least_below k d entries chosen

-- the version to store, before it is asked whether the slot is on trial
abbrev pub lowest_in : WalkQuestion → List ℕ → (chosen : Option ℕ) → ℕ
lowest_in d entries None = d.rules.stored
lowest_in d entries (Some chosen) = if later_count d entries chosen then least_below 128 d entries chosen else d.rules.stored
