-- Which entries of a table are candidates, and which is earlier than which. Entry k here is the one of index k + 1.
-- Source: `GptNextKernelEntry` of vboot_reference (firmware/lib/cgptlib/cgptlib.c).
use Rattle.std.specs.Prelude.{◌≡◌, ◌<◌, ◌⊎◌, ℕ, zero, suc, ◌+◌, ◌-◌, ◌*◌, Bool, ◌&&◌, ◌||◌, nat_eq, nat_le, List, [], ◌∷◌, ◌++◌}
use Rattle.std.specs.Prelude.{if◌then◌else◌}
use Rattle.std.specs.List.Sorted.{IsPermutation, IsNonDecreasing}
use Rattle.std.specs.Cmp.Lexicographic.{pointwise}
use Rattle.gpt_core.specs.Entries.{kind_in, attributes_in}
use Rattle.gpt_core.specs.Attributes.{kernel_type, priority_of, tries_of}
use Rattle.walk_core.specs.Attributes.{is_successful}

-- it may be booted: it has a priority, and was successful or has a try left
abbrev pub may_boot : ℕ → Bool
may_boot attributes = nat_le 1 (priority_of attributes) && (is_successful attributes || nat_le 1 (tries_of attributes))

-- a candidate is a kernel that may be booted
abbrev pub is_kernel_candidate : (kind : List ℕ) (attributes : ℕ) → Bool
is_kernel_candidate kind attributes = pointwise nat_eq kind kernel_type && may_boot attributes

-- the same of entry k
abbrev pub is_candidate : List ℕ → ℕ → Bool
is_candidate entries k = is_kernel_candidate (kind_in entries k) (attributes_in entries k)

-- An entry is earlier than another where its priority is higher, or the priorities are equal and its index is lower.
abbrev pub IsEarlier : (attributes k attributes' k' : ℕ) → Type 0
IsEarlier attributes k attributes' k' =
    (priority_of attributes' < priority_of attributes) ⊎ ((priority_of attributes ≡ priority_of attributes') × (k < k'))

-- one number for its place in that order: the lower, the earlier
abbrev pub rank : (attributes k : ℕ) → ℕ
rank attributes k = (15 - priority_of attributes) * 128 + k

-- the rank of entry k
abbrev pub rank_in : List ℕ → ℕ → ℕ
rank_in entries k = rank (attributes_in entries k) k

-- the ranks of the candidates among so many entries, in the order of the table
unfoldable pub ranks_among : ℕ → List ℕ → List ℕ
ranks_among zero entries = []
ranks_among (suc k) entries = ranks_among k entries ++ (if is_candidate entries k then rank_in entries k ∷ [] else [])

-- The ranks of all candidates, in order.
pub record AreInOrder (entries ranks : List ℕ) : Type 0 where
  -- those of the candidates, each once
  pub all : IsPermutation (ranks_among 128 entries) ranks
  -- and none that is later stands before one that is earlier
  pub ordered : IsNonDecreasing ranks
