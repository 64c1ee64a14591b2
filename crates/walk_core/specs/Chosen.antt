-- The kernels of a drive's table, and which of them is chosen. Entry k here is the one of index k + 1.
-- Source: `vb2api_load_kernel` of vboot_reference (firmware/2lib/2load_kernel.c), which takes the first good kernel in the order
-- of `GptNextKernelEntry` (firmware/lib/cgptlib/cgptlib.c).
use Rattle.std.specs.Prelude.{◌≡◌, ℕ, ◌+◌, ◌-◌, ◌<◌, ◌≤◌, ◌⊎◌, Bool, true, false, ◌&&◌, nat_lt, List, Option, Some, None}
use Rattle.gpt_core.specs.Entries.{attributes_in, first_in, last_in}
use Rattle.kernel_core.specs.Heads.{head_ok}
use Rattle.kernel_core.specs.declared.head_fault.HeadOk.{HeadOk}
use Rattle.kernel_core.specs.declared.rules.BootMode.{BootMode}
use Rattle.kernel_core.specs.declared.rules.BootMode.TheVariants.{Normal, Developer, Recovery}
use Rattle.kernel_core.specs.declared.rules.KernelRules.{KernelRules}
use Rattle.walk_core.specs.Candidates.{is_candidate, IsEarlier, rank_in}
use Rattle.walk_core.specs.Kernels.{WalkQuestion, asked_of_head, has_good_head, is_good}

-- ---- the kernel of an entry

-- how many sectors its partition has
abbrev pub sectors_in : List ℕ → ℕ → ℕ
sectors_in entries k = last_in entries k + 1 - first_in entries k

-- its head is good
abbrev pub head_is_good : WalkQuestion → List ℕ → ℕ → Bool
head_is_good d entries k = has_good_head d (first_in entries k) (sectors_in entries k)

-- it is good
abbrev pub kernel_is_good : WalkQuestion → List ℕ → ℕ → Bool
kernel_is_good d entries k = is_good d (first_in entries k) (sectors_in entries k)

-- it is a candidate, and good
abbrev pub is_good_candidate : WalkQuestion → List ℕ → ℕ → Bool
is_good_candidate d entries k = is_candidate entries k && kernel_is_good d entries k

-- what is read of its head
abbrev pub head_of : WalkQuestion → List ℕ → ℕ → HeadOk
head_of d entries k = head_ok (asked_of_head d (first_in entries k))

-- ---- the order of two entries

abbrev pub ComesBefore : List ℕ → (j k : ℕ) → Type 0
ComesBefore entries j k = IsEarlier (attributes_in entries j) j (attributes_in entries k) k

-- the same as a test of their ranks
abbrev pub comes_before : List ℕ → (j k : ℕ) → Bool
comes_before entries j k = nat_lt (rank_in entries j) (rank_in entries k)

-- ---- the chosen entry

-- The good candidate than which no good candidate is earlier.
pub record IsChosen (d : WalkQuestion) (entries : List ℕ) (k : ℕ) : Type 0 where
  pub inside : k < 128
  pub good : is_good_candidate d entries k ≡ true
  pub none_earlier : (j : ℕ) → j < 128 → is_good_candidate d entries j ≡ true → ComesBefore entries j k → ⊥

-- The chosen entry, or none where no candidate is good.
abbrev pub Chosen : WalkQuestion → List ℕ → Option ℕ → Type 0
Chosen d entries (Some k) = IsChosen d entries k
Chosen d entries None = (j : ℕ) → j < 128 → is_good_candidate d entries j ≡ false

-- ---- the least version

abbrev pub is_normal : BootMode → Bool
is_normal Normal = true
is_normal Developer = false
is_normal Recovery = false

-- the candidates behind the chosen one count: in Normal mode, where the chosen version is over the stored one
abbrev pub later_count_by : KernelRules → (version : ℕ) → Bool
later_count_by rules version = is_normal rules.mode && nat_lt rules.stored version

abbrev pub later_count : WalkQuestion → List ℕ → (chosen : ℕ) → Bool
later_count d entries chosen = later_count_by d.rules (head_of d entries chosen).version

-- An entry that counts then: the chosen one, or a later candidate whose head is good.
pub record Counts (d : WalkQuestion) (entries : List ℕ) (chosen k : ℕ) : Type 0 where
  pub inside : k < 128
  pub candidate : is_candidate entries k ≡ true
  pub head : head_is_good d entries k ≡ true
  pub place : (k ≡ chosen) ⊎ ComesBefore entries chosen k

-- The least version among those that count.
pub record IsLeastVersion (d : WalkQuestion) (entries : List ℕ) (chosen lowest : ℕ) : Type 0 where
  -- one of them has it
  pub at : ℕ
  pub counts : Counts d entries chosen at
  pub version : lowest ≡ (head_of d entries at).version
  -- and none has a lower one
  pub least : (k : ℕ) → Counts d entries chosen k → lowest ≤ (head_of d entries k).version

-- The version to store: the least one where the later candidates count, and else the stored one.
pub record IsLowestFor (d : WalkQuestion) (entries : List ℕ) (chosen lowest : ℕ) : Type 0 where
  pub counted : later_count d entries chosen ≡ true → IsLeastVersion d entries chosen lowest
  pub stored : later_count d entries chosen ≡ false → lowest ≡ d.rules.stored

-- The same where no kernel may be chosen: then it is the stored one.
abbrev pub IsLowest : WalkQuestion → List ℕ → Option ℕ → (lowest : ℕ) → Type 0
IsLowest d entries (Some k) lowest = IsLowestFor d entries k lowest
IsLowest d entries None lowest = lowest ≡ d.rules.stored
