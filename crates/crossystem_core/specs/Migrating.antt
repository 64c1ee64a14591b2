-- What bringing the kernel space of a TPM into its newer form does.
use Rattle.std.specs.Prelude.{◌≡◌, ◌⊎◌, ℕ, Bool, true, false, IsTrue, Some, None, Result, Ok, Err}
use Rattle.record_core.specs.Space.{kernel_fault, is_v1, migrated_space, stored_kernel_version}
use Rattle.board_core.specs.Counters.{MadeStep, Rose}
use Rattle.board_core.specs.Tpm.{Spaces, TpmState, unlocked}
use Rattle.crossystem_core.specs.declared.fault.MigrateFault.{MigrateFault}
use Rattle.crossystem_core.specs.declared.fault.MigrateFault.TheVariants.{Refused, Failed}

-- the TPM failed
abbrev pub is_failure : Result Bool MigrateFault → Bool
is_failure (Err Failed) = true
is_failure other = false

-- both spaces, with the kernel space in the newer form
abbrev pub with_migrated : Spaces → Spaces
with_migrated spaces = record spaces { kernel = migrated_space spaces.kernel }

-- A space of the older form was written, by the answer: it was in that form, and the new one stands; or it was in the newer one
-- and stays.
abbrev pub IsMigrated : Bool → Spaces → Spaces → Type 0
IsMigrated true old new = (is_v1 old.kernel ≡ false) × (new ≡ with_migrated old)
IsMigrated false old new = (is_v1 old.kernel ≡ true) × (new ≡ old)

-- the spaces, by the answer
abbrev pub LeavesSpaces : Spaces → TpmState → TpmState → Result Bool MigrateFault → Type 0
LeavesSpaces spaces old new (Ok wrote) = (kernel_fault spaces.kernel ≡ None) × IsMigrated wrote spaces new.spaces
LeavesSpaces spaces old new (Err (Refused fault)) = (kernel_fault spaces.kernel ≡ Some fault) × (new.spaces ≡ spaces)
LeavesSpaces spaces old new (Err Failed) =
    (new.spaces ≡ spaces)
    ⊎ ((kernel_fault spaces.kernel ≡ None) × (is_v1 spaces.kernel ≡ false) × Rose old.counters.failed_changes new.counters.failed_changes
    × (new.spaces ≡ with_migrated spaces))

-- how many writes there are at most, by the answer: one where it says that it wrote, and none where it says that it did not
abbrev pub writes_of : Result Bool MigrateFault → ℕ
writes_of (Ok false) = 0
writes_of (Err (Refused fault)) = 0
writes_of other = 1

-- both spaces are unlocked, unless the TPM did not start
abbrev pub UnlocksSpaces : TpmState → TpmState → Result Bool MigrateFault → Type 0
UnlocksSpaces old new (Err Failed) = (new.locks ≡ unlocked) ⊎ (new.locks ≡ old.locks)
UnlocksSpaces old new other = new.locks ≡ unlocked

-- The kernel space is brought into its newer form.
pub record Migrates (old new : TpmState) (result : Result Bool MigrateFault) : Type 0 where
  -- the TPM counted one failed call where it is said to have failed, and none else
  pub counters : MadeStep old.counters new.counters (writes_of result) (is_failure result) (is_failure result)
  pub told : new.told ≡ old.told
  pub locks : UnlocksSpaces old new result
  pub spaces : IsTrue old.told → LeavesSpaces old.spaces old new result
  -- the stored version of the kernel stays, at every answer, and so does the firmware space
  pub version : IsTrue old.told → stored_kernel_version new.spaces.kernel ≡ stored_kernel_version old.spaces.kernel
  pub firmware : IsTrue old.told → new.spaces.firmware ≡ old.spaces.firmware
