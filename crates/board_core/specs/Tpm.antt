-- What a TPM is, and what each call does to it.
use Rattle.std.specs.Prelude.{◌≡◌, ◌⊎◌, ℕ, ◌≤◌, List, length, take, Bool, true, false, IsTrue, Result, is_err, IfOk, OnOk, OnErr}
use Rattle.board_core.specs.declared.counters.Counters.{Counters}
use Rattle.board_core.specs.declared.device.Space.{Space}
use Rattle.board_core.specs.declared.device.Space.TheVariants.{Firmware, Kernel}
use Rattle.board_core.specs.Counters.{Observed, Changed}

-- The bytes of both spaces.
pub record Spaces : Type 0 where
  pub firmware : List ℕ
  pub kernel : List ℕ

-- each space has at most 64 bytes
pub record AreWithinSize (spaces : Spaces) : Type 0 where
  pub firmware : length spaces.firmware ≤ 64
  pub kernel : length spaces.kernel ≤ 64

-- Which spaces are locked.
pub record Locks : Type 0 where
  pub firmware : Bool
  pub kernel : Bool

-- What a TPM holds and counts. Contracts see the locks and the counters always, and the bytes are the TPM's where they
-- are told.
pub record TpmState : Type 0 where
  -- whether the bytes of the spaces are told
  pub told : Bool
  pub spaces : Spaces
  pub locks : Locks
  pub counters : Counters

abbrev pub other_space : Space → Space
other_space Firmware = Kernel
other_space Kernel = Firmware

-- the bytes of a space
abbrev pub space_bytes : Space → Spaces → List ℕ
space_bytes Firmware spaces = spaces.firmware
space_bytes Kernel spaces = spaces.kernel

-- both spaces, with these bytes in one
abbrev pub with_space : Space → List ℕ → Spaces → Spaces
with_space Firmware bytes spaces = record spaces { firmware = bytes }
with_space Kernel bytes spaces = record spaces { kernel = bytes }

-- whether a space is locked
abbrev pub is_locked : Space → Locks → Bool
is_locked Firmware locks = locks.firmware
is_locked Kernel locks = locks.kernel

-- both locks, with this space locked
abbrev pub with_lock : Space → Locks → Locks
with_lock Firmware locks = record locks { firmware = true }
with_lock Kernel locks = record locks { kernel = true }

-- neither space is locked
abbrev pub unlocked : Locks
unlocked = record { firmware = false; kernel = false }

-- The call to start up. It changes no space.
pub record StartsUp {E : Type 0} (old new : TpmState) (result : Result Unit E) : Type 0 where
  pub counters : Observed old.counters new.counters (is_err result)
  pub told : new.told ≡ old.told
  pub spaces : new.spaces ≡ old.spaces
  pub ok : OnOk result (new.locks ≡ unlocked)
  -- a failed startup leaves both locks
  pub err : OnErr result (new.locks ≡ old.locks)

-- The call to read a space. It changes neither space and no lock.
pub record ReadsSpace {E : Type 0} (space : Space) (buf : List ℕ) (old new : TpmState) (result : Result ℕ E) : Type 0 where
  pub counters : Observed old.counters new.counters (is_err result)
  pub told : new.told ≡ old.told
  pub spaces : new.spaces ≡ old.spaces
  pub locks : new.locks ≡ old.locks
  -- the answer is at most the size of the buffer, told or not
  pub within : IfOk result (λ count. count ≤ 64)
  -- it is the length of the space
  pub count : IsTrue old.told → IfOk result (λ count. count ≡ length (space_bytes space old.spaces))
  -- whose bytes stand first in the buffer
  pub filled : IsTrue old.told → IfOk result (λ count. take count buf ≡ space_bytes space old.spaces)

-- The call to write a space. It changes no lock.
pub record WritesSpace {E : Type 0} (space : Space) (bytes : List ℕ) (old new : TpmState) (result : Result Unit E) : Type 0 where
  pub counters : Changed old.counters new.counters (is_err result)
  pub told : new.told ≡ old.told
  pub locks : new.locks ≡ old.locks
  -- the whole space is replaced, and the other stays
  pub ok : IsTrue old.told → OnOk result (new.spaces ≡ with_space space bytes old.spaces)
  -- a failed write leaves the old bytes or the new ones, and the other space as it was
  pub err : IsTrue old.told → OnErr result ((new.spaces ≡ old.spaces) ⊎ (new.spaces ≡ with_space space bytes old.spaces))

-- The call to lock a space. It changes neither space.
pub record LocksSpace {E : Type 0} (space : Space) (old new : TpmState) (result : Result Unit E) : Type 0 where
  pub counters : Observed old.counters new.counters (is_err result)
  pub told : new.told ≡ old.told
  pub spaces : new.spaces ≡ old.spaces
  pub ok : OnOk result (new.locks ≡ with_lock space old.locks)
  -- a failed lock leaves the lock of the other space
  pub err : OnErr result (is_locked (other_space space) new.locks ≡ is_locked (other_space space) old.locks)
