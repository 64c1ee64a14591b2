-- What the calls that read the spaces of a TPM do: they change nothing, and answer what it holds.
use Rattle.std.specs.Prelude.{◌≡◌, ℕ, IsTrue, List, Result, is_err, IfOk}
use Rattle.record_core.specs.declared.space.SpaceFault.{SpaceFault}
use Rattle.record_core.specs.Space.{firmware_fault, kernel_fault, good_bytes}
use Rattle.board_core.specs.Counters.{Observed}
use Rattle.board_core.specs.Tpm.{TpmState}

-- The firmware space is read.
pub record ReadsFirmware {E : Type 0} (old new : TpmState) (result : Result (Result (List ℕ) SpaceFault) E) : Type 0 where
  pub counters : Observed old.counters new.counters (is_err result)
  pub told : new.told ≡ old.told
  pub spaces : new.spaces ≡ old.spaces
  pub locks : new.locks ≡ old.locks
  pub space : IsTrue old.told → IfOk result (λ found. found ≡ good_bytes (firmware_fault old.spaces.firmware) old.spaces.firmware)

-- The kernel space is read.
pub record ReadsKernel {E : Type 0} (old new : TpmState) (result : Result (Result (List ℕ) SpaceFault) E) : Type 0 where
  pub counters : Observed old.counters new.counters (is_err result)
  pub told : new.told ≡ old.told
  pub spaces : new.spaces ≡ old.spaces
  pub locks : new.locks ≡ old.locks
  pub space : IsTrue old.told → IfOk result (λ found. found ≡ good_bytes (kernel_fault old.spaces.kernel) old.spaces.kernel)

-- Both spaces are read.
pub record ReadsSpaces {E : Type 0} (old new : TpmState)
    (result : Result (Result (List ℕ) SpaceFault × Result (List ℕ) SpaceFault) E) : Type 0 where
  pub counters : Observed old.counters new.counters (is_err result)
  pub told : new.told ≡ old.told
  pub spaces : new.spaces ≡ old.spaces
  pub locks : new.locks ≡ old.locks
  pub firmware : IsTrue old.told → IfOk result (λ found. found.0 ≡ good_bytes (firmware_fault old.spaces.firmware) old.spaces.firmware)
  pub kernel : IsTrue old.told → IfOk result (λ found. found.1 ≡ good_bytes (kernel_fault old.spaces.kernel) old.spaces.kernel)
