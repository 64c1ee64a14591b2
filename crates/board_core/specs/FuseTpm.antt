-- What a fuse over a TPM is, and what it makes of each call. Each relation takes the state of the TPM below from its
-- ghost member, and the fuse before and after the call.
use Rattle.std.specs.Prelude.{◌≡◌, List, ℕ, ◌≤◌, IsErr, Result}
use Rattle.board_core.specs.declared.counters.FuseState.TheVariants.{Dead}
use Rattle.board_core.specs.declared.counters.Turn.TheVariants.{Pass, Stop, Refuse}
use Rattle.board_core.specs.declared.device.Failed.{Failed}
use Rattle.board_core.specs.declared.device.Space.{Space}
use Rattle.board_core.specs.declared.fuse_tpm.FuseTpm.{FuseTpm}
use Rattle.board_core.specs.Counters.{turn_of, stop_after}
use Rattle.board_core.specs.Tpm.{TpmState, StartsUp, ReadsSpace, WritesSpace, LocksSpace}

-- the TPM below, with the counters of the fuse: it tells its spaces where the TPM does, and its locks are the TPM's
abbrev pub fuse_tpm_state : {T : Type 0} → (T → TpmState) → FuseTpm T → TpmState
fuse_tpm_state state fuse = record (state fuse.inner) { counters = fuse.counters }

-- A call that changes no space, on a fuse. `below` says what the TPM below did in it, with the same answer.
pub record PassesUnlessDead {T R E : Type 0} (below : Type 0) (old new : FuseTpm T) (result : Result R E) : Type 0 where
  -- the stop stays where it stood
  pub stop : new.counters.stop ≡ old.counters.stop
  -- a dead fuse refuses the call, and the TPM below is as it was
  pub refused : old.counters.stop ≡ Dead → IsErr result × (new.inner ≡ old.inner)
  -- any other fuse passes it on
  pub passed : (old.counters.stop ≡ Dead → ⊥) → below

abbrev pub FuseStartsUp : {T E : Type 0} → (T → TpmState) → FuseTpm T → FuseTpm T → Result Unit E → Type 0
FuseStartsUp state old new result = PassesUnlessDead (StartsUp (state old.inner) (state new.inner) result) old new result

abbrev pub FuseReadsSpace : {T E : Type 0} → (T → TpmState) → Space → List ℕ → FuseTpm T → FuseTpm T → Result ℕ E → Type 0
FuseReadsSpace state space buf old new result =
    PassesUnlessDead (ReadsSpace space buf (state old.inner) (state new.inner) result) old new result

abbrev pub FuseLocksSpace : {T E : Type 0} → (T → TpmState) → Space → FuseTpm T → FuseTpm T → Result Unit E → Type 0
FuseLocksSpace state space old new result = PassesUnlessDead (LocksSpace space (state old.inner) (state new.inner) result) old new result

-- One write of the TPM below, whatever it answered: its counts and its stop move as this one call moves them.
pub record OneWrite (space : Space) (bytes : List ℕ) (old new : TpmState) : Type 0 where
  pub answer : Result Unit Failed
  pub written : WritesSpace space bytes old new answer

-- A write, on a fuse.
pub record FuseWrites {T E : Type 0} (state : T → TpmState) (space : Space) (bytes : List ℕ) (old new : FuseTpm T)
    (result : Result Unit E) : Type 0 where
  -- the stop moves by one call
  pub stop : new.counters.stop ≡ stop_after old.counters.stop
  -- a dead fuse refuses the write, and the TPM below is as it was
  pub refused : turn_of old.counters.stop ≡ Refuse → IsErr result × (new.inner ≡ old.inner)
  pub passed : turn_of old.counters.stop ≡ Pass → WritesSpace space bytes (state old.inner) (state new.inner) result
  -- the chosen write fails: it does not happen where nothing is to be kept
  pub nothing : turn_of old.counters.stop ≡ Stop 0 → IsErr result × (new.inner ≡ old.inner)
  -- and where anything is, it is made once and does no more where it fails
  pub chosen : (keep : ℕ) → 1 ≤ keep → turn_of old.counters.stop ≡ Stop keep → IsErr result
      × OneWrite space bytes (state old.inner) (state new.inner)
