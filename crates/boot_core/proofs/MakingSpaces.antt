-- The write of a space as a part of a boot that makes this change.
use Rattle.std.proofs.Common.{◌≡◌, ℕ, ◌≤◌, [], ◌∷◌, List, true, Ok, Err, refl, arith, inr}
use Rattle.board_core.specs.declared.counters.FuseState.TheVariants.{Armed}
use Rattle.board_core.specs.declared.device.Device.TheVariants as device
use Rattle.board_core.specs.declared.device.Space.{Space}
use Rattle.board_core.specs.declared.device.Space.TheVariants as space
use Rattle.board_core.specs.declared.device.Fault.{Fault}
use Rattle.board_core.specs.Tpm.{TpmState, WritesSpace}
use Rattle.board_core.specs.World.{World}
use Rattle.board_core.proofs.Stops.{rose_once, step_cut, step_whole}
use Rattle.nvstore_core.specs.declared.state.NvState.{NvState}
use Rattle.boot_core.specs.Changes.{Change, Firmware, Kernel}
use Rattle.boot_core.specs.Carries.{Targets, IsSettled, CarriesOut}
use Rattle.boot_core.proofs.Making.{with_tpm, frame_tpm, same_made, frame_same, counts_tpm, died_in}

-- the change of a space
abbrev pub spaced : Space → List ℕ → Change
spaced space.Firmware bytes = Firmware bytes
spaced space.Kernel bytes = Kernel bytes

pub space_made : {T E : Type 0} (base : ℕ) (to : Targets) (state : NvState) (on : Space) (bytes : List ℕ) (w : World) (tpm : TpmState) (x : T) → IsSettled w → WritesSpace {E = E} on bytes w.tpm tpm (Ok tt)
    → CarriesOut base to state (spaced on bytes ∷ []) w (with_tpm w tpm) (Ok x)
space_made base to state space.Firmware bytes w tpm x settled h = record {
  counts = counts_tpm _ w tpm (Ok x) refl refl refl refl refl refl refl (step_whole _ _ 1 h.counters.made);
  frame = frame_tpm to.area w tpm settled h.told;
  made = record {
    flash = λ told. record { bytes = refl; stands = refl; torn = refl };
    spaces = λ told. h.ok told;
    disk = λ told. record { bytes = refl; stands = refl; torn = refl };
  };
  ends = tt;
}
space_made base to state space.Kernel bytes w tpm x settled h = record {
  counts = counts_tpm _ w tpm (Ok x) refl refl refl refl refl refl refl (step_whole _ _ 1 h.counters.made);
  frame = frame_tpm to.area w tpm settled h.told;
  made = record {
    flash = λ told. record { bytes = refl; stands = refl; torn = refl };
    spaces = λ told. h.ok told;
    disk = λ told. record { bytes = refl; stands = refl; torn = refl };
  };
  ends = tt;
}

-- a fault of the TPM, after so many changes
abbrev pub tpm_fault : ℕ → Fault
tpm_fault done = record { device = device.Tpm; done = done }

pub space_failed : {T E : Type 0} (base : ℕ) (to : Targets) (state : NvState) (on : Space) (bytes : List ℕ) (w : World) (tpm : TpmState) (e : E) → IsSettled w
    → ((left keep : ℕ) → w.tpm.counters.stop ≡ Armed left keep → 1 ≤ left) → WritesSpace on bytes w.tpm tpm (Err e)
    → CarriesOut {T = T} base to state (spaced on bytes ∷ []) w (with_tpm w tpm) (Err (tpm_fault base))
space_failed base to state space.Firmware bytes w tpm e settled armed h = record {
  counts = counts_tpm _ w tpm (Err (tpm_fault base)) refl refl refl refl refl refl refl (step_cut _ _ 1 1 true (omega arith) h.counters.made);
  frame = frame_tpm to.area w tpm settled h.told;
  made = tt;
  ends = inr (record {
    before = [];
    next = Firmware bytes;
    behind = [];
    place = refl;
    done = omega arith;
    device = refl;
    broke = rose_once _ _ (h.counters.broke refl);
    fell = λ left keep was dead. died_in w.tpm.counters.stop tpm.counters.stop 1 left keep armed was dead h.counters.made.stop;
    mid = w;
    mid_frame = frame_same to.area w settled;
    whole = same_made to w;
    failed = (h.err, refl, refl);
  });
}
space_failed base to state space.Kernel bytes w tpm e settled armed h = record {
  counts = counts_tpm _ w tpm (Err (tpm_fault base)) refl refl refl refl refl refl refl (step_cut _ _ 1 1 true (omega arith) h.counters.made);
  frame = frame_tpm to.area w tpm settled h.told;
  made = tt;
  ends = inr (record {
    before = [];
    next = Kernel bytes;
    behind = [];
    place = refl;
    done = omega arith;
    device = refl;
    broke = rose_once _ _ (h.counters.broke refl);
    fell = λ left keep was dead. died_in w.tpm.counters.stop tpm.counters.stop 1 left keep armed was dead h.counters.made.stop;
    mid = w;
    mid_frame = frame_same to.area w settled;
    whole = same_made to w;
    failed = (h.err, refl, refl);
  });
}
