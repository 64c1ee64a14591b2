-- The two spaces of the TPM of a generated machine, and what a call that writes them leaves.
-- Source: `struct vb2_secdata_firmware` and `struct vb2_secdata_kernel_v0` of vboot_reference (firmware/2lib); the last byte
-- of each is a CRC-8.
use Rattle.std.specs.Prelude.{◌≡◌, ◌⊎◌, ℕ, List, [], ◌∷◌, Bool, false, IsTrue}
use Rattle.board_core.specs.declared.device.Space.TheVariants.{Firmware}
use Rattle.board_core.specs.Counters.{MadeChanges}
use Rattle.board_core.specs.Tpm.{TpmState, Spaces, unlocked, with_space}

-- struct version 2, flags 0, versions 0x00010001
abbrev pub machine_firmware_space : List ℕ
machine_firmware_space = 2 ∷ 0 ∷ 1 ∷ 0 ∷ 1 ∷ 0 ∷ 0 ∷ 0 ∷ 0 ∷ 79 ∷ []

-- struct version 2, the uid 0x4752574c, versions 0x00010001
abbrev pub machine_kernel_space : List ℕ
machine_kernel_space = 2 ∷ 76 ∷ 87 ∷ 82 ∷ 71 ∷ 1 ∷ 0 ∷ 1 ∷ 0 ∷ 0 ∷ 0 ∷ 0 ∷ 85 ∷ []

abbrev pub machine_spaces : Spaces
machine_spaces = record { firmware = machine_firmware_space; kernel = machine_kernel_space }

-- The TPM was started, and both spaces were written, first that of the firmware; or the TPM failed.
pub record WritesSpaces (old new : TpmState) (failed : Bool) : Type 0 where
  -- two changing calls
  pub counters : MadeChanges old.counters new.counters 2 failed
  pub told : new.told ≡ old.told
  -- both spaces are left unlocked
  pub locks : failed ≡ false → new.locks ≡ unlocked
  -- where the TPM failed they are so, or locked as before
  pub locks_left : IsTrue failed → (new.locks ≡ old.locks) ⊎ (new.locks ≡ unlocked)
  pub ok : IsTrue old.told → failed ≡ false → new.spaces ≡ machine_spaces
  -- where the TPM failed no space is written, or the first, or both
  pub err : IsTrue old.told → IsTrue failed →
      (new.spaces ≡ old.spaces) ⊎ ((new.spaces ≡ with_space Firmware machine_firmware_space old.spaces) ⊎ (new.spaces ≡ machine_spaces))
