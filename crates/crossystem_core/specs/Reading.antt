-- What a machine keeps, out of the bytes of its flash and of its TPM, and what the calls that read it do.
use Rattle.std.specs.Prelude.{◌≡◌, ◌⊎◌, ℕ, ◌+◌, ◌%◌, ◌≤◌, Bool, false, IsTrue, List, Option, Some, None, Result, Ok, Err, is_err, IfOk, IfErr}
use Rattle.record_core.specs.declared.space.SpaceFault.{SpaceFault}
use Rattle.record_core.specs.Space.{stored_firmware_version, stored_kernel_version, firmware_versions, kernel_versions}
use Rattle.board_core.specs.declared.device.Device.{Device}
use Rattle.board_core.specs.declared.device.Device.TheVariants as device
use Rattle.board_core.specs.Counters.{Observed}
use Rattle.board_core.specs.Fault.{same_device}
use Rattle.board_core.specs.Flash.{FlashMedium, FlashState}
use Rattle.board_core.specs.Tpm.{Spaces, TpmState}
use Rattle.rom_core.specs.declared.map.Map.{Map}
use Rattle.rom_core.specs.declared.gbb.Gbb.{Gbb}
use Rattle.rom_core.specs.declared.fault.MapFault.{MapFault}
use Rattle.rom_core.specs.declared.fault.GbbFault.{GbbFault}
use Rattle.rom_core.specs.Gbb.{area_bytes}
use Rattle.rom_core.specs.Reading.{map_question}
use Rattle.rom_core.specs.Decoded.{flash_map, gbb_of}
use Rattle.nvstore_core.specs.declared.state.NvState.{NvState}
use Rattle.nvstore_core.specs.Pages.{state_in, IsStateOf, InRange}
use Rattle.crossystem_core.specs.declared.showing.CrossView.{CrossView}

-- ---- what is kept

abbrev pub hwid_by : Result Gbb GbbFault → Option (List ℕ)
hwid_by (Ok gbb) = Some gbb.hwid
hwid_by (Err fault) = None

-- the stored version of a space, none where it has a fault
abbrev pub firmware_by : Result (List ℕ) SpaceFault → Option ℕ
firmware_by (Ok space) = Some (firmware_versions space)
firmware_by (Err fault) = None

abbrev pub kernel_by : Result (List ℕ) SpaceFault → Option ℕ
kernel_by (Ok space) = Some (kernel_versions space)
kernel_by (Err fault) = None

-- of a flash with this map
unfoldable pub view_in : Map → FlashMedium → Spaces → CrossView
view_in map flash spaces = record {
  state = state_in map.nvram.at flash.bytes;
  nvram = map.nvram.at;
  firmware = stored_firmware_version spaces.firmware;
  kernel = stored_kernel_version spaces.kernel;
  hwid = hwid_by (gbb_of (area_bytes map.gbb flash));
}

abbrev pub seen_by : Result Map MapFault → FlashMedium → Spaces → Result CrossView MapFault
seen_by (Ok map) flash spaces = Ok (view_in map flash spaces)
seen_by (Err fault) flash spaces = Err fault

-- of a flash whose map is looked for at a place, or what is wrong with the map
unfoldable pub seen_in : ℕ → FlashMedium → Spaces → Result CrossView MapFault
seen_in at flash spaces = seen_by (flash_map (map_question at flash)) flash spaces

-- ---- reading

-- Nvdata and the HWID are read of a flash with this map.
pub record ReadsFlash {E : Type 0} (map : Map) (old new : FlashState) (result : Result (NvState × Option (List ℕ)) E) : Type 0 where
  pub counters : Observed old.counters new.counters (is_err result)
  pub medium : new.medium ≡ old.medium
  pub state : IsTrue old.medium.told → IfOk result (λ found. IsStateOf map.nvram.at old.medium.bytes found.0)
  pub within : IfOk result (λ found. InRange found.0)
  pub hwid : IsTrue old.medium.told → IfOk result (λ found. found.1 ≡ hwid_by (gbb_of (area_bytes map.gbb old.medium)))

-- The stored versions are read.
pub record ReadsVersions {E : Type 0} (old new : TpmState) (result : Result (Option ℕ × Option ℕ) E) : Type 0 where
  pub counters : Observed old.counters new.counters (is_err result)
  pub told : new.told ≡ old.told
  pub spaces : new.spaces ≡ old.spaces
  pub locks : new.locks ≡ old.locks
  pub firmware : IsTrue old.told → IfOk result (λ found. found.0 ≡ stored_firmware_version old.spaces.firmware)
  pub kernel : IsTrue old.told → IfOk result (λ found. found.1 ≡ stored_kernel_version old.spaces.kernel)

-- whether the answer is that this very device failed
abbrev pub is_failed : {A : Type 0} → Device → Result A Device → Bool
is_failed device (Ok answer) = false
is_failed device (Err failed) = same_device device failed

-- The pages of nvdata lie in the flash, and this is their state.
pub record HasPages (flash : FlashMedium) (view : CrossView) : Type 0 where
  pub multiple : view.nvram % 4096 ≡ 0
  pub inside : view.nvram + 8192 ≤ flash.size
  pub state : IsTrue flash.told → IsStateOf view.nvram flash.bytes view.state
  pub within : InRange view.state

-- the TPM was not called: the flash failed before, or its map has a fault
abbrev pub IsBeforeTpm : {A B : Type 0} → Result (Result A B) Device → Type 0
IsBeforeTpm (Ok (Ok answer)) = ⊥
IsBeforeTpm (Ok (Err fault)) = Unit {0}
IsBeforeTpm (Err device.Flash) = Unit {0}
IsBeforeTpm (Err other) = ⊥

-- the map has no fault
abbrev pub IsGoodMap : Result Map MapFault → Type 0
IsGoodMap (Ok map) = Unit {0}
IsGoodMap (Err fault) = ⊥

-- what an answer tells of the map: it has this fault, or none where more than the map was read; and nothing where the flash failed
abbrev pub TellsMap : Result Map MapFault → Result (Result CrossView MapFault) Device → Type 0
TellsMap map (Ok (Ok view)) = IsGoodMap map
TellsMap map (Ok (Err fault)) = map ≡ Err fault
TellsMap map (Err device.Tpm) = IsGoodMap map
TellsMap map (Err other) = Unit {0}

-- What is kept is read, of a machine whose map is looked for at a place.
pub record ReadsView (at : ℕ) (old new : FlashState) (tpm tpm' : TpmState) (result : Result (Result CrossView MapFault) Device) : Type 0 where
  -- the device that failed counted it, and none other counted anything
  pub flash_counters : Observed old.counters new.counters (is_failed device.Flash result)
  pub tpm_counters : Observed tpm.counters tpm'.counters (is_failed device.Tpm result)
  pub devices : IfErr result (λ failed. (failed ≡ device.Flash) ⊎ (failed ≡ device.Tpm))
  -- nothing changes
  pub medium : new.medium ≡ old.medium
  pub tpm_told : tpm'.told ≡ tpm.told
  pub spaces : tpm'.spaces ≡ tpm.spaces
  pub locks : tpm'.locks ≡ tpm.locks
  -- it is what the devices hold, where they tell it
  pub seen : IsTrue old.medium.told → IsTrue tpm.told → IfOk result (λ seen. seen ≡ seen_in at old.medium tpm.spaces)
  pub pages : IfOk result (λ seen. IfOk seen (HasPages old.medium))
  -- the flash alone tells a fault of its map, before the TPM is called
  pub map : IsTrue old.medium.told → TellsMap (flash_map (map_question at old.medium)) result
  pub before : IsBeforeTpm result → tpm' ≡ tpm
