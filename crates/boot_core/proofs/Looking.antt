-- Calls that change nothing that lasts, one after another.
use Rattle.std.proofs.Common.{◌≡◌, ℕ, true, false, Result, Ok, Err, refl, sym, subst, ◌∙◌, arith}
use Rattle.std.specs.Prelude.{IsTrue}
use Rattle.std.proofs.lemmas.Bool.{false≢true}
use Rattle.board_core.specs.declared.counters.Counters.{Counters}
use Rattle.board_core.specs.declared.device.Device.{Device}
use Rattle.board_core.specs.declared.device.Device.TheVariants as device
use Rattle.board_core.specs.declared.device.Fault.{Fault}
use Rattle.board_core.specs.Counters.{Observed}
use Rattle.board_core.specs.Fault.{is_fault_of}
use Rattle.board_core.specs.Flash.{FlashState}
use Rattle.board_core.specs.Disk.{DiskMedium, DiskState}
use Rattle.board_core.specs.Hook.{HookState}
use Rattle.board_core.specs.Tpm.{TpmState}
use Rattle.board_core.specs.World.{World}
use Rattle.board_core.proofs.Stops.{observed_then}
use Rattle.chain_core.specs.Accepted.{Asked}
use Rattle.chain_core.proofs.Said.{asked_none, asked_then}
use Rattle.boot_core.specs.Carries.{SameDisk}
use Rattle.boot_core.specs.Steps.{Looks}

-- ---- a device that is not called

pub observed_none : (a : Counters) → Observed a a false
observed_none a = record { later = omega arith; cause = λ f. absurd (false≢true f); no_fault = λ f. refl; failed_changes = refl; stop = refl; settings = refl }

-- ---- a disk that is only read

pub same_disk : (a : DiskMedium) → SameDisk a a
same_disk a = record { sectors = refl; told = refl; none_pending = λ none. none; bytes = λ told. refl; torn = λ told. refl }

same_disk_then : (a b c : DiskMedium) → SameDisk a b → SameDisk b c → SameDisk a c
same_disk_then a b c h k = record {
  sectors = k.sectors ∙ h.sectors;
  told = k.told ∙ h.told;
  none_pending = λ none. k.none_pending (h.none_pending none);
  bytes = λ told. k.bytes (subst IsTrue (sym h.told) told) ∙ h.bytes told;
  torn = λ told. k.torn (subst IsTrue (sym h.told) told) ∙ h.torn told;
}

-- ---- calls of one device

-- a fault of a device, after so many changes
abbrev pub flash_failed : ℕ → Fault
flash_failed done = record { device = device.Flash; done = done }

abbrev pub tpm_failed : ℕ → Fault
tpm_failed done = record { device = device.Tpm; done = done }

abbrev pub hook_failed : ℕ → Fault
hook_failed done = record { device = device.Hook; done = done }

-- what a TPM keeps while it is looked at
pub record SameSpaces (old new : TpmState) : Type 0 where
  pub told : new.told ≡ old.told
  pub spaces : new.spaces ≡ old.spaces

pub same_tpm : (a : TpmState) → SameSpaces a a
same_tpm a = record { told = refl; spaces = refl }

-- the devices of a board, each with what it came to
pub looks_by : {T : Type 0} (w : World) (flash : FlashState) (tpm : TpmState) (disk stick : DiskState) (hook : HookState) (result : Result T Fault)
    → Observed w.flash.counters flash.counters (is_fault_of device.Flash result) → flash.medium ≡ w.flash.medium
    → Observed w.tpm.counters tpm.counters (is_fault_of device.Tpm result) → SameSpaces w.tpm tpm
    → Observed w.disk.counters disk.counters (is_fault_of device.Disk result) → SameDisk w.disk.medium disk.medium
    → Observed w.stick.counters stick.counters (is_fault_of device.Stick result) → SameDisk w.stick.medium stick.medium
    → Asked w.hook hook (is_fault_of device.Hook result) → Looks w (record w { flash = flash; tpm = tpm; disk = disk; stick = stick; hook = hook }) result
looks_by w flash tpm disk stick hook result flash_called medium tpm_called same disk_called kept_disk stick_called kept_stick asked = record {
  flash = flash_called;
  tpm = tpm_called;
  disk = disk_called;
  stick = stick_called;
  hook = asked;
  medium = medium;
  tpm_told = same.told;
  spaces = same.spaces;
  same_disk = kept_disk;
  same_stick = kept_stick;
  map_at = refl;
}

pub looks_none : {T : Type 0} (w : World) (x : T) → Looks {T = T} w w (Ok x)
looks_none w x =
    looks_by w w.flash w.tpm w.disk w.stick w.hook (Ok x) (observed_none _) refl (observed_none _) (same_tpm _) (observed_none _) (same_disk _) (observed_none _) (same_disk _) (asked_none _)

pub looks_flash : {T : Type 0} (w : World) (flash : FlashState) (x : T) → Observed w.flash.counters flash.counters false → flash.medium ≡ w.flash.medium → Looks {T = T} w (record w { flash = flash }) (Ok x)
looks_flash w flash x counters medium =
    looks_by w flash w.tpm w.disk w.stick w.hook (Ok x) counters medium (observed_none _) (same_tpm _) (observed_none _) (same_disk _) (observed_none _) (same_disk _) (asked_none _)

pub looks_flash_failed : {T : Type 0} (w : World) (flash : FlashState) (done : ℕ) → Observed w.flash.counters flash.counters true → flash.medium ≡ w.flash.medium → Looks {T = T} w (record w { flash = flash }) (Err (flash_failed done))
looks_flash_failed w flash done counters medium =
    looks_by w flash w.tpm w.disk w.stick w.hook (Err (flash_failed done)) counters medium (observed_none _) (same_tpm _) (observed_none _) (same_disk _) (observed_none _) (same_disk _) (asked_none _)

pub looks_tpm : {T : Type 0} (w : World) (tpm : TpmState) (x : T) → Observed w.tpm.counters tpm.counters false → SameSpaces w.tpm tpm → Looks {T = T} w (record w { tpm = tpm }) (Ok x)
looks_tpm w tpm x counters same =
    looks_by w w.flash tpm w.disk w.stick w.hook (Ok x) (observed_none _) refl counters same (observed_none _) (same_disk _) (observed_none _) (same_disk _) (asked_none _)

pub looks_tpm_failed : {T : Type 0} (w : World) (tpm : TpmState) (done : ℕ) → Observed w.tpm.counters tpm.counters true → SameSpaces w.tpm tpm → Looks {T = T} w (record w { tpm = tpm }) (Err (tpm_failed done))
looks_tpm_failed w tpm done counters same =
    looks_by w w.flash tpm w.disk w.stick w.hook (Err (tpm_failed done)) (observed_none _) refl counters same (observed_none _) (same_disk _) (observed_none _) (same_disk _) (asked_none _)

-- the flash and the hook are asked, by the device that failed
abbrev pub with_asked : World → FlashState → HookState → World
with_asked w flash hook = record w { flash = flash; hook = hook }

pub looks_asked : {T : Type 0} (w : World) (flash : FlashState) (hook : HookState) (result : Result T Fault) → Observed w.flash.counters flash.counters (is_fault_of device.Flash result) → Asked w.hook hook (is_fault_of device.Hook result)
    → flash.medium ≡ w.flash.medium → is_fault_of device.Tpm result ≡ false → is_fault_of device.Disk result ≡ false → is_fault_of device.Stick result ≡ false → Looks w (with_asked w flash hook) result
looks_asked w flash hook result counters asked medium no_tpm no_disk no_stick =
    looks_by w flash w.tpm w.disk w.stick hook result counters medium
    (subst (Observed w.tpm.counters w.tpm.counters) (sym no_tpm) (observed_none _)) (same_tpm _)
    (subst (Observed w.disk.counters w.disk.counters) (sym no_disk) (observed_none _)) (same_disk _)
    (subst (Observed w.stick.counters w.stick.counters) (sym no_stick) (observed_none _)) (same_disk _) asked

-- ---- one after another

pub looks_then : {T U : Type 0} (a b c : World) (x : T) (result : Result U Fault) → Looks a b (Ok x) → Looks b c result → Looks a c result
looks_then a b c x result h k = record {
  flash = observed_then _ _ _ _ h.flash k.flash;
  tpm = observed_then _ _ _ _ h.tpm k.tpm;
  disk = observed_then _ _ _ _ h.disk k.disk;
  stick = observed_then _ _ _ _ h.stick k.stick;
  hook = asked_then _ _ _ _ h.hook k.hook;
  medium = k.medium ∙ h.medium;
  tpm_told = k.tpm_told ∙ h.tpm_told;
  spaces = k.spaces ∙ h.spaces;
  same_disk = same_disk_then _ _ _ h.same_disk k.same_disk;
  same_stick = same_disk_then _ _ _ h.same_stick k.same_stick;
  map_at = k.map_at ∙ h.map_at;
}

-- the same calls, whatever they would have answered
looks_of : {T U : Type 0} (a b : World) (x : Result T Fault) (y : Result U Fault) → ((d : Device) → is_fault_of d x ≡ is_fault_of d y) → Looks a b x → Looks a b y
looks_of a b x y same h = record {
  flash = subst (Observed a.flash.counters b.flash.counters) (same device.Flash) h.flash;
  tpm = subst (Observed a.tpm.counters b.tpm.counters) (same device.Tpm) h.tpm;
  disk = subst (Observed a.disk.counters b.disk.counters) (same device.Disk) h.disk;
  stick = subst (Observed a.stick.counters b.stick.counters) (same device.Stick) h.stick;
  hook = subst (Asked a.hook b.hook) (same device.Hook) h.hook;
  medium = h.medium;
  tpm_told = h.tpm_told;
  spaces = h.spaces;
  same_disk = h.same_disk;
  same_stick = h.same_stick;
  map_at = h.map_at;
}

pub looks_as : {T U : Type 0} (a b : World) (x : T) (y : U) → Looks a b (Ok x) → Looks a b (Ok y)
looks_as a b x y h = looks_of a b (Ok x) (Ok y) (λ d. refl) h

pub looks_err : {T U : Type 0} (a b : World) (fault : Fault) → Looks {T = T} a b (Err fault) → Looks {T = U} a b (Err fault)
looks_err a b fault h = looks_of a b (Err fault) (Err fault) (λ d. refl) h
