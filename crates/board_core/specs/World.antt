-- All that a board holds, tells and counts, as one record.
use Rattle.std.specs.Prelude.{ℕ}
use Rattle.board_core.specs.declared.counters.Counters.{Counters}
use Rattle.board_core.specs.declared.device.Device.{Device}
use Rattle.board_core.specs.declared.device.Device.TheVariants as device
use Rattle.board_core.specs.declared.device.Drive.{Drive}
use Rattle.board_core.specs.declared.device.Drive.TheVariants as drive
use Rattle.board_core.specs.declared.platform.Platform.{Platform}
use Rattle.board_core.specs.Counters.{plain_counters}
use Rattle.board_core.specs.Flash.{FlashState}
use Rattle.board_core.specs.Tpm.{TpmState}
use Rattle.board_core.specs.Disk.{DiskState}
use Rattle.board_core.specs.Hook.{HookState}
use Rattle.board_core.specs.Fuse.{fuse_state}
use Rattle.board_core.specs.FuseTpm.{fuse_tpm_state}
use Rattle.board_core.specs.FuseDisk.{fuse_disk_state}
use Rattle.board_core.specs.declared.disk.Disk.{Ghosts}

pub record World : Type 0 where
  -- the flash, as its fuse shows it
  pub flash : FlashState
  -- the TPM, as its fuse shows it
  pub tpm : TpmState
  -- the fixed drive, as its fuse shows it
  pub disk : DiskState
  -- the removable drive, as its fuse shows it
  pub stick : DiskState
  pub hook : HookState
  -- the place of the flash map, in bytes
  pub map_at : ℕ

-- the world of a platform, from what each kind of device holds; what a disk holds is in the type of its fuse
abbrev pub world : {F T D E H : Type 0} {disk : Ghosts D} {stick : Ghosts E} → (F → FlashState) → (T → TpmState) → (H → HookState)
    → Platform F T D E H disk stick → World
world flash tpm hook p = record {
  flash = fuse_state flash p.flash;
  tpm = fuse_tpm_state tpm p.tpm;
  disk = fuse_disk_state p.disk;
  stick = fuse_disk_state p.stick;
  hook = hook p.hook;
  map_at = p.map_at;
}

-- ---- a world by its devices

-- what each device counts; a hook has no stop and no changing call
abbrev pub counters_on : Device → World → Counters
counters_on device.Flash w = w.flash.counters
counters_on device.Tpm w = w.tpm.counters
counters_on device.Disk w = w.disk.counters
counters_on device.Stick w = w.stick.counters
counters_on device.Hook w = plain_counters w.hook.faults 0

-- what a drive is
abbrev pub drive_on : Drive → World → DiskState
drive_on drive.Disk w = w.disk
drive_on drive.Stick w = w.stick

-- with another state of a drive
abbrev pub with_drive : Drive → DiskState → World → World
with_drive drive.Disk state w = record w { disk = state }
with_drive drive.Stick state w = record w { stick = state }
