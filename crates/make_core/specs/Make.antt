-- What a call of `make` leaves of a board, and why it is refused.
use Rattle.std.specs.Prelude.{◌≡◌, ◌≢◌, ℕ, zero, suc, ◌≤◌, ◌⊎◌, Bool, false, true, IsTrue, Option, Some, None, Result, Ok, Err, is_err, IsErr, IsErrOf, IfErr, OnOk}
use Rattle.board_core.specs.declared.device.Device.{Device}
use Rattle.board_core.specs.declared.device.Device.TheVariants.{Flash, Tpm, Disk, Stick, Hook}
use Rattle.board_core.specs.declared.hook.EnrollFault.{EnrollFault}
use Rattle.board_core.specs.declared.hook.EnrollFault.TheVariants as enroll
use Rattle.board_core.specs.Counters.{MadeChanges, MadeStep, Rose, CountsFaults}
use Rattle.board_core.specs.Fault.{same_device}
use Rattle.board_core.specs.Disk.{DiskState}
use Rattle.board_core.specs.World.{World}
use Rattle.make_core.specs.declared.making.MakeFault.{MakeFault}
use Rattle.make_core.specs.declared.making.MakeFault.TheVariants as faults
use Rattle.make_core.specs.Layout.{machine_flash}
use Rattle.make_core.specs.Drive.{machine_disk, machine_stick}
use Rattle.make_core.specs.DriveWrites.{WritesDrive, WritesStick}
use Rattle.make_core.specs.Writing.{WritesFlash}
use Rattle.make_core.specs.Spaces.{WritesSpaces}
use Rattle.make_core.specs.Rows.{machine_rows}
use Rattle.make_core.specs.Enrolling.{AllEnrolled, EnrolledSome, LacksRoom}

-- ---- why it is refused

-- the device's count of faults rose
abbrev pub CountRose : Device → World → World → Type 0
CountRose Flash old new = Rose old.flash.counters.faults new.flash.counters.faults
CountRose Tpm old new = Rose old.tpm.counters.faults new.tpm.counters.faults
CountRose Disk old new = Rose old.disk.counters.faults new.disk.counters.faults
CountRose Stick old new = Rose old.stick.counters.faults new.stick.counters.faults
CountRose Hook old new = Rose old.hook.faults new.hook.faults

-- the size of the device is the first that is not that of a generated image: 1,048,576 bytes of the flash, 16,384 sectors of
-- the disk, and none or 16,384 of the stick
abbrev pub HasOtherSize : Device → World → Type 0
HasOtherSize Flash old = old.flash.medium.size ≢ 1048576
HasOtherSize Tpm old = ⊥
HasOtherSize Disk old = (old.flash.medium.size ≡ 1048576) × (old.disk.medium.sectors ≢ 16384)
HasOtherSize Stick old =
    (old.flash.medium.size ≡ 1048576) × (old.disk.medium.sectors ≡ 16384)
    × (old.stick.medium.sectors ≢ 0) × (old.stick.medium.sectors ≢ 16384)
HasOtherSize Hook old = ⊥

-- the cause of a refusal; want of memory alone is free
abbrev pub HasCause : ℕ → World → World → MakeFault → Type 0
HasCause number old new (faults.Size device) = HasOtherSize device old
HasCause number old new (faults.Device device) = CountRose device old new
HasCause number old new faults.HookFull = IsTrue old.hook.told → LacksRoom (machine_rows number) old.hook.rows
HasCause number old new faults.Memory = Unit {0}

-- ---- what it leaves

-- The machine of this number was made.
pub record IsMade (number : ℕ) (old new : World) : Type 0 where
  pub flash : WritesFlash (machine_flash number) old.flash new.flash false
  -- the TPM was started, so that both spaces are unlocked
  pub tpm : WritesSpaces old.tpm new.tpm false
  pub disk : WritesDrive (machine_disk number) old.disk new.disk false
  -- a stick of no sectors is not touched
  pub stick : WritesStick (machine_stick number) old.stick.medium.sectors old.stick new.stick false
  -- the old rows, with each row of the machine that is not among them
  pub rows : IsTrue old.hook.told → AllEnrolled (machine_rows number) old.hook.rows new.hook.rows
  pub map_at : new.map_at ≡ 4096

-- The flash failed: the TPM, the drives, the rows and the place of the map are as they were.
pub record StoppedInFlash (number : ℕ) (old new : World) : Type 0 where
  pub flash : WritesFlash (machine_flash number) old.flash new.flash true
  pub rest : new ≡ record old { flash = new.flash }

-- The TPM failed: the flash is the machine's, and the drives, the rows and the place of the map are as they were.
pub record StoppedInTpm (number : ℕ) (old new : World) : Type 0 where
  pub flash : WritesFlash (machine_flash number) old.flash new.flash false
  pub tpm : WritesSpaces old.tpm new.tpm true
  pub rest : new ≡ record old { flash = new.flash; tpm = new.tpm }

-- The disk failed: flash and TPM are the machine's, and the stick, the rows and the place of the map are as they were.
pub record StoppedInDisk (number : ℕ) (old new : World) : Type 0 where
  pub flash : WritesFlash (machine_flash number) old.flash new.flash false
  pub tpm : WritesSpaces old.tpm new.tpm false
  pub disk : WritesDrive (machine_disk number) old.disk new.disk true
  pub rest : new ≡ record old { flash = new.flash; tpm = new.tpm; disk = new.disk }

-- The stick failed: flash, TPM and disk are the machine's, and the rows and the place of the map are as they were.
pub record StoppedInStick (number : ℕ) (old new : World) : Type 0 where
  pub flash : WritesFlash (machine_flash number) old.flash new.flash false
  pub tpm : WritesSpaces old.tpm new.tpm false
  pub disk : WritesDrive (machine_disk number) old.disk new.disk false
  pub stick : WritesStick (machine_stick number) old.stick.medium.sectors old.stick new.stick true
  pub rest : new ≡ record old { flash = new.flash; tpm = new.tpm; disk = new.disk; stick = new.stick }

-- A row was not enrolled: flash, TPM and drives are the machine's, and the place of the map is as it was.
pub record StoppedInHook (number : ℕ) (old new : World) : Type 0 where
  pub flash : WritesFlash (machine_flash number) old.flash new.flash false
  pub tpm : WritesSpaces old.tpm new.tpm false
  pub disk : WritesDrive (machine_disk number) old.disk new.disk false
  pub stick : WritesStick (machine_stick number) old.stick.medium.sectors old.stick new.stick false
  -- the rows before it are enrolled
  pub rows : IsTrue old.hook.told → EnrolledSome (machine_rows number) old.hook.rows new.hook.rows
  pub map_at : new.map_at ≡ old.map_at

-- what a failed device leaves
abbrev pub LeftByDevice : ℕ → World → World → Device → Type 0
LeftByDevice number old new Flash = StoppedInFlash number old new
LeftByDevice number old new Tpm = StoppedInTpm number old new
LeftByDevice number old new Disk = StoppedInDisk number old new
LeftByDevice number old new Stick = StoppedInStick number old new
LeftByDevice number old new Hook = StoppedInHook number old new

-- what a refusal leaves
abbrev pub LeftBy : ℕ → World → World → MakeFault → Type 0
LeftBy number old new (faults.Size device) = new ≡ old
LeftBy number old new (faults.Device device) = LeftByDevice number old new device
LeftBy number old new faults.HookFull = StoppedInHook number old new
LeftBy number old new faults.Memory = StoppedInHook number old new

-- ---- what it counts, and what it does not touch

-- whether an answer says that this device failed
abbrev pub fails_in : Device → Result Unit MakeFault → Bool
fails_in device (Ok x) = false
fails_in device (Err (faults.Size d)) = false
fails_in device (Err (faults.Device d)) = same_device device d
fails_in device (Err faults.HookFull) = false
fails_in device (Err faults.Memory) = false

-- how many changing calls a stick of so many sectors takes
abbrev pub stick_calls : ℕ → ℕ
stick_calls zero = 0
stick_calls (suc sectors) = 512

-- What a call counts on each device.
pub record CountsOf (old new : World) (result : Result Unit MakeFault) : Type 0 where
  -- how many changing calls of the flash were made
  pub calls : ℕ
  -- at most two for each page
  pub few : calls ≤ 512
  pub flash : MadeChanges old.flash.counters new.flash.counters calls (fails_in Flash result)
  -- two changing calls of the TPM, unless the call was cut short
  pub tpm : MadeStep old.tpm.counters new.tpm.counters 2 (is_err result) (fails_in Tpm result)
  -- a write and a flush for each piece of the disk, unless the call was cut short
  pub disk : MadeStep old.disk.counters new.disk.counters 512 (is_err result) (fails_in Disk result)
  -- and of a stick that has sectors
  pub stick : MadeStep old.stick.counters new.stick.counters (stick_calls old.stick.medium.sectors) (is_err result) (fails_in Stick result)
  pub hook : CountsFaults old.hook.faults new.hook.faults (fails_in Hook result)

-- A drive keeps its size. Nothing is pending on it, and no sector of it is read.
pub record KeepsDrive (old new : DiskState) : Type 0 where
  pub sectors : new.medium.sectors ≡ old.medium.sectors
  pub told : new.medium.told ≡ old.medium.told
  pub none_pending : new.medium.pending ≡ 0
  pub sectors_read : new.medium.sectors_read ≡ old.medium.sectors_read

-- What stays, whatever the answer.
pub record KeepsRest (old new : World) : Type 0 where
  pub size : new.flash.medium.size ≡ old.flash.medium.size
  pub flash_told : new.flash.medium.told ≡ old.flash.medium.told
  pub tpm_told : new.tpm.told ≡ old.tpm.told
  pub hook_told : new.hook.told ≡ old.hook.told
  pub disk : KeepsDrive old.disk new.disk
  pub stick : KeepsDrive old.stick new.stick

-- ---- the steps

-- every device has the size of a generated image
pub record HasSizes (old : World) : Type 0 where
  pub flash : old.flash.medium.size ≡ 1048576
  pub disk : old.disk.medium.sectors ≡ 16384
  pub stick : (old.stick.medium.sectors ≡ 0) ⊎ (old.stick.medium.sectors ≡ 16384)

-- the first device of another size, or none
abbrev pub SizeOf : World → Option Device → Type 0
SizeOf old (Some device) = HasOtherSize device old
SizeOf old None = HasSizes old

-- The images were made: the rows and the place of the map are as they were.
pub record ImagesMade (number : ℕ) (old new : World) : Type 0 where
  pub flash : WritesFlash (machine_flash number) old.flash new.flash false
  pub tpm : WritesSpaces old.tpm new.tpm false
  pub disk : WritesDrive (machine_disk number) old.disk new.disk false
  pub stick : WritesStick (machine_stick number) old.stick.medium.sectors old.stick new.stick false
  pub hook : new.hook ≡ old.hook
  pub map_at : new.map_at ≡ old.map_at

-- the images were made, or a device that is no hook failed
abbrev pub MakesImages : ℕ → World → World → Result Unit Device → Type 0
MakesImages number old new (Ok done) = ImagesMade number old new
MakesImages number old new (Err device) = (same_device Hook device ≡ false) × LeftByDevice number old new device

-- the refusal of a machine by the refusal of one of its rows
abbrev pub hook_fault : EnrollFault → MakeFault
hook_fault enroll.Failed = faults.Device Hook
hook_fault enroll.Full = faults.HookFull
hook_fault enroll.Memory = faults.Memory

-- All clauses of a call where every size is right.
pub record MakesMachine (number : ℕ) (old new : World) (result : Result Unit MakeFault) : Type 0 where
  pub size : (device : Device) → IsErrOf result (faults.Size device) → ⊥
  pub causes : IfErr result (HasCause number old new)
  pub full : IsTrue old.hook.told → LacksRoom (machine_rows number) old.hook.rows → IsErr result
  pub ok : OnOk result (IsMade number old new)
  pub err : IfErr result (LeftBy number old new)
  pub counters : CountsOf old new result
  pub kept : KeepsRest old new
