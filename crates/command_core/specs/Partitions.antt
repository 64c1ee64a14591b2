-- What the command on a partition table does, and how it ends.
use Rattle.std.specs.Prelude.{◌≡◌, ◌⊎◌, ℕ, List, Result, Ok, Err}
use Rattle.board_core.specs.Drive.{device_of_drive}
use Rattle.board_core.specs.Streams.{StreamState}
use Rattle.board_core.specs.World.{World, drive_on, with_drive}
use Rattle.boot_core.specs.Carries.{IsSettled}
use Rattle.cgpt_core.specs.declared.call.CgptCall.{CgptCall}
use Rattle.board_core.specs.declared.device.Drive.{Drive}
use Rattle.cgpt_core.specs.declared.fault.CgptFault.{CgptFault}
use Rattle.cgpt_core.specs.declared.fault.CgptFault.TheVariants as fault
use Rattle.cgpt_core.specs.Tables.{Works}
use Rattle.command_core.specs.declared.answer.Answer.TheVariants as answers
use Rattle.command_core.specs.declared.answer.CgptRefusal.TheVariants as refusal
use Rattle.command_core.specs.declared.answer.Status.{Status}
use Rattle.command_core.specs.declared.answer.Status.TheVariants as ended
use Rattle.command_core.specs.Prints.{Prints}

-- A command that is done ends with status 0, and one whose text could not be put with 9. The text of any other is printed
-- with its status.
abbrev pub EndsCgpt : Drive → Result Unit CgptFault → StreamState → StreamState → Status → Type 0
EndsCgpt drive (Ok done) old new status = (status ≡ ended.Done) × (new ≡ old)
EndsCgpt drive (Err fault.Write) old new status = (status ≡ ended.SinkFault) × (new ≡ old)
EndsCgpt drive (Err fault.Device) old new status = Prints (answers.Failed (device_of_drive drive)) old new status
EndsCgpt drive (Err fault.DiskTooSmall) old new status = Prints (answers.RefusedCgpt refusal.DiskTooSmall) old new status
EndsCgpt drive (Err fault.NoTable) old new status = Prints (answers.RefusedCgpt refusal.NoTable) old new status
EndsCgpt drive (Err fault.NoEntry) old new status = Prints (answers.RefusedCgpt refusal.NoEntry) old new status
EndsCgpt drive (Err fault.NoFreeEntry) old new status = Prints (answers.RefusedCgpt refusal.NoFreeEntry) old new status
EndsCgpt drive (Err fault.BadValue) old new status = Prints (answers.RefusedCgpt refusal.BadValue) old new status
EndsCgpt drive (Err fault.Outside) old new status = Prints (answers.RefusedCgpt refusal.Outside) old new status
EndsCgpt drive (Err fault.Overlap) old new status = Prints (answers.RefusedCgpt refusal.Overlap) old new status
EndsCgpt drive (Err fault.DuplicateUnique) old new status = Prints (answers.RefusedCgpt refusal.DuplicateUnique) old new status

-- A command works on the drive that its call names, with a GUID that it may use, as a disk stores it.
pub record WorksOnDrive (call : CgptCall) (guid : List ℕ) (old new : World) (put put' : StreamState) (answer : Result Unit CgptFault) : Type 0 where
  pub works : Works call guid (drive_on call.drive old) (drive_on call.drive new) put put' answer
  -- no other device is called
  pub others : new ≡ with_drive call.drive (drive_on call.drive new) old
  pub settled : IsSettled new

-- A command on a partition table is worked, and ended by its answer.
pub record RunsCgpt (call : CgptCall) (guid : List ℕ) (old new : World) (put put' : StreamState) (status : Status) : Type 0 where
  -- what came of it, and the sink after it
  pub answer : Result Unit CgptFault
  pub written : StreamState
  pub works : WorksOnDrive call guid old new put written answer
  pub ends : EndsCgpt call.drive answer written put' status

-- there was no memory, and no device is called
abbrev pub LacksMemory : World → World → StreamState → StreamState → Status → Type 0
LacksMemory old new put put' status = (new ≡ old) × Prints answers.OutOfMemory put put' status

-- What the command does.
pub record WorksTable (call : CgptCall) (guid : List ℕ) (old new : World) (put put' : StreamState) (status : Status) : Type 0 where
  pub runs : RunsCgpt call guid old new put put' status ⊎ LacksMemory old new put put' status
  -- want of memory comes before the first call of a device
  pub no_memory : status ≡ ended.NoMemory → new ≡ old
  -- status 1 is for other words
  pub not_usage : status ≡ ended.Usage → ⊥
