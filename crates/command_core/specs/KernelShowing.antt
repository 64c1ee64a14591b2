-- What the command that shows a partition does, and how it ends.
use Rattle.std.specs.Prelude.{◌≡◌, ◌⊎◌, ℕ, Result, Ok, Err}
use Rattle.board_core.specs.Streams.{StreamState}
use Rattle.board_core.specs.World.{World, drive_on, with_drive}
use Rattle.boot_core.specs.Carries.{IsSettled}
use Rattle.board_core.specs.declared.device.Drive.{Drive}
use Rattle.show_core.specs.declared.partition.PartitionFault.{PartitionFault}
use Rattle.show_core.specs.declared.partition.PartitionFault.TheVariants as fault
use Rattle.show_core.specs.Partition.{ShowsPartition}
use Rattle.command_core.specs.declared.answer.Answer.TheVariants as answers
use Rattle.command_core.specs.declared.answer.CgptRefusal.TheVariants as refusal
use Rattle.command_core.specs.declared.answer.Status.{Status}
use Rattle.command_core.specs.declared.answer.Status.TheVariants as ended
use Rattle.command_core.specs.Prints.{Prints}
use Rattle.board_core.specs.Drive.{device_of_drive}
use Rattle.command_core.specs.Partitions.{LacksMemory}

-- A showing that is done ends with status 0, and one whose text could not be put with 9. The text of any other is printed with
-- its status.
abbrev pub EndsKernel : Drive → Result Unit PartitionFault → StreamState → StreamState → Status → Type 0
EndsKernel drive (Ok done) old new status = (status ≡ ended.Done) × (new ≡ old)
EndsKernel drive (Err fault.Write) old new status = (status ≡ ended.SinkFault) × (new ≡ old)
EndsKernel drive (Err fault.Device) old new status = Prints (answers.Failed (device_of_drive drive)) old new status
EndsKernel drive (Err fault.NoTable) old new status = Prints (answers.RefusedCgpt refusal.NoTable) old new status
EndsKernel drive (Err fault.NoEntry) old new status = Prints (answers.RefusedCgpt refusal.NoEntry) old new status

-- A partition of this drive is shown.
pub record ShowsOnDrive (drive : Drive) (index : ℕ) (old new : World) (put put' : StreamState)
    (answer : Result Unit PartitionFault) : Type 0 where
  pub works : ShowsPartition index (drive_on drive old) (drive_on drive new) put put' answer
  -- no other device is called
  pub others : new ≡ with_drive drive (drive_on drive new) old
  pub settled : IsSettled new

-- It is shown, and the command is ended by the answer.
pub record RunsKernel (drive : Drive) (index : ℕ) (old new : World) (put put' : StreamState) (status : Status) : Type 0 where
  -- what came of it, and the sink after it
  pub answer : Result Unit PartitionFault
  pub written : StreamState
  pub works : ShowsOnDrive drive index old new put written answer
  pub ends : EndsKernel drive answer written put' status

-- What the command does.
pub record ShowsKernel (drive : Drive) (index : ℕ) (old new : World) (put put' : StreamState) (status : Status) : Type 0 where
  pub runs : RunsKernel drive index old new put put' status ⊎ LacksMemory old new put put' status
  -- want of memory comes before the first call of a device
  pub no_memory : status ≡ ended.NoMemory → new ≡ old
  -- status 1 is for other words
  pub not_usage : status ≡ ended.Usage → ⊥
