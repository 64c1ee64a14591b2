-- What the command that boots does, and how it ends.
use Rattle.std.specs.Prelude.{◌≡◌, ◌⊎◌, ℕ, Bool, true, false, IsTrue, Result, Ok, Err}
use Rattle.board_core.specs.declared.device.Device.{Device}
use Rattle.board_core.specs.declared.device.Device.TheVariants as device
use Rattle.board_core.specs.declared.device.Fault.{Fault}
use Rattle.board_core.specs.Counters.{CountsFaults, Observed}
use Rattle.board_core.specs.Fault.{same_device}
use Rattle.board_core.specs.Flash.{FlashMedium, FlashState}
use Rattle.board_core.specs.Streams.{StreamState}
use Rattle.board_core.specs.Tpm.{unlocked}
use Rattle.board_core.specs.World.{World, counters_on}
use Rattle.rom_core.specs.Reading.{IsLowestMap, HasNoMap, Locates}
use Rattle.boot_core.specs.declared.outcome.Outcome.{Outcome}
use Rattle.boot_core.specs.declared.switches.Switches.{Switches}
use Rattle.boot_core.specs.Hands.{Handed}
use Rattle.boot_core.specs.Steps.{IsTold, locks_at}
use Rattle.boot_core.specs.Boots.{NeverFall, HandsOver, boot_plan, Boots}
use Rattle.command_core.specs.declared.answer.Answer.{Answer}
use Rattle.command_core.specs.declared.answer.Answer.TheVariants as answers
use Rattle.command_core.specs.declared.answer.Status.{Status}
use Rattle.command_core.specs.declared.answer.Status.TheVariants as ended
use Rattle.command_core.specs.Answers.{outcome_status}
use Rattle.command_core.specs.Prints.{Prints}

-- the map is looked for here: the lowest multiple of 64 at which one stands, or 0
abbrev pub IsLocated : FlashMedium → ℕ → Type 0
IsLocated medium at = IsLowestMap medium.size medium.bytes 0 at ⊎ HasNoMap medium.size medium.bytes at

-- ---- the work

-- The flash failed while its map was looked for. Nothing of the board is changed.
pub record IsUnlocated (old new : World) : Type 0 where
  pub counters : Observed old.flash.counters new.flash.counters true
  pub medium : new.flash.medium ≡ old.flash.medium
  pub tpm : new.tpm ≡ old.tpm
  pub disk : new.disk ≡ old.disk
  pub stick : new.stick ≡ old.stick
  pub hook : new.hook ≡ old.hook
  pub map_at : new.map_at ≡ old.map_at

-- The place of the map was found, and the board is booted from there on.
pub record BootsLocated (sw : Switches) (old new : World) (result : Result Outcome Fault) : Type 0 where
  pub at : ℕ
  -- the flash after it
  pub flash : FlashState
  pub locates : Locates old.flash flash (Ok at)
  -- what the room hands out after it
  pub handed : Handed
  pub boots : Boots sw (record old { flash = flash; map_at = at }) new handed result

-- what holds of the board at each answer
abbrev pub BootWorks : Switches → World → World → Answer → Type 0
BootWorks sw old new (answers.Booted outcome) = BootsLocated sw old new (Ok outcome)
BootWorks sw old new (answers.Faulted fault) = BootsLocated sw old new (Err fault)
BootWorks sw old new (answers.Failed device.Flash) = IsUnlocated old new
BootWorks sw old new answers.OutOfMemory = new ≡ old
BootWorks sw old new other = ⊥

-- A boot works, and its answer is printed. What it does to the board does not depend on whether that could be printed.
pub record BootRuns (sw : Switches) (old new : World) (put put' : StreamState) (status : Status) : Type 0 where
  pub answer : Answer
  pub works : BootWorks sw old new answer
  pub prints : Prints answer put put' status

-- ---- what a user reads from the status

-- each device counted one failed call where it is one of those that failed, and none else
abbrev pub CountsFailed : (Device → Bool) → World → World → Type 0
CountsFailed failed old new = (on : Device) → CountsFaults (counters_on on old).faults (counters_on on new).faults (failed on)

-- this device failed, and no other
abbrev pub FailedAlone : Device → World → World → Type 0
FailedAlone device = CountsFailed (λ on. same_device on device)

abbrev pub NoneFailed : World → World → Type 0
NoneFailed = CountsFailed (λ on. false)

-- The outcome is that of the plan of a board, with its map looked for. Firmware and kernel that are handed over are those of the board,
-- each with its chain and, where versions are checked, no older than what is stored.
pub record IsPlanned (sw : Switches) (old : World) (outcome : Outcome) : Type 0 where
  pub at : ℕ
  pub located : IsLocated old.flash.medium at
  pub planned : outcome ≡ (boot_plan sw (record old { map_at = at })).outcome
  pub handed : Handed
  pub hands : HandsOver sw (record old { map_at = at }) handed outcome

-- The boot came to an outcome of this status, and no device failed. Both spaces are locked at a hand-over alone.
pub record EndsPlanned (sw : Switches) (old new : World) (status : Status) : Type 0 where
  pub outcome : Outcome
  pub status_is : status ≡ outcome_status outcome
  pub none_failed : NoneFailed old new
  pub locks : new.tpm.locks ≡ locks_at outcome
  pub planned : IsTold old → IsPlanned sw old outcome

-- it came to an outcome that ends it, and neither space is locked
abbrev pub EndsUnlocked : Switches → World → World → Status → Type 0
EndsUnlocked sw old new status = EndsPlanned sw old new status × (new.tpm.locks ≡ unlocked)

-- What each status tells of the board. That of a device comes only where this device failed, and alone; that of the sink hides what
-- the boot came to; and a boot has no other status than these.
abbrev pub StatusTells : Switches → World → World → StreamState → StreamState → Status → Type 0
StatusTells sw old new put put' ended.Done = EndsPlanned sw old new ended.Done
StatusTells sw old new put put' ended.Reboot = EndsUnlocked sw old new ended.Reboot
StatusTells sw old new put put' ended.Screen = EndsUnlocked sw old new ended.Screen
StatusTells sw old new put put' ended.BadFlash = EndsUnlocked sw old new ended.BadFlash
StatusTells sw old new put put' ended.FlashFault = FailedAlone device.Flash old new
StatusTells sw old new put put' ended.TpmFault = FailedAlone device.Tpm old new
StatusTells sw old new put put' ended.DriveFault = FailedAlone device.Disk old new ⊎ FailedAlone device.Stick old new
StatusTells sw old new put put' ended.HookFault = FailedAlone device.Hook old new
StatusTells sw old new put put' ended.SinkFault = CountsFaults put.faults put'.faults true
-- want of memory comes before the first call of a device
StatusTells sw old new put put' ended.NoMemory = new ≡ old
StatusTells sw old new put put' other = ⊥

pub record BootEnds (sw : Switches) (old new : World) (put put' : StreamState) (status : Status) : Type 0 where
  pub tells : StatusTells sw old new put put' status
  -- at every status, neither stored version falls
  pub versions : IsTrue old.tpm.told → NeverFall old.tpm.spaces new.tpm.spaces
