-- What the command does that is the crossystem tool, and how it ends.
use Rattle.std.specs.Prelude.{◌≡◌, ◌⊎◌, ℕ, List, Option, Some, None, Result, Ok, Err}
use Rattle.board_core.specs.declared.device.Device.TheVariants as device
use Rattle.board_core.specs.Flash.{FlashState}
use Rattle.board_core.specs.Streams.{StreamState}
use Rattle.board_core.specs.World.{World}
use Rattle.rom_core.specs.Reading.{Locates}
use Rattle.boot_core.specs.Carries.{IsSettled}
use Rattle.crossystem_core.specs.declared.fault.CrossFault.{CrossFault}
use Rattle.crossystem_core.specs.declared.fault.CrossFault.TheVariants as fault
use Rattle.crossystem_core.specs.declared.words.Refusal.{Refusal}
use Rattle.crossystem_core.specs.Words.{refused_from}
use Rattle.crossystem_core.specs.Crossing.{Crosses}
use Rattle.command_core.specs.declared.answer.Answer.TheVariants as answers
use Rattle.command_core.specs.declared.answer.Status.{Status}
use Rattle.command_core.specs.declared.answer.Status.TheVariants as ended
use Rattle.command_core.specs.Booting.{IsUnlocated}
use Rattle.command_core.specs.Prints.{Prints}

-- Words that are done end with status 0, and those whose lines could not be put with 9. The text of any other answer is printed with
-- its status.
abbrev pub EndsCross : Result Unit CrossFault → StreamState → StreamState → Status → Type 0
EndsCross (Ok done) old new status = (status ≡ ended.Done) × (new ≡ old)
EndsCross (Err fault.Write) old new status = (status ≡ ended.SinkFault) × (new ≡ old)
EndsCross (Err (fault.Refused word code)) old new status = Prints (answers.RefusedWord word code) old new status
EndsCross (Err (fault.Device failed)) old new status = Prints (answers.Failed failed) old new status
EndsCross (Err (fault.BadFlash bad)) old new status = Prints (answers.BadFlash bad) old new status
EndsCross (Err (fault.Differs word)) old new status = Prints (answers.Differs word) old new status

-- the map is looked for where no word is refused, and else its place is the one that stood
abbrev pub LooksFor : Option Refusal → FlashState → FlashState → (was at : ℕ) → Type 0
LooksFor (Some refusal) old new was at = (new ≡ old) × (at ≡ was)
LooksFor None old new was at = Locates old new (Ok at)

-- The words are worked, and their answer ends the command.
pub record RunsCross (words : List (List ℕ)) (old new : World) (put put' : StreamState) (status : Status) : Type 0 where
  -- the place of the map, and the flash after it was looked for
  pub at : ℕ
  pub flash : FlashState
  pub looks : LooksFor (refused_from 1 words) old.flash flash old.map_at at
  -- what came of the words, and the sink after it
  pub answer : Result Unit CrossFault
  pub shown : StreamState
  pub crosses : Crosses at words flash new.flash old.tpm new.tpm put shown answer
  -- no other device is called
  pub others : new ≡ record old { flash = new.flash; tpm = new.tpm; map_at = at }
  pub ends : EndsCross answer shown put' status

-- The flash failed while its map was looked for, and no word is refused.
pub record IsUnsearched (words : List (List ℕ)) (old new : World) (put put' : StreamState) (status : Status) : Type 0 where
  pub accepted : refused_from 1 words ≡ None
  pub unlocated : IsUnlocated old new
  pub prints : Prints (answers.Failed device.Flash) put put' status

-- What the command does.
pub record WorksWords (words : List (List ℕ)) (old new : World) (put put' : StreamState) (status : Status) : Type 0 where
  pub runs : RunsCross words old new put put' status ⊎ IsUnsearched words old new put put' status
  -- both spaces and both locks stay, whatever the status
  pub spaces : new.tpm.spaces ≡ old.tpm.spaces
  pub locks : new.tpm.locks ≡ old.tpm.locks
  pub settled : IsSettled new
  -- no memory is taken
  pub no_memory : status ≡ ended.NoMemory → ⊥
  -- status 1 is for other words
  pub not_usage : status ≡ ended.Usage → ⊥
