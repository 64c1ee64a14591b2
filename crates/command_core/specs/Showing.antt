-- What the command that shows the flash does.
use Rattle.std.specs.Prelude.{◌≡◌, ℕ, IsTrue, Result, Ok, Err}
use Rattle.board_core.specs.declared.device.Device.TheVariants as device
use Rattle.board_core.specs.Counters.{Observed, CountsFaults}
use Rattle.board_core.specs.Flash.{FlashState}
use Rattle.board_core.specs.Streams.{StreamState}
use Rattle.board_core.specs.World.{World}
use Rattle.show_core.specs.declared.show.ShowFault.{ShowFault}
use Rattle.show_core.specs.declared.show.ShowFault.TheVariants.{Device, BadFlash, Write}
use Rattle.show_core.specs.Show.{is_device, is_write, IsUnshown, PutsText}
use Rattle.command_core.specs.declared.answer.Answer.TheVariants as answers
use Rattle.command_core.specs.declared.answer.Status.{Status}
use Rattle.command_core.specs.declared.answer.Status.TheVariants as ended
use Rattle.command_core.specs.Prints.{Prints}
use Rattle.command_core.specs.Booting.{IsLocated}

-- The map of a flash is looked for, and the flash is shown.
pub record LocatesAndShows (old new : FlashState) (put put' : StreamState) (result : Result Unit ShowFault) : Type 0 where
  -- the flash counted one failed call where it is said to have failed, and none else; it holds what it held
  pub counters : Observed old.counters new.counters (is_device result)
  pub medium : new.medium ≡ old.medium
  -- so did the sink
  pub faults : CountsFaults put.faults put'.faults (is_write result)
  pub told : put'.told ≡ put.told
  -- what was put is the text of the flash, or a beginning of it where the sink failed, or nothing
  pub texts : IsTrue old.medium.told → IsTrue put.told → (result ≡ Err Device → ⊥) → (at : ℕ) × IsLocated old.medium at
      × PutsText at old.medium put.bytes put'.bytes result
  -- whatever the flash tells, nothing where it failed or its map has a fault
  pub nothing : IsTrue put.told → IsUnshown result → put'.bytes ≡ put.bytes

-- How a showing ends: with status 0; or with the text and the status of what went wrong, or 9 where the sink failed.
abbrev pub EndsShow : Result Unit ShowFault → StreamState → StreamState → Status → Type 0
EndsShow (Ok done) old new status = (status ≡ ended.Done) × (new ≡ old)
EndsShow (Err Write) old new status = (status ≡ ended.SinkFault) × (new ≡ old)
EndsShow (Err Device) old new status = Prints (answers.Failed device.Flash) old new status
EndsShow (Err (BadFlash fault)) old new status = Prints (answers.BadFlash fault) old new status

-- The flash of a board is shown, and nothing of the board is changed.
pub record Shows (old new : World) (put put' : StreamState) (status : Status) : Type 0 where
  -- what came of it, and the sink after it
  pub answer : Result Unit ShowFault
  pub shown : StreamState
  pub works : LocatesAndShows old.flash new.flash put shown answer
  pub ends : EndsShow answer shown put' status
  -- no other device is called
  pub tpm : new.tpm ≡ old.tpm
  pub disk : new.disk ≡ old.disk
  pub stick : new.stick ≡ old.stick
  pub hook : new.hook ≡ old.hook
  pub map_at : new.map_at ≡ old.map_at
  -- no memory is taken
  pub no_memory : status ≡ ended.NoMemory → ⊥
  -- status 1 is for other words
  pub not_usage : status ≡ ended.Usage → ⊥
