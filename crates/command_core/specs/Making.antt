-- What the command that makes a machine does, and how it ends.
use Rattle.std.specs.Prelude.{◌≡◌, ◌↔◌, ℕ, IsTrue, IsErr, IsErrOf, Result, Ok, Err, OnOk, IfErr}
use Rattle.board_core.specs.declared.device.Device.{Device}
use Rattle.board_core.specs.Streams.{StreamState}
use Rattle.board_core.specs.World.{World}
use Rattle.make_core.specs.declared.making.MakeFault.{MakeFault}
use Rattle.make_core.specs.declared.making.MakeFault.TheVariants as faults
use Rattle.make_core.specs.Rows.{machine_rows}
use Rattle.make_core.specs.Enrolling.{LacksRoom}
use Rattle.make_core.specs.Make.{HasOtherSize, HasCause, IsMade, LeftBy, CountsOf, KeepsRest}
use Rattle.command_core.specs.declared.answer.Answer.{Answer}
use Rattle.command_core.specs.declared.answer.Answer.TheVariants as answers
use Rattle.command_core.specs.declared.answer.Status.{Status}
use Rattle.command_core.specs.declared.answer.Status.TheVariants as ended
use Rattle.command_core.specs.Prints.{Prints}

abbrev pub refusal_of : MakeFault → Answer
refusal_of (faults.Size device) = answers.WrongSize device
refusal_of (faults.Device device) = answers.Failed device
refusal_of faults.HookFull = answers.HookFull
refusal_of faults.Memory = answers.OutOfMemory

-- A machine that is made ends with status 0 and prints nothing, and a refusal is printed.
abbrev pub EndsMake : Result Unit MakeFault → StreamState → StreamState → Status → Type 0
EndsMake (Ok done) old new status = (status ≡ ended.Done) × (new ≡ old)
EndsMake (Err fault) old new status = Prints (refusal_of fault) old new status

-- The images of the machine of a number are made on a board.
pub record Makes (number : ℕ) (old new : World) (put put' : StreamState) (status : Status) : Type 0 where
  pub answer : Result Unit MakeFault
  pub made : OnOk answer (IsMade number old new)
  -- why it was refused, and what it left then
  pub cause : IfErr answer (HasCause number old new)
  pub left : IfErr answer (LeftBy number old new)
  -- a device is the first of another size exactly where it is refused so
  pub size : (device : Device) → IsErrOf answer (faults.Size device) ↔ HasOtherSize device old
  -- and a hook without room is refused
  pub full : IsTrue old.hook.told → LacksRoom (machine_rows number) old.hook.rows → IsErr answer
  pub counts : CountsOf old new answer
  pub kept : KeepsRest old new
  pub ends : EndsMake answer put put' status
  -- status 1 is for other words
  pub not_usage : status ≡ ended.Usage → ⊥
