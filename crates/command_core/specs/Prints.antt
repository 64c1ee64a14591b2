-- How an answer is printed.
use Rattle.std.specs.Prelude.{◌≡◌, ◌⊎◌, ℕ, ◌≤◌, true, IsTrue, ◌++◌, length, take}
use Rattle.board_core.specs.Counters.{CountsFaults}
use Rattle.board_core.specs.Streams.{StreamState}
use Rattle.command_core.specs.declared.answer.Answer.{Answer}
use Rattle.command_core.specs.declared.answer.Status.{Status}
use Rattle.command_core.specs.declared.answer.Status.TheVariants.{SinkFault}
use Rattle.command_core.specs.Answers.{text_of, status_of}

-- The whole text of an answer was put, and the status is that of the answer.
pub record PrintsWhole (answer : Answer) (old new : StreamState) (status : Status) : Type 0 where
  pub status_is : status ≡ status_of answer
  pub faults : new.faults ≡ old.faults
  pub told : new.told ≡ old.told
  pub whole : IsTrue old.told → new.bytes ≡ old.bytes ++ text_of answer

-- The sink failed, which it counted, and the status is that of the sink. A beginning of the text was put, perhaps none of it.
pub record PrintsFront (answer : Answer) (old new : StreamState) (status : Status) : Type 0 where
  pub status_is : status ≡ SinkFault
  pub faults : CountsFaults old.faults new.faults true
  pub told : new.told ≡ old.told
  pub front : IsTrue old.told → (count : ℕ) × (count ≤ length (text_of answer)) × (new.bytes ≡ old.bytes ++ take count (text_of answer))

-- an answer is printed with one call of the sink
abbrev pub Prints : Answer → StreamState → StreamState → Status → Type 0
Prints answer old new status = PrintsWhole answer old new status ⊎ PrintsFront answer old new status
