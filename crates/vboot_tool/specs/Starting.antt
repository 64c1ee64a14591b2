-- What comes of words before and after the board is opened.
use Rattle.std.specs.Prelude.{◌≡◌, ◌⊎◌, ℕ, List, Err}
use Rattle.std.specs.declared.io.ErrorKind.{ErrorKind}
use Rattle.std.specs.declared.io.ErrorKind.TheVariants.{OutOfMemory}
use Rattle.board_core.specs.Streams.{StreamState}
use Rattle.board_core.specs.World.{World}
use Rattle.boot_core.specs.Carries.{IsSettled}
use Rattle.cgpt_core.specs.declared.call.WordFault.{WordFault}
use Rattle.board_file.specs.declared.open_fault.OpenFault.{OpenFault}
use Rattle.board_file.specs.declared.open_fault.OpenFault.TheVariants.{Memory}
use Rattle.command_core.specs.declared.answer.Answer.TheVariants as answer
use Rattle.command_core.specs.declared.answer.Status.{Status}
use Rattle.command_core.specs.Answers.{answer_of_words, exit_code}
use Rattle.command_core.specs.Commands.{IsCommand, IsRead}
use Rattle.command_core.specs.Prints.{Prints}
use Rattle.command_core.specs.Run.{Runs}

-- The words were run on this board, which some world is after them.
pub record RunsFrom (words : List (List ℕ)) (old : World) (put put' : StreamState) (status : Status) : Type 0 where
  pub new : World
  -- of which the GUID is made that a command may use
  pub seed : List ℕ
  pub runs : Runs words seed old new put put' status

-- The words are a command, which was run on a board as it was opened: nothing was pending on its disks.
pub record RunsOpened (words : List (List ℕ)) (put put' : StreamState) (status : Status) : Type 0 where
  pub command : IsCommand words
  pub old : World
  pub settled : IsSettled old
  pub from : RunsFrom words old put put' status

-- The words are a command, but the board could not be opened: why is printed.
pub record IsUnopened (words : List (List ℕ)) (put put' : StreamState) (status : Status) : Type 0 where
  pub command : IsCommand words
  pub fault : OpenFault
  pub prints : Prints (answer.Unopened fault) put put' status

-- The words were refused, and their answer is printed.
pub record IsRefused (words : List (List ℕ)) (put put' : StreamState) (status : Status) : Type 0 where
  pub fault : WordFault
  pub read : IsRead words (Err fault)
  pub prints : Prints (answer_of_words fault) put put' status

abbrev pub StartsBy : List (List ℕ) → StreamState → StreamState → Status → Type 0
StartsBy words put put' status = RunsOpened words put put' status ⊎ (IsUnopened words put put' status ⊎ IsRefused words put put' status)

-- the words were run, or memory was wanting before; the process ends with the status that this came to
abbrev pub EndsBy : List (List ℕ) → StreamState → StreamState → ℕ → Type 0
EndsBy words put put' code =
    (status : Status) × (code ≡ exit_code status) × (StartsBy words put put' status ⊎ Prints (answer.Unopened Memory) put put' status)

-- No word could be had. Where memory was wanting, that is told; every other cause is told as words that are no command.
pub record LacksWords (kind : ErrorKind) (put put' : StreamState) (code : ℕ) : Type 0 where
  pub status : Status
  pub ends : code ≡ exit_code status
  pub memory : kind ≡ OutOfMemory → Prints (answer.Unopened Memory) put put' status
  pub other : (kind ≡ OutOfMemory → ⊥) → Prints answer.Usage put put' status
