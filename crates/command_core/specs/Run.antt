-- What a run of the program does, by the command of its words.
use Rattle.std.specs.Prelude.{◌≡◌, ℕ, List, drop, Result, Ok, Err}
use Rattle.uuid.specs.Parts.{swap_fields}
use Rattle.board_core.specs.Streams.{StreamState}
use Rattle.board_core.specs.World.{World}
use Rattle.cgpt_core.specs.declared.call.WordFault.{WordFault}
use Rattle.cgpt_core.specs.Guids.{guid_of_run}
use Rattle.command_core.specs.declared.answer.Status.{Status}
use Rattle.command_core.specs.declared.command.Command.{Command}
use Rattle.command_core.specs.declared.command.Command.TheVariants.{Boot, ShowFlash, Make, ShowPartition, Cgpt, Crossystem, Migrate}
use Rattle.command_core.specs.Commands.{IsRead}
use Rattle.command_core.specs.Answers.{answer_of_words}
use Rattle.command_core.specs.Prints.{Prints}
use Rattle.command_core.specs.Booting.{BootRuns, BootEnds}
use Rattle.command_core.specs.Making.{Makes}
use Rattle.command_core.specs.Partitions.{WorksTable}
use Rattle.command_core.specs.Crossing.{WorksWords}
use Rattle.command_core.specs.Migrating.{MigratesBoard}
use Rattle.command_core.specs.Showing.{Shows}
use Rattle.command_core.specs.KernelShowing.{ShowsKernel}

-- A command has the number 0 of its run. Words that are refused leave the board as it was.
abbrev pub RunsBy : (words : List (List ℕ)) (seed : List ℕ) → Result Command WordFault → World → World → StreamState → StreamState → Status → Type 0
RunsBy words seed (Err fault) old new put put' status = (new ≡ old) × Prints (answer_of_words fault) put put' status
RunsBy words seed (Ok (Boot sw)) old new put put' status =
    BootRuns sw old new put put' status × BootEnds sw old new put put' status
RunsBy words seed (Ok ShowFlash) old new put put' status = Shows old new put put' status
RunsBy words seed (Ok (Make number)) old new put put' status = Makes number old new put put' status
RunsBy words seed (Ok (ShowPartition drive index)) old new put put' status = ShowsKernel drive index old new put put' status
RunsBy words seed (Ok (Cgpt call)) old new put put' status = WorksTable call (swap_fields (guid_of_run seed 0)) old new put put' status
RunsBy words seed (Ok Crossystem) old new put put' status = WorksWords (drop 1 words) old new put put' status
RunsBy words seed (Ok Migrate) old new put put' status = MigratesBoard old new put put' status

-- A run works the command that its words ask for.
pub record Runs (words : List (List ℕ)) (seed : List ℕ) (old new : World) (put put' : StreamState) (status : Status) : Type 0 where
  pub command : Result Command WordFault
  pub read : IsRead words command
  pub works : RunsBy words seed command old new put put' status
