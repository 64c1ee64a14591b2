-- What the command does that brings the kernel space into its newer form, and how it ends.
use Rattle.std.specs.Prelude.{◌≡◌, Bool, true, false, Result, Ok, Err}
use Rattle.board_core.specs.declared.device.Device.TheVariants as device
use Rattle.board_core.specs.Streams.{StreamState}
use Rattle.board_core.specs.World.{World}
use Rattle.boot_core.specs.Carries.{IsSettled}
use Rattle.crossystem_core.specs.declared.fault.MigrateFault.{MigrateFault}
use Rattle.crossystem_core.specs.declared.fault.MigrateFault.TheVariants.{Refused, Failed}
use Rattle.crossystem_core.specs.Migrating.{Migrates}
use Rattle.command_core.specs.declared.answer.Answer.{Answer}
use Rattle.command_core.specs.declared.answer.Answer.TheVariants as answers
use Rattle.command_core.specs.declared.answer.Status.{Status}
use Rattle.command_core.specs.declared.answer.Status.TheVariants as ended
use Rattle.command_core.specs.Prints.{Prints}

-- what came of it, as an answer
abbrev pub migrate_answer : Result Bool MigrateFault → Answer
migrate_answer (Ok true) = answers.Migrated
migrate_answer (Ok false) = answers.AlreadyMigrated
migrate_answer (Err (Refused bad)) = answers.RefusedMigrate bad
migrate_answer (Err Failed) = answers.Failed device.Tpm

-- The kernel space of a board is brought into its newer form.
pub record MigratesBoard (old new : World) (put put' : StreamState) (status : Status) : Type 0 where
  pub answer : Result Bool MigrateFault
  pub migrates : Migrates old.tpm new.tpm answer
  -- no other device is called
  pub others : new ≡ record old { tpm = new.tpm }
  pub settled : IsSettled new
  pub prints : Prints (migrate_answer answer) put put' status
  -- no memory is taken
  pub no_memory : status ≡ ended.NoMemory → ⊥
  -- status 1 is for other words
  pub not_usage : status ≡ ended.Usage → ⊥
