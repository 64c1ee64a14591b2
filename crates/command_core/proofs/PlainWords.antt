-- What words are read as that are no command on a partition table.
use Rattle.std.proofs.Common.{◌≡◌, ℕ, ◌<◌, ◌^◌, List, [], ◌∷◌, Option, Some, None}
use Rattle.std.specs.Prelude.{IfSome, IfNone, codes, decimal}
use Rattle.board_core.specs.declared.device.Drive.{Drive}
use Rattle.boot_core.specs.declared.switches.Switches.{Switches}
use Rattle.command_core.specs.declared.command.Command.{Command}
use Rattle.command_core.specs.declared.command.Command.TheVariants as command
use Rattle.command_core.specs.Commands.{partition_words, boot_words, AreShowWords, AreWordsOf, IsCgpt, IsInRange, IsReadPlain}

-- The words are those of no command that is looked for before those that show a partition.
pub record AreOther (words : List (List ℕ)) : Type 0 where
  pub boot : (sw : Switches) → words ≡ boot_words sw → ⊥
  pub flash : words ≡ codes "futility" ∷ codes "show" ∷ codes "flash" ∷ [] → ⊥
  pub make : (number : ℕ) → number < 2 ^ 32 → words ≡ codes "make" ∷ decimal number ∷ [] → ⊥
  pub crossystem : (rest : List (List ℕ)) → words ≡ codes "crossystem" ∷ rest → ⊥
  pub migrate : words ≡ codes "migrate" ∷ [] → ⊥

is_none : (words : List (List ℕ)) → AreOther words → ((drive : Drive) (index : ℕ) → index < 2 ^ 32 → words ≡ partition_words drive index → ⊥)
    → (c : Command) → IsInRange c → (IsCgpt c → ⊥) → AreWordsOf words c → ⊥
is_none words other none (command.Boot sw) range plain are = other.boot sw are
is_none words other none command.ShowFlash range plain are = other.flash are
is_none words other none (command.Make number) range plain are = other.make number range are
is_none words other none (command.ShowPartition drive index) range plain are = none drive index range are
is_none words other none (command.Cgpt call) range plain are = plain tt
is_none words other none command.Crossystem range plain are = other.crossystem are.0 are.1
is_none words other none command.Migrate range plain are = other.migrate are

pub read_other : (words : List (List ℕ)) (found : Option Command) → AreOther words → IfSome found (AreShowWords words)
    → IfNone found ((drive : Drive) (index : ℕ) → index < 2 ^ 32 → words ≡ partition_words drive index → ⊥) → IsReadPlain words found
read_other words (Some (command.ShowPartition drive index)) other some none = some
read_other words (Some (command.Boot sw)) other some none = absurd some
read_other words (Some command.ShowFlash) other some none = absurd some
read_other words (Some (command.Make number)) other some none = absurd some
read_other words (Some (command.Cgpt call)) other some none = absurd some
read_other words (Some command.Crossystem) other some none = absurd some
read_other words (Some command.Migrate) other some none = absurd some
read_other words None other some none = is_none words other none
