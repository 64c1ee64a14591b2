-- Words that are none of the commands before are those that show a partition, or none.
use Rattle.std.proofs.Common.{◌∙◌, sym}
use Rattle.std.proofs.lemmas.Bool.{false≢true}
use Rattle.command_core.proofs.PlainWords.{read_other}
use Rattle.command_core.proofs.command.plain_command.Goals as goal

pub returns-else-is_one-clause-read : goal.returns-else-is_one-clause-read
returns-else-is_one-clause-read c =
    read_other _ c.partition_command.result
    (record {
      boot = c.in_default.ensures.none;
      flash = λ is. false≢true (sym c.if-are_three.false ∙ c.are_three.ensures.1 is);
      make = c.in_default-number_behind.ensures.none;
      crossystem = c.in_default-behind.ensures.none;
      migrate = λ is. false≢true (sym c.if-is_one.false ∙ c.is_one.ensures.1 is);
    })
    c.partition_command.ensures.some c.partition_command.ensures.none
