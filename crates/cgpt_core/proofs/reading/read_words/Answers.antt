-- The words were taken, and the rows are those that they give.
use Rattle.std.proofs.Common.{◌∙◌, ap}
use Rattle.clap.specs.Words.{kind_of}
use Rattle.clap.specs.declared.parser.matches.ArgMatches.{ArgMatches}
use Rattle.cgpt_core.specs.Words.{fault_of_kind}
use Rattle.cgpt_core.proofs.CallsRead.{faults-none, rows_read, refused_by}
use Rattle.cgpt_core.proofs.reading.read_words.Goals as goal

pub returns-in-Ok-try_get_matches_from-clause-taken : goal.returns-in-Ok-try_get_matches_from-clause-taken
returns-in-Ok-try_get_matches_from-clause-taken c =
    faults-none c.args.command c.args.name.now _ _ c.in-Ok.ensures c.in-Ok-try_get_matches_from.ensures.kinds

pub returns-in-Ok-try_get_matches_from-clause-rows : goal.returns-in-Ok-try_get_matches_from-clause-rows
returns-in-Ok-try_get_matches_from-clause-rows c =
    rows_read c.args.command c.args.name.now _ _ c.in-Ok-try_get_matches_from.matches c.in-Ok.ensures c.in-Ok-try_get_matches_from.ensures.matches

pub returns-in-Err-clause-refused : goal.returns-in-Err-clause-refused
returns-in-Err-clause-refused c =
    refused_by ArgMatches c.args.command c.args.name.now _ _ (kind_of c.in-Err.error) _ c.in-Ok.ensures c.in-Err.ensures.kinds (c.fault_of_error.ensures ∙ ap fault_of_kind c.kind.ensures)
