-- The first bytes of a copy, or those behind them.
use Rattle.std.proofs.Common.{sym, ap, ◌∙◌, arith, length-take-le}
use Rattle.std.proofs.lemmas.List.{take_rest}
use Rattle.gpt_core.specs.Format as spec
use Rattle.gpt_core.proofs.checking.entries_in.Goals as goal

pub slice_bounds-result-end-in-Backup : goal.slice_bounds-result-end-in-Backup
slice_bounds-result-end-in-Backup c = sym (length-take-le 16384 c.args.copy.now (omega arith))

pub returns-in-Backup-clause-size : goal.returns-in-Backup-clause-size
returns-in-Backup-clause-size c = length-take-le 16384 c.args.copy.now (omega arith)

pub returns-in-Primary-clause-value : goal.returns-in-Primary-clause-value
returns-in-Primary-clause-value c = take_rest c.args.copy.now 512 ∙ ap (λ side. spec.entries_in side c.args.copy.now) (sym c.in-Primary.is)
