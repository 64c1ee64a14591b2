-- The first bytes of a copy, or those behind them.
use Rattle.std.proofs.Common.{sym, ap, ◌∙◌, arith, length-take-le}
use Rattle.std.proofs.lemmas.List.{take_rest}
use Rattle.gpt_core.specs.Format as spec
use Rattle.gpt_core.proofs.checking.header_in.Goals as goal

pub slice_bounds-result-end : goal.slice_bounds-result-end
slice_bounds-result-end c = sym (length-take-le 512 c.args.copy.now (omega arith))

pub returns-in-Primary-clause-size : goal.returns-in-Primary-clause-size
returns-in-Primary-clause-size c = length-take-le 512 c.args.copy.now (omega arith)

pub returns-in-Backup-clause-value : goal.returns-in-Backup-clause-value
returns-in-Backup-clause-value c = take_rest c.args.copy.now 16384 ∙ ap (λ side. spec.header_in side c.args.copy.now) (sym c.in-Backup.is)
