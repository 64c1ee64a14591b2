use Rattle.command_core.proofs.making.run_make.Goals as goal

pub make-answer-requires-clause-disk : goal.make-answer-requires-clause-disk
make-answer-requires-clause-disk g c = c.requires.disk

pub make-answer-requires-clause-stick : goal.make-answer-requires-clause-stick
make-answer-requires-clause-stick g c = c.requires.stick

pub returns : goal.returns
returns g c = record {
  answer = c.make-answer.result;
  made = c.make-answer.ensures.ok;
  cause = c.make-answer.ensures.causes;
  left = c.make-answer.ensures.err;
  size = c.make-answer.ensures.size;
  full = c.make-answer.ensures.full;
  counts = c.make-answer.ensures.counters;
  kept = c.make-answer.ensures.kept;
  ends = c.end_make.ensures.ends;
  not_usage = c.end_make.ensures.not_usage;
}
