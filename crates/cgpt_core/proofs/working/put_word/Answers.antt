use Rattle.cgpt_core.proofs.Telling.{word_put, word_failed}
use Rattle.cgpt_core.proofs.working.put_word.Goals as goal

pub returns-in_default : goal.returns-in_default
returns-in_default g c = word_failed c.args.word.now _ _ c.in_default.field-0 c.in_default.ensures.meets

pub returns : goal.returns
returns g c = word_put c.args.word.now _ _ c.in-Ok.ensures.meets
