use Rattle.std.proofs.lemmas.Bool.{false≢true}
use Rattle.uuid.specs.Text.{parsed}
use Rattle.cgpt_core.specs.Values.{guid_in}
use Rattle.cgpt_core.proofs.ValuesRead.{no_guid}
use Rattle.cgpt_core.proofs.values.guid_of.Goals as goal

pub returns-in-Err : goal.returns-in-Err
unfolding guid_in
returns-in-Err c = no_guid (parsed c.args.word.now) (λ guid. false≢true (c.in-Err.ensures.ok.1 guid))
