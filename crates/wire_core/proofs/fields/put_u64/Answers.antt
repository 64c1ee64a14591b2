-- What the write to the rest of the slice leaves, as the whole list.
use Rattle.wire_core.proofs.Writing.{put_mid-number}
use Rattle.wire_core.proofs.fields.put_u64.Goals as goal

pub returns : goal.returns
returns c = put_mid-number 8 c.args.at c.args.value c.args.bytes.now c.write_u64.new.buf c.write_u64.ensures
