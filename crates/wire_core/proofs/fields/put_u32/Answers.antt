-- What the write to the rest of the slice leaves, as the whole list.
use Rattle.wire_core.proofs.Writing.{put_mid-number}
use Rattle.wire_core.proofs.fields.put_u32.Goals as goal

pub returns : goal.returns
returns c = put_mid-number 4 c.args.at c.args.value c.args.bytes.now c.write_u32.new.buf c.write_u32.ensures
