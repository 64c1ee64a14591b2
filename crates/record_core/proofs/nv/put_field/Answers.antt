-- What is written is the record with the field replaced.
use Rattle.std.proofs.Common.{◌≡◌, ◌-◌, length, arith}
use Rattle.record_core.specs.Nv.{crc_at}
use Rattle.record_core.proofs.Records.{written_is}
use Rattle.record_core.proofs.nv.put_field.Goals as goal

pub returns : goal.returns
returns c =
    let r = c.args.bytes.now in
    let size = c.requires.size in
    let last : length r - 1 ≡ crc_at r = omega arith in
    written_is r c.args.field c.args.value c.crc8.result (length r - 1) c.place-place.result last c.place-place.ensures.place c.requires.fits c.crc8.ensures
