-- The bytes stand over the first zeros, or all are zeros.
use Rattle.std.proofs.Common.{length, refl, arith}
use Rattle.key_core.proofs.Padding.{put_mid-padded, zeros-padded}
use Rattle.key_core.proofs.key.padded.Goals as goal

pub returns-then-bytes-gt-LARGEST_KEY : goal.returns-then-bytes-gt-LARGEST_KEY
returns-then-bytes-gt-LARGEST_KEY c = zeros-padded 2056 c.args.bytes.now c.if-bytes-gt-LARGEST_KEY.true

pub returns : goal.returns
returns c = put_mid-padded 2056 (length c.args.bytes.now) c.args.bytes.now c.copy_from_slice.new.self (omega arith) c.copy_from_slice.ensures.after refl
