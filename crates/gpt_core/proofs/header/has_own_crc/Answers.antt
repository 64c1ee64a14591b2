-- The 92 bytes are those that are copied.
use Rattle.std.proofs.Common.{sym, arith, length-take-le}
use Rattle.gpt_core.proofs.header.has_own_crc.Goals as goal

pub slice_bounds-copy_from_slice-end-2 : goal.slice_bounds-copy_from_slice-end-2
slice_bounds-copy_from_slice-end-2 c = sym (length-take-le 92 c.args.header.now (omega arith))
