use Rattle.std.proofs.Common.{sym, refl}
use Rattle.board_file.specs.HookFile.{is_short}
use Rattle.board_file.proofs.Digits.{bytes_of-ok, bytes_of-no_short}
use Rattle.board_file.proofs.hook_file.short_digest_of.Goals as goal

pub returns-in-Ok : goal.returns-in-Ok
returns-in-Ok c = sym (bytes_of-ok is_short c.args.digits.now 32 c.decode_to_slice.result _ c.decode_to_slice.new.out c.decode_to_slice.ensures.value c.in-Ok.is refl)

pub returns-in-Err : goal.returns-in-Err
returns-in-Err c = bytes_of-no_short c.args.digits.now c.decode_to_slice.result _ c.decode_to_slice.new.out c.decode_to_slice.ensures.value c.in-Err.is
