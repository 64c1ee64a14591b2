use Rattle.std.proofs.Common.{arith}
use Rattle.std.specs.Prelude.{string_bytes}
use Rattle.toml.proofs.Views.{view-String}
use Rattle.board_file.proofs.Written.{tells_digits}
use Rattle.board_file.proofs.hook_text.digits_of.Goals as goal

pub returns : goal.returns
returns c = tells_digits c.args.bytes.now _ (string_bytes c.in_ok-digits.digits) (λ i. omega (arith, c.type_inv.bytes i)) (view-String c.in_ok-digits.digits) c.in_ok-digits.ensures
