use Rattle.std.proofs.Common.{rules, inl, inr}
use Rattle.board_file.proofs.Digits.{bytes_of-padded, bytes_of-no_padded, bytes_of-no_count}
use Rattle.board_file.proofs.hook_file.padded_digest_of.Goals as goal

pub returns-then-digits-ne-LONG_DIGITS-clause-bytes : goal.returns-then-digits-ne-LONG_DIGITS-clause-bytes
returns-then-digits-ne-LONG_DIGITS-clause-bytes c = bytes_of-no_count c.args.digits.now c.if-digits-ne-SHORT_DIGITS.true c.if-digits-ne-LONG_DIGITS.true

pub returns-in-Ok-clause-bytes : goal.returns-in-Ok-clause-bytes
returns-in-Ok-clause-bytes c = bytes_of-padded c.args.digits.now c.decode_to_slice.new.out _ _ c.decode_to_slice.result _ c.decode_to_slice.ensures.value c.in-Ok.is (elim c.else-digits-ne-SHORT_DIGITS.either [ inl x ↦ inr x.1 | inr x ↦ inl x ])

pub returns-in-Err-clause-bytes : goal.returns-in-Err-clause-bytes
returns-in-Err-clause-bytes c = bytes_of-no_padded c.args.digits.now _ c.decode_to_slice.result _ c.decode_to_slice.new.out c.decode_to_slice.ensures.value c.in-Err.is (search rules)
