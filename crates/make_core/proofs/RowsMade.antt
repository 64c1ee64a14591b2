-- Rows by the parts that they are made of.
use Rattle.std.proofs.Common.{◌≡◌, ℕ, ◌-◌, List, ◌++◌, length, ap, ◌∙◌}
use Rattle.std.specs.Prelude.{replicate}
use Rattle.sha2.specs.Sha256.{sha256}
use Rattle.sha2.proofs.Facts256.{length-sha256}
use Rattle.board_core.specs.declared.hook_row.HookRow.{HookRow}
use Rattle.board_core.specs.Hook.{IsRowOf}
use Rattle.board_core.proofs.Rows.{row_path}
use Rattle.make_core.specs.Fill.{fill}
use Rattle.make_core.specs.Rows.{signed_row}

-- the row of a signature is that of the message whose digest it has
pub row_is : (number key_tag : ℕ) (digest message : List ℕ) (tag : ℕ) (row : HookRow) → IsRowOf 4 (fill number key_tag 520) digest (fill number tag 256) row → digest ≡ sha256 message → row ≡ signed_row number key_tag message tag
unfolding signed_row
row_is number key_tag digest message tag row is_row same =
    let long : length digest ≡ 32 = ap length same ∙ length-sha256 message in
    row_path row (signed_row number key_tag message tag) is_row.algorithm is_row.key (is_row.digest_len ∙ long)
    (is_row.digest ∙ ap (λ (n : ℕ). digest ++ replicate (64 - n) 0) long ∙ ap (λ (l : List ℕ). l ++ replicate 32 0) same) is_row.signature
