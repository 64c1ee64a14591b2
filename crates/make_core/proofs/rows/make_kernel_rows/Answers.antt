use Rattle.std.proofs.Common.{ℕ, ◌≡◌, ◌∙◌, [], ◌∷◌, ap}
use Rattle.sha2.specs.Sha256.{sha256}
use Rattle.board_core.specs.declared.hook_row.HookRow.{HookRow}
use Rattle.make_core.specs.Firmware.{signed_keyblock}
use Rattle.make_core.specs.Kernel.{signed_kernel_preamble, kernel_body}
use Rattle.make_core.specs.Fill.{fill}
use Rattle.make_core.specs.Rows.{signed_row}
use Rattle.make_core.proofs.RowsMade.{row_is}
use Rattle.make_core.proofs.rows.make_kernel_rows.Goals as goal

pub returns : goal.returns
unfolding kernel_body
returns c =
    let number = c.args.number in
    let tags = c.args.tags.now in
    let keyblock : c.make_row-keyblock.result ≡ signed_row number tags.signer (signed_keyblock number tags.flags tags.key) tags.keyblock =
    row_is number tags.signer _ (signed_keyblock number tags.flags tags.key) tags.keyblock _ c.make_row-keyblock.ensures (c.digest.ensures ∙ ap sha256 c.make_signed_keyblock-signed.ensures) in
    let preamble : c.make_row-preamble.result ≡ signed_row number tags.key (signed_kernel_preamble number c.args.version tags.body_signature) tags.preamble =
    row_is number tags.key _ (signed_kernel_preamble number c.args.version tags.body_signature) tags.preamble _ c.make_row-preamble.ensures (c.digest-2.ensures ∙ ap sha256 c.make_signed_kernel_preamble-signed.ensures) in
    let last : c.make_row-body.result ≡ signed_row number tags.key (kernel_body number tags) tags.body_signature =
    row_is number tags.key _ (kernel_body number tags) tags.body_signature _ c.make_row-body.ensures (c.body_digest-digest.ensures ∙ ap (λ (n : ℕ). sha256 (fill number tags.body n)) c.kernel_body_size.ensures) in
    ap (λ (r : HookRow). r ∷ c.make_row-preamble.result ∷ c.make_row-body.result ∷ []) keyblock
    ∙ ap (λ (r : HookRow). signed_row number tags.signer (signed_keyblock number tags.flags tags.key) tags.keyblock ∷ r ∷ c.make_row-body.result ∷ []) preamble
    ∙ ap (λ (r : HookRow). signed_row number tags.signer (signed_keyblock number tags.flags tags.key) tags.keyblock ∷ signed_row number tags.key (signed_kernel_preamble number c.args.version tags.body_signature) tags.preamble ∷ r ∷ []) last
