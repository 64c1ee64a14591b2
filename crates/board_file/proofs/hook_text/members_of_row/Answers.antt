use Rattle.std.proofs.Common.{ap, ◌∙◌, codes, rules}
use Rattle.toml.specs.Data.{Members}
use Rattle.toml.specs.View.{view, members_view}
use Rattle.board_file.specs.HookText.{set_member}
use Rattle.board_file.proofs.Written.{row_members_are}
use Rattle.board_file.proofs.hook_text.members_of_row.Goals as goal

pub returns : goal.returns
returns c =
    let first = c.in_ok-set.ensures ∙ ap (λ (m : Members). set_member m (codes "algorithm") (view c.integer_of-algorithm.result)) (ap members_view c.new-members.ensures.empty) in
    let second = c.in_ok-set-2.ensures ∙ ap (λ (m : Members). set_member m (codes "digest") (view c.in_ok-digest.digest)) first in
    let third = c.in_ok-set-3.ensures ∙ ap (λ (m : Members). set_member m (codes "key") (view c.in_ok-key.key)) second in
    let last = c.in_ok-set-4.ensures ∙ ap (λ (m : Members). set_member m (codes "signature") (view c.in_ok-signature.signature)) third in
    row_members_are c.args.row.now (view c.integer_of-algorithm.result) (view c.in_ok-digest.digest) (view c.in_ok-key.key) (view c.in_ok-signature.signature) _ c.requires
    c.integer_of-algorithm.ensures (rw c.from.ensures at c.in_ok-digest.ensures) c.in_ok-key.ensures c.in_ok-signature.ensures c.args.row.now.digest_size (search rules) (search rules) (search rules) last
