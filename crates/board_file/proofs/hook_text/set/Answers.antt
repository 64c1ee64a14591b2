use Rattle.std.proofs.Common.{ap, ◌∙◌, List, ℕ}
use Rattle.toml.specs.View.{view, members_view}
use Rattle.board_file.specs.HookText.{set_member}
use Rattle.board_file.proofs.Written.{set_entries}
use Rattle.board_file.proofs.hook_text.set.Goals as goal

pub returns : goal.returns
returns c =
    ap members_view c.in_ok-insert.ensures.entries
    ∙ set_entries c.in_ok-name.name c.args.value c.args.table.now.entries
    ∙ ap (λ (k : List ℕ). set_member (members_view c.args.table.now.entries) k (view c.args.value)) c.in_ok-name.ensures.ok
