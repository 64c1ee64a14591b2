use Rattle.std.proofs.Common.{◌≡◌, ◌≤◌}
use Rattle.nvstore_core.specs.Pages.{cells_in, last_good}
use Rattle.nvstore_core.proofs.page.last_good_record.Given as goal

abbrev pub invariant-loop-end : goal.invariant-loop-end
invariant-loop-end l = (l.end ≤ cells_in l.fn.form) × (last_good l.fn.form l.page l.end ≡ last_good l.fn.form l.page (cells_in l.fn.form))

abbrev pub decreases-loop-end : goal.decreases-loop-end
decreases-loop-end l = l.end
