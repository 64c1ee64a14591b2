use Rattle.std.proofs.Common.{◌≡◌, ◌≤◌}
use Rattle.nvstore_core.specs.Pages.{cells_in, tail_start}
use Rattle.nvstore_core.proofs.page.first_of_tail.Given as goal

abbrev pub invariant-loop-next : goal.invariant-loop-next
invariant-loop-next l = (l.next ≤ cells_in l.fn.form) × (tail_start l.fn.form l.page l.next ≡ tail_start l.fn.form l.page (cells_in l.fn.form))

abbrev pub decreases-loop-next : goal.decreases-loop-next
decreases-loop-next l = l.next
