use Rattle.std.proofs.Common.{◌≡◌, ◌-◌, ◌∙◌, sym, true, false, arith}
use Rattle.nvstore_core.specs.Pages.{cell_of, is_erased, next_cell}
use Rattle.nvstore_core.proofs.Cells.{tail_start-passed, tail_start-found}
use Rattle.nvstore_core.proofs.page.first_of_tail.Goals as goal

pub loop-next-preserved : goal.loop-next-preserved
loop-next-preserved c =
    let erased : is_erased (cell_of c.args.form c.args.page.now (c.loop-next.next - 1)) ≡ true = cc in
    (omega arith, tail_start-passed c.args.form c.args.page.now c.loop-next.next (c.loop-next.next - 1) (omega arith) erased ∙ c.loop-next.invariant.1)

pub returns-else-is_erased_cell-clause-first : goal.returns-else-is_erased_cell-clause-first
unfolding next_cell
returns-else-is_erased_cell-clause-first c =
    let used : is_erased (cell_of c.args.form c.args.page.now (c.loop-next.next - 1)) ≡ false = cc in
    sym (tail_start-found c.args.form c.args.page.now c.loop-next.next (c.loop-next.next - 1) (omega arith) used) ∙ c.loop-next.invariant.1
