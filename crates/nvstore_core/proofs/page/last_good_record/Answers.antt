use Rattle.std.proofs.Common.{◌≡◌, ◌-◌, ◌∙◌, ap, sym, subst, true, false, ℕ, List, arith}
use Rattle.std.specs.Prelude.{IfSome}
use Rattle.record_core.specs.Nv.{is_good_record}
use Rattle.nvstore_core.specs.Pages.{cell_of, last_good, page_record}
use Rattle.nvstore_core.proofs.Cells.{last_good-none, last_good-found, last_good-passed, some_same}
use Rattle.nvstore_core.proofs.page.last_good_record.Goals as goal

pub returns-then-is_some : goal.returns-then-is_some
unfolding page_record
returns-then-is_some c =
    let page = c.args.page.now in
    let cell = cell_of c.args.form page (c.loop-end.end - 1) in
    let good : is_good_record cell ≡ true = cc in
    let same : IfSome c.from_bytes-found.result (λ x. x ≡ cell) = subst (λ (r : List ℕ). IfSome c.from_bytes-found.result (λ x. x ≡ r)) c.cell_at.ensures c.from_bytes-found.ensures.same in
    some_same c.from_bytes-found.result cell (sym c.if-is_some.ensures) same
    ∙ sym (last_good-found c.args.form page c.loop-end.end (c.loop-end.end - 1) (omega arith) good)
    ∙ c.loop-end.invariant.1

pub loop-end-preserved : goal.loop-end-preserved
loop-end-preserved c =
    let page = c.args.page.now in
    let bad : is_good_record (cell_of c.args.form page (c.loop-end.end - 1)) ≡ false = cc in
    (omega arith, last_good-passed c.args.form page c.loop-end.end (c.loop-end.end - 1) (omega arith) bad ∙ c.loop-end.invariant.1)

pub returns : goal.returns
unfolding page_record
returns c =
    let done : c.loop-end.end ≡ 0 = omega arith in
    sym (last_good-none c.args.form c.args.page.now) ∙ ap (last_good c.args.form c.args.page.now) (sym done) ∙ c.loop-end.invariant.1
