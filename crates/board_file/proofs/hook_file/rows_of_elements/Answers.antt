use Rattle.std.proofs.Common.{◌≡◌, ◌++◌, ◌∷◌, [], refl, sym, ◌∙◌, arith, length}
use Rattle.board_file.proofs.HookRows.{IsRead-more, IsRead-all, IsRead-refused}
use Rattle.board_file.proofs.hook_file.rows_of_elements.Goals as goal

pub returns-in_default-row_of_element-clause-meant : goal.returns-in_default-row_of_element-clause-meant
returns-in_default-row_of_element-clause-meant c =
    let none = rw c.in_default-row_of_element.is at c.row_of_element.ensures in
    let number : c.len.result ≡ c.loop-element.element-index = omega (arith, c.loop-element.invariant.number) in
    rw number (IsRead-refused c.args.elements.now c.loop-element.element-index c.loop-element.rows.items c.element-item.result (omega arith) c.element-item.is c.loop-element.invariant (sym none))

pub loop-element-preserved : goal.loop-element-preserved
loop-element-preserved c =
    let row = rw c.in-Some.is at c.row_of_element.ensures in
    let pushed : c.push.new.self.items ≡ c.loop-element.rows.items ++ c.in-Some.row ∷ [] = c.push.ensures.items ∙ rw (c.is_err.ensures.negation, c.if-is_err.false) refl in
    rw pushed (IsRead-more c.args.elements.now c.loop-element.element-index c.loop-element.rows.items c.element-item.result c.in-Some.row (omega arith) c.element-item.is c.loop-element.invariant (sym row))

pub returns-clause-meant : goal.returns-clause-meant
returns-clause-meant c =
    let all : c.loop-element.element-index ≡ length c.args.elements.now = omega arith in
    IsRead-all c.args.elements.now c.loop-element.rows.items (rw all at c.loop-element.invariant)
