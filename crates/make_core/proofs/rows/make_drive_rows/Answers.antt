use Rattle.std.proofs.Common.{◌∙◌, List, [], ◌∷◌, ◌++◌, get_or, ap}
use Rattle.board_core.specs.declared.hook_row.HookRow.{HookRow}
use Rattle.make_core.specs.Kernel.{kernel_a, kernel_b, version_a, version_b}
use Rattle.make_core.specs.Rows.{kernel_rows}
use Rattle.make_core.proofs.rows.make_drive_rows.Goals as goal

pub returns : goal.returns
returns c =
    let a = λ (l : List HookRow). get_or l 0 c.index-make_kernel_rows-0.result ∷ get_or l 1 c.index-make_kernel_rows-1.result ∷ get_or l 2 c.index-make_kernel_rows-2.result ∷ [] in
    let b = λ (l : List HookRow). get_or l 0 c.index-make_kernel_rows-0-2.result ∷ get_or l 1 c.index-make_kernel_rows-1-2.result ∷ get_or l 2 c.index-make_kernel_rows-2-2.result ∷ [] in
    let s = λ (l : List HookRow). get_or l 0 c.index-make_kernel_rows-0-3.result ∷ get_or l 1 c.index-make_kernel_rows-1-3.result ∷ get_or l 2 c.index-make_kernel_rows-2-3.result ∷ [] in
    let rows_a = kernel_rows c.args.number (version_a c.args.number) kernel_a in
    let rows_b = kernel_rows c.args.number (version_b c.args.number) kernel_b in
    ap (λ (l : List HookRow). a l ++ b c.make_kernel_rows-2.result ++ s c.make_kernel_rows-3.result) c.make_kernel_rows.ensures
    ∙ ap (λ (l : List HookRow). rows_a ++ b l ++ s c.make_kernel_rows-3.result) c.make_kernel_rows-2.ensures
    ∙ ap (λ (l : List HookRow). rows_a ++ rows_b ++ s l) c.make_kernel_rows-3.ensures
