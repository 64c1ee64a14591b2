use Rattle.std.proofs.Common.{◌∙◌, List, [], ◌∷◌, ◌++◌, get_or, ap}
use Rattle.board_core.specs.declared.hook_row.HookRow.{HookRow}
use Rattle.make_core.specs.Rows.{firmware_rows, machine_rows}
use Rattle.make_core.proofs.rows.make_rows.Goals as goal

pub returns : goal.returns
unfolding machine_rows
returns c =
    let front = λ (l : List HookRow). get_or l 0 c.index-make_firmware_rows-0.result ∷ get_or l 1 c.index-make_firmware_rows-1.result ∷ get_or l 2 c.index-make_firmware_rows-2.result ∷ get_or l 3 c.index-make_firmware_rows-3.result ∷ get_or l 4 c.index-make_firmware_rows-4.result ∷ get_or l 5 c.index-make_firmware_rows-5.result ∷ [] in
    let back = λ (l : List HookRow). get_or l 0 c.index-make_drive_rows-0.result ∷ get_or l 1 c.index-make_drive_rows-1.result ∷ get_or l 2 c.index-make_drive_rows-2.result ∷ get_or l 3 c.index-make_drive_rows-3.result ∷ get_or l 4 c.index-make_drive_rows-4.result ∷ get_or l 5 c.index-make_drive_rows-5.result ∷ get_or l 6 c.index-make_drive_rows-6.result ∷ get_or l 7 c.index-make_drive_rows-7.result ∷ get_or l 8 c.index-make_drive_rows-8.result ∷ [] in
    ap (λ (l : List HookRow). front l ++ back c.make_drive_rows.result) c.make_firmware_rows.ensures
    ∙ ap (λ (l : List HookRow). firmware_rows c.args.number ++ back l) c.make_drive_rows.ensures
