use Rattle.std.proofs.Common.{◌∙◌, List, [], ◌∷◌, ◌++◌, get_or, ap}
use Rattle.board_core.specs.declared.hook_row.HookRow.{HookRow}
use Rattle.make_core.specs.Firmware.{slot_a}
use Rattle.make_core.specs.Rows.{slot_rows}
use Rattle.make_core.proofs.rows.make_firmware_rows.Goals as goal

pub returns : goal.returns
returns c =
    let a = λ (l : List HookRow). get_or l 0 c.index-make_slot_rows-0.result ∷ get_or l 1 c.index-make_slot_rows-1.result ∷ get_or l 2 c.index-make_slot_rows-2.result ∷ [] in
    let b = λ (l : List HookRow). get_or l 0 c.index-make_slot_rows-0-2.result ∷ get_or l 1 c.index-make_slot_rows-1-2.result ∷ get_or l 2 c.index-make_slot_rows-2-2.result ∷ [] in
    ap (λ (l : List HookRow). a l ++ b c.make_slot_rows-2.result) c.make_slot_rows.ensures
    ∙ ap (λ (l : List HookRow). slot_rows c.args.number slot_a ++ b l) c.make_slot_rows-2.ensures
