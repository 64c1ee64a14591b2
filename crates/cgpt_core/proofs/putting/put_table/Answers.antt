-- The head of the text, and then the lines of the entries.
use Rattle.std.proofs.Common.{◌≡◌, ◌∙◌, sym, subst, rules, Err}
use Rattle.board_core.specs.declared.device.Failed.{Failed}
use Rattle.cgpt_core.specs.Text.{head_lines, entry_line, lines_below, table_text}
use Rattle.board_core.specs.Streams.{PutsText}
use Rattle.cgpt_core.proofs.Fronts.{head_put, head_failed}
use Rattle.cgpt_core.proofs.putting.put_table.Goals as goal

pub returns-in_err-put : goal.returns-in_err-put
returns-in_err-put g c =
    let failed : c.from_residual.result ≡ Err c.in_err-put.field-0.0 = search rules in
    subst (PutsText {E = Failed} (table_text c.args.drive c.args.sectors c.args.opened.side c.args.opened.agree c.args.room.now.table) (g.O.Sink.state c.args.out.now) (g.O.Sink.state c.put.new.self)) (sym failed)
    (head_failed (head_lines c.args.drive c.args.sectors c.args.opened.side c.args.opened.agree c.args.room.now.table) (lines_below 128 (entry_line c.args.room.now.table.entries)) c.as_slice.result.now _ _ c.in_err-put.field-0.0
    (c.as_slice.ensures ∙ c.text_of_head-head.ensures) c.in_err-put.ensures.meets)

pub returns : goal.returns
returns g c =
    head_put (head_lines c.args.drive c.args.sectors c.args.opened.side c.args.opened.agree c.args.room.now.table) (lines_below 128 (entry_line c.args.room.now.table.entries)) c.as_slice.result.now _ _ _ c.put_parts.result
    (c.as_slice.ensures ∙ c.text_of_head-head.ensures) c.in_ok-put.ensures.meets c.put_parts.ensures
