-- The change was refused, or its table was written, or the commit failed.
use Rattle.std.proofs.Common.{Some, None}
use Rattle.cgpt_core.proofs.Editing.{edits_nothing, edit_refused, edits_all, edits_broken}
use Rattle.cgpt_core.proofs.Planned.{works_unread}
use Rattle.cgpt_core.proofs.Telling.{opens_as}
use Rattle.cgpt_core.proofs.working.edit.Goals as goal

pub returns-in-Ok-None : goal.returns-in-Ok-None
returns-in-Ok-None g c =
    edits_nothing c.args.call.now c.args.guid _ _ c.open_table.new.room c.requires.command (g.O.Sink.state c.args.out.now)
    (opens_as _ _ c.open_table.new.room c.in-Ok-None.field-0 None c.in-Ok-None.field-0-is c.in-Ok-None.ensures)

pub returns-in-Err : goal.returns-in-Err
returns-in-Err g c =
    works_unread c.args.call.now c.args.guid _ _ c.open_table.new.room (g.O.Sink.state c.args.out.now) c.in-Err.field-0 c.in-Err.ensures

pub returns-in-Err-edit_table : goal.returns-in-Err-edit_table
returns-in-Err-edit_table g c =
    edit_refused c.args.call.now c.args.guid _ _ c.open_table.new.room c.requires.command c.in-Ok-Some.opened
    (opens_as _ _ c.open_table.new.room c.in-Ok-Some.field-0 (Some c.in-Ok-Some.opened) c.in-Ok-Some.field-0-is c.in-Ok-Some.ensures)
    c.edit_table.new.room (g.O.Sink.state c.args.out.now) c.in-Err-edit_table.why c.in-Err-edit_table.ensures

pub returns-in_default-save : goal.returns-in_default-save
returns-in_default-save g c =
    edits_broken c.args.call.now c.args.guid _ _ c.open_table.new.room c.requires.command c.in-Ok-Some.opened
    (opens_as _ _ c.open_table.new.room c.in-Ok-Some.field-0 (Some c.in-Ok-Some.opened) c.in-Ok-Some.field-0-is c.in-Ok-Some.ensures)
    c.edit_table.new.room (g.O.Sink.state c.args.out.now) c.in_default.ensures _ c.in_default-save.field-0 c.in_default-save.ensures

pub returns : goal.returns
returns g c =
    edits_all c.args.call.now c.args.guid _ _ c.open_table.new.room c.requires.command c.in-Ok-Some.opened
    (opens_as _ _ c.open_table.new.room c.in-Ok-Some.field-0 (Some c.in-Ok-Some.opened) c.in-Ok-Some.field-0-is c.in-Ok-Some.ensures)
    c.edit_table.new.room (g.O.Sink.state c.args.out.now) c.in_default.ensures _ c.in-Ok.ensures
