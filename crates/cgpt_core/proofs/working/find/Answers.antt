-- No entry has what is looked for, or the lines of those that have were put, or a beginning of them.
use Rattle.std.proofs.Common.{refl, sym, ◌∙◌, Some, None}
use Rattle.cgpt_core.specs.declared.call.CgptCommand.TheVariants.{Find}
use Rattle.cgpt_core.proofs.Commands.{works_without, finds_none, finds_all, finds_front}
use Rattle.cgpt_core.proofs.Planned.{works_unread}
use Rattle.cgpt_core.proofs.Telling.{opens_as}
use Rattle.cgpt_core.proofs.working.find.Goals as goal

pub returns-then-is_none_found : goal.returns-then-is_none_found
returns-then-is_none_found g c = λ guid.
    finds_none c.args.call.now guid _ _ c.open_table.new.room c.in-Ok-Some.opened
    (opens_as _ _ c.open_table.new.room c.in-Ok-Some.field-0 (Some c.in-Ok-Some.opened) c.in-Ok-Some.field-0-is c.in-Ok-Some.ensures)
    c.requires.command (g.O.Sink.state c.args.out.now) (g.O.Sink.state c.args.out.now) (sym c.is_none_found.ensures ∙ c.if-is_none_found.true)

pub returns-in_default : goal.returns-in_default
returns-in_default g c = λ guid.
    finds_front c.args.call.now guid _ _ c.open_table.new.room c.in-Ok-Some.opened
    (opens_as _ _ c.open_table.new.room c.in-Ok-Some.field-0 (Some c.in-Ok-Some.opened) c.in-Ok-Some.field-0-is c.in-Ok-Some.ensures)
    c.requires.command _ _ c.in_default.field-0 (sym c.is_none_found.ensures ∙ c.if-is_none_found.false) c.in_default.ensures

pub returns : goal.returns
returns g c = λ guid.
    finds_all c.args.call.now guid _ _ c.open_table.new.room c.in-Ok-Some.opened
    (opens_as _ _ c.open_table.new.room c.in-Ok-Some.field-0 (Some c.in-Ok-Some.opened) c.in-Ok-Some.field-0-is c.in-Ok-Some.ensures)
    c.requires.command _ _ (sym c.is_none_found.ensures ∙ c.if-is_none_found.false) c.in-Ok.ensures

pub returns-in-Ok-None : goal.returns-in-Ok-None
returns-in-Ok-None g c = λ guid.
    works_without c.args.call.now guid _ _ c.open_table.new.room Find (g.O.Sink.state c.args.out.now) c.requires.command refl
    (opens_as _ _ c.open_table.new.room c.in-Ok-None.field-0 None c.in-Ok-None.field-0-is c.in-Ok-None.ensures)

pub returns-in-Err : goal.returns-in-Err
returns-in-Err g c = λ guid.
    works_unread c.args.call.now guid _ _ c.open_table.new.room (g.O.Sink.state c.args.out.now) c.in-Err.field-0 c.in-Err.ensures
