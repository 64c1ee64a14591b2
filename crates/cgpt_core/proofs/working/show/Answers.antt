-- The table that was read was put, or a beginning of its text.
use Rattle.std.proofs.Common.{refl, Some, None}
use Rattle.cgpt_core.specs.declared.call.CgptCommand.TheVariants.{Show}
use Rattle.cgpt_core.proofs.Commands.{works_without, shows_all, shows_front}
use Rattle.cgpt_core.proofs.Planned.{works_unread}
use Rattle.cgpt_core.proofs.Telling.{opens_as}
use Rattle.cgpt_core.proofs.working.show.Goals as goal

pub returns-in_default : goal.returns-in_default
returns-in_default g c = λ guid.
    shows_front c.args.call.now guid _ _ c.open_table.new.room c.in-Ok-Some.opened
    (opens_as _ _ c.open_table.new.room c.in-Ok-Some.field-0 (Some c.in-Ok-Some.opened) c.in-Ok-Some.field-0-is c.in-Ok-Some.ensures)
    c.requires.command c.sectors-sectors.result c.sectors-sectors.ensures.sectors _ _ c.in_default.field-0 c.in_default.ensures

pub returns : goal.returns
returns g c = λ guid.
    shows_all c.args.call.now guid _ _ c.open_table.new.room c.in-Ok-Some.opened
    (opens_as _ _ c.open_table.new.room c.in-Ok-Some.field-0 (Some c.in-Ok-Some.opened) c.in-Ok-Some.field-0-is c.in-Ok-Some.ensures)
    c.requires.command c.sectors-sectors.result c.sectors-sectors.ensures.sectors _ _ c.in-Ok.ensures

pub returns-in-Ok-None : goal.returns-in-Ok-None
returns-in-Ok-None g c = λ guid.
    works_without c.args.call.now guid _ _ c.open_table.new.room Show (g.O.Sink.state c.args.out.now) c.requires.command refl
    (opens_as _ _ c.open_table.new.room c.in-Ok-None.field-0 None c.in-Ok-None.field-0-is c.in-Ok-None.ensures)

pub returns-in-Err : goal.returns-in-Err
returns-in-Err g c = λ guid.
    works_unread c.args.call.now guid _ _ c.open_table.new.room (g.O.Sink.state c.args.out.now) c.in-Err.field-0 c.in-Err.ensures
