-- The copies agreed, or the table was committed, or the commit failed.
use Rattle.std.proofs.Common.{refl, Some, None}
use Rattle.cgpt_core.specs.declared.call.CgptCommand.TheVariants.{Repair}
use Rattle.cgpt_core.proofs.Commands.{works_without, repairs_nothing, repairs_both, repair_fails}
use Rattle.cgpt_core.proofs.Planned.{works_unread}
use Rattle.cgpt_core.proofs.Telling.{opens_as}
use Rattle.cgpt_core.proofs.working.repair.Goals as goal

pub returns-then-opened : goal.returns-then-opened
returns-then-opened g c = λ guid.
    repairs_nothing c.args.call.now guid _ _ c.open_table.new.room c.in-Ok-Some.opened
    (opens_as _ _ c.open_table.new.room c.in-Ok-Some.field-0 (Some c.in-Ok-Some.opened) c.in-Ok-Some.field-0-is c.in-Ok-Some.ensures)
    c.requires.command _ _ c.put_word.result c.if-opened.true c.put_word.ensures

pub returns-in_default : goal.returns-in_default
returns-in_default g c = λ guid.
    repair_fails c.args.call.now guid _ _ c.open_table.new.room c.in-Ok-Some.opened
    (opens_as _ _ c.open_table.new.room c.in-Ok-Some.field-0 (Some c.in-Ok-Some.opened) c.in-Ok-Some.field-0-is c.in-Ok-Some.ensures)
    c.requires.command _ c.open_table.new.room.source c.if-opened.false (g.O.Sink.state c.args.out.now) c.in_default.field-0 c.in_default.ensures.meets

pub returns : goal.returns
returns g c = λ guid.
    repairs_both c.args.call.now guid _ _ c.open_table.new.room c.in-Ok-Some.opened
    (opens_as _ _ c.open_table.new.room c.in-Ok-Some.field-0 (Some c.in-Ok-Some.opened) c.in-Ok-Some.field-0-is c.in-Ok-Some.ensures)
    c.requires.command _ c.open_table.new.room.source c.if-opened.false _ _ c.put_word-2.result c.in-Ok.ensures.meets c.put_word-2.ensures

pub returns-in-Ok-None : goal.returns-in-Ok-None
returns-in-Ok-None g c = λ guid.
    works_without c.args.call.now guid _ _ c.open_table.new.room Repair (g.O.Sink.state c.args.out.now) c.requires.command refl
    (opens_as _ _ c.open_table.new.room c.in-Ok-None.field-0 None c.in-Ok-None.field-0-is c.in-Ok-None.ensures)

pub returns-in-Err : goal.returns-in-Err
returns-in-Err g c = λ guid.
    works_unread c.args.call.now guid _ _ c.open_table.new.room (g.O.Sink.state c.args.out.now) c.in-Err.field-0 c.in-Err.ensures
