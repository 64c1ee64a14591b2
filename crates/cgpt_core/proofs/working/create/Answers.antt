-- The disk has too few sectors or too many, or the table was written, or its commit failed.
use Rattle.std.proofs.Common.{◌≡◌, true, false, rules}
use Rattle.cgpt_core.proofs.Creating.{creates_none, creates_all, creates_broken}
use Rattle.cgpt_core.proofs.working.create.Goals as goal

pub returns-then-not-start : goal.returns-then-not-start
returns-then-not-start g c =
    let none : c.start.result ≡ false = search rules in
    creates_none c.args.call.now c.args.guid _ _ c.open_table.new.room c.in-Ok._opened c.requires.command c.in-Ok.ensures c.start.result
    c.start.ensures.answer _ (g.O.Sink.state c.args.out.now) none c.start.ensures.disk

pub returns-in_default-save : goal.returns-in_default-save
returns-in_default-save g c =
    let made : c.start.result ≡ true = search rules in
    creates_broken c.args.call.now c.args.guid _ _ c.open_table.new.room c.in-Ok._opened c.requires.command c.in-Ok.ensures c.start.result
    c.start.ensures.answer _ _ c.start.new.self (g.O.Sink.state c.args.out.now) made c.start.ensures.disk (c.start.ensures.started made)
    c.in_default-save.field-0 c.in_default-save.ensures

pub returns : goal.returns
returns g c =
    let made : c.start.result ≡ true = search rules in
    creates_all c.args.call.now c.args.guid _ _ c.open_table.new.room c.in-Ok._opened c.requires.command c.in-Ok.ensures c.start.result
    c.start.ensures.answer _ _ c.start.new.self (g.O.Sink.state c.args.out.now) made c.start.ensures.disk (c.start.ensures.started made)
    c.in-Ok-save.ensures
