-- The lines of the entries, one behind the other.
use Rattle.std.proofs.Common.{◌≡◌, sym, subst, rules, Ok, Err}
use Rattle.board_core.specs.declared.device.Failed.{Failed}
use Rattle.cgpt_core.specs.Text.{entry_line, lines_below}
use Rattle.board_core.specs.Streams.{PutsText}
use Rattle.cgpt_core.proofs.Fronts.{no_lines_put, line_more, line_failed}
use Rattle.cgpt_core.proofs.putting.put_parts.Goals as goal

pub loop-k-init : goal.loop-k-init
loop-k-init g c = record { put = no_lines_put (entry_line c.args.room.now.table.entries) (g.O.Sink.state c.args.out.now) }

pub loop-k-preserved : goal.loop-k-preserved
loop-k-preserved g c = record { put = line_more c.loop-k.k (entry_line c.args.room.now.table.entries) _ _ _ (Ok tt) c.loop-k.invariant.put c.in_ok-put_part.ensures }

pub returns-in_err-put_part : goal.returns-in_err-put_part
returns-in_err-put_part g c =
    let failed : c.from_residual.result ≡ Err c.in_err-put_part.field-0.0 = search rules in
    subst (PutsText {E = Failed} (lines_below 128 (entry_line c.args.room.now.table.entries)) (g.O.Sink.state c.args.out.now) (g.O.Sink.state c.put_part.new.out)) (sym failed)
    (line_failed c.loop-k.k (entry_line c.args.room.now.table.entries) _ _ _ c.in_err-put_part.field-0.0 c.loop-k-test.true c.loop-k.invariant.put c.in_err-put_part.ensures)
