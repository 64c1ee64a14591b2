-- The lines of the entries that are found, one behind the other.
use Rattle.std.proofs.Common.{◌≡◌, sym, subst, rules, Ok, Err}
use Rattle.board_core.specs.declared.device.Failed.{Failed}
use Rattle.cgpt_core.specs.Plans.{found_line}
use Rattle.cgpt_core.specs.Text.{lines_below}
use Rattle.board_core.specs.Streams.{PutsText}
use Rattle.cgpt_core.proofs.Fronts.{no_lines_put, line_more, line_failed}
use Rattle.cgpt_core.proofs.finding.put_found.Goals as goal

pub loop-k-init : goal.loop-k-init
loop-k-init g c = record { put = no_lines_put (found_line c.args.call.now c.args.room.now.table.entries) (g.O.Sink.state c.args.out.now) }

pub loop-k-preserved : goal.loop-k-preserved
loop-k-preserved g c = record {
  put = line_more c.loop-k.k (found_line c.args.call.now c.args.room.now.table.entries) _ _ _ (Ok tt) c.loop-k.invariant.put c.in_ok-put_if_found.ensures;
}

pub returns-in_err-put_if_found : goal.returns-in_err-put_if_found
returns-in_err-put_if_found g c =
    let failed : c.from_residual.result ≡ Err c.in_err-put_if_found.field-0.0 = search rules in
    subst (PutsText {E = Failed} (lines_below 128 (found_line c.args.call.now c.args.room.now.table.entries)) (g.O.Sink.state c.args.out.now) (g.O.Sink.state c.put_if_found.new.out)) (sym failed)
    (line_failed c.loop-k.k (found_line c.args.call.now c.args.room.now.table.entries) _ _ _ c.in_err-put_if_found.field-0.0 c.loop-k-test.true c.loop-k.invariant.put c.in_err-put_if_found.ensures)
