-- The line of a key was put or not, or no key is left.
use Rattle.std.proofs.Common.{◌≡◌, ◌∙◌, ℕ, sym, subst, rules, List, drop, get_or, Ok, Err}
use Rattle.board_core.specs.declared.device.Failed.{Failed}
use Rattle.board_core.specs.Streams.{PutsText}
use Rattle.board_core.proofs.TextsPut.{puts_call}
use Rattle.crossystem_core.specs.declared.key.Key.TheVariants.{DevBootSignedOnly}
use Rattle.crossystem_core.specs.Running.{list_line, list_of}
use Rattle.crossystem_core.proofs.LinesPut.{put_next, put_failed, put_done, list_next, list_end}
use Rattle.crossystem_core.proofs.putting.put_list.Goals as goal

pub returns-in_err-put : goal.returns-in_err-put
returns-in_err-put g c =
    let view = c.args.view.now in
    let keys = c.args.keys.now in
    let line : List ℕ = list_line view (get_or keys c.loop-key.key-index DevBootSignedOnly) in
    let old = g.O.Sink.state c.args.out.now in
    let mid = g.O.Sink.state c.loop-key.out in
    let new = g.O.Sink.state c.put.new.self in
    let failed : c.from_residual.result ≡ Err c.in_err-put.field-0.0 = search rules in
    let put : PutsText {E = Failed} line mid new (Err c.in_err-put.field-0.0) =
    subst (λ (x : List ℕ). PutsText {E = Failed} x mid new (Err c.in_err-put.field-0.0)) (c.as_slice.ensures ∙ c.line_of_key-line.ensures)
    (puts_call c.as_slice.result.now mid new (Err c.in_err-put.field-0.0) c.in_err-put.ensures.meets) in
    subst (PutsText {E = Failed} (list_of view keys) old new) (sym failed)
    (put_failed (list_of view keys) (list_of view (drop c.loop-key.key-index keys)) line _ old mid new c.loop-key.invariant
    (list_next view keys c.loop-key.key-index DevBootSignedOnly c.loop-key-test.true) c.in_err-put.field-0.0 put)

pub loop-key-preserved : goal.loop-key-preserved
loop-key-preserved g c =
    let view = c.args.view.now in
    let keys = c.args.keys.now in
    let line : List ℕ = list_line view (get_or keys c.loop-key.key-index DevBootSignedOnly) in
    let old = g.O.Sink.state c.args.out.now in
    let mid = g.O.Sink.state c.loop-key.out in
    let new = g.O.Sink.state c.put.new.self in
    let put : PutsText {E = Failed} line mid new (Ok tt) =
    subst (λ (x : List ℕ). PutsText {E = Failed} x mid new (Ok tt)) (c.as_slice.ensures ∙ c.line_of_key-line.ensures)
    (puts_call c.as_slice.result.now mid new (Ok tt) c.in_ok-put.ensures.meets) in
    put_next (list_of view keys) (list_of view (drop c.loop-key.key-index keys)) line _ old mid new c.loop-key.invariant
    (list_next view keys c.loop-key.key-index DevBootSignedOnly c.loop-key-test.true) put

pub returns : goal.returns
returns g c = put_done _ _ _ _ c.loop-key.invariant (list_end c.args.view.now c.args.keys.now c.loop-key.key-index c.loop-key-test.false)
