use Rattle.std.proofs.Common.{◌≡◌, ◌+◌, ◌*◌, ◌≤◌, ◌∙◌, IsTrue, length, sym, subst, arith}
use Rattle.std.proofs.lemmas.Bool.{false≢true}
use Rattle.std.proofs.lemmas.Result.{err_from_is_err_and}
use Rattle.board_core.specs.Flash.{IsErased, range}
use Rattle.board_core.proofs.TornRange.{filled_is}
use Rattle.make_core.proofs.Blank.{erased_page-only}
use Rattle.make_core.proofs.PageWrites.{blanks_failed, blanks_already, blanks_erased}
use Rattle.make_core.proofs.writing.blank_page.Goals as goal

pub returns-in_err-read : goal.returns-in_err-read
returns-in_err-read g c =
    let error = err_from_is_err_and c.from_residual.result c.from_residual.ensures.1 in
    rw error.1 (blanks_failed (c.args.page * 4096) _ _ c.in_err-read.ensures.meets.counters c.in_err-read.ensures.meets.medium)

pub returns-then-is_blank : goal.returns-then-is_blank
returns-then-is_blank g c =
    let old = (g.F.Flash.state c.args.flash.now).medium in
    let at = c.args.page * 4096 in
    let inside : IsTrue old.told → at + 4096 ≤ length old.bytes = λ told. omega (arith, c.requires.inside, g.met.F.Flash.told_size c.args.flash.now told) in
    let read : IsTrue old.told → c.read.new.buf ≡ range old.bytes at 4096 = λ told. filled_is c.read.new.buf old.bytes at 4096 c.read.auto.buf (c.in_ok-read.ensures.meets.filled told) in
    let blank : IsErased c.read.new.buf = c.is_blank.ensures.0 c.if-is_blank.true in
    blanks_already at _ _ c.in_ok-read.ensures.meets.counters c.in_ok-read.ensures.meets.medium inside
    (λ told. subst IsErased (read told) blank)
    (λ told. sym (read told) ∙ erased_page-only c.read.new.buf c.read.auto.buf blank)

pub returns : goal.returns
returns g c =
    let old = (g.F.Flash.state c.args.flash.now).medium in
    let at = c.args.page * 4096 in
    let read : IsTrue old.told → c.read.new.buf ≡ range old.bytes at 4096 = λ told. filled_is c.read.new.buf old.bytes at 4096 c.read.auto.buf (c.in_ok-read.ensures.meets.filled told) in
    blanks_erased c.args.page _ _ _ c.erase.result c.in_ok-read.ensures.meets.counters c.in_ok-read.ensures.meets.medium c.erase.ensures.meets
    (λ told blank. false≢true (sym c.if-is_blank.false ∙ c.is_blank.ensures.1 (subst IsErased (sym (read told)) blank)))
