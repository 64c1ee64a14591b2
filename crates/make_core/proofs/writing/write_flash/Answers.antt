use Rattle.std.proofs.Common.{◌≡◌, ◌*◌, ◌∙◌, List, ℕ, subst, arith, true, false}
use Rattle.std.proofs.lemmas.Result.{err_from_is_err_and}
use Rattle.board_core.specs.Flash.{range}
use Rattle.make_core.specs.Layout.{machine_flash}
use Rattle.make_core.specs.Pages.{RewritesPage}
use Rattle.make_core.proofs.FlashPages.{length-machine_flash}
use Rattle.make_core.proofs.FlashWrites.{WrittenSoFar, so_far_none, so_far_more, writes_stopped, writes_all}
use Rattle.make_core.proofs.writing.write_flash.Goals as goal

pub loop-page-init : goal.loop-page-init
loop-page-init g c = so_far_none (machine_flash c.args.number) _

pub returns-in_err-rewrite_page : goal.returns-in_err-rewrite_page
returns-in_err-rewrite_page g c =
    let mid = g.F.Flash.state c.loop-page.flash in
    let new = g.F.Flash.state c.rewrite_page.new.flash in
    let rewrites : RewritesPage (c.loop-page.page * 4096) (range (machine_flash c.args.number) (c.loop-page.page * 4096) 4096) mid new true =
    subst (λ (bytes : List ℕ). RewritesPage (c.loop-page.page * 4096) bytes mid new true) c.make_page.ensures c.in_err-rewrite_page.ensures in
    let error = err_from_is_err_and c.from_residual.result c.from_residual.ensures.1 in
    rw error.1 (writes_stopped (machine_flash c.args.number) c.loop-page.page (g.F.Flash.state c.args.flash.now) mid new c.loop-page-test.true (length-machine_flash c.args.number)
    (λ told. g.met.F.Flash.told_size c.args.flash.now told ∙ c.requires) c.loop-page.invariant rewrites)

pub loop-page-preserved : goal.loop-page-preserved
loop-page-preserved g c =
    let mid = g.F.Flash.state c.loop-page.flash in
    let new = g.F.Flash.state c.rewrite_page.new.flash in
    let rewrites : RewritesPage (c.loop-page.page * 4096) (range (machine_flash c.args.number) (c.loop-page.page * 4096) 4096) mid new false =
    subst (λ (bytes : List ℕ). RewritesPage (c.loop-page.page * 4096) bytes mid new false) c.make_page.ensures c.in_ok-rewrite_page.ensures in
    so_far_more (machine_flash c.args.number) c.loop-page.page (g.F.Flash.state c.args.flash.now) mid new c.loop-page-test.true (length-machine_flash c.args.number)
    (λ told. g.met.F.Flash.told_size c.args.flash.now told ∙ c.requires) c.loop-page.invariant rewrites

pub returns : goal.returns
returns g c =
    let old = g.F.Flash.state c.args.flash.now in
    let new = g.F.Flash.state c.loop-page.flash in
    let end : c.loop-page.page ≡ 256 = omega (arith, c.loop-page-test.false, c.loop-page.auto.page-end) in
    writes_all (machine_flash c.args.number) old new (length-machine_flash c.args.number) (λ told. g.met.F.Flash.told_size c.args.flash.now told ∙ c.requires)
    (subst (λ (n : ℕ). WrittenSoFar (machine_flash c.args.number) n old new) end c.loop-page.invariant)
