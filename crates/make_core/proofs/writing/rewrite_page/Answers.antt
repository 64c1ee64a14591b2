use Rattle.std.proofs.Common.{◌*◌, arith}
use Rattle.std.proofs.lemmas.Result.{err_from_is_err_and}
use Rattle.make_core.proofs.PageWrites.{rewrites_stopped, rewrites_then}
use Rattle.make_core.proofs.writing.rewrite_page.Goals as goal

pub returns-in_err-blank_page : goal.returns-in_err-blank_page
returns-in_err-blank_page g c =
    let error = err_from_is_err_and c.from_residual.result c.from_residual.ensures.1 in
    rw error.1 (rewrites_stopped (c.args.page * 4096) c.args.bytes.now _ _ c.in_err-blank_page.ensures)

pub returns : goal.returns
returns g c =
    rewrites_then (c.args.page * 4096) c.args.bytes.now _ _ _ _ (λ told. omega (arith, c.requires.inside, g.met.F.Flash.told_size c.args.flash.now told)) c.told-bytes
    c.in_ok-blank_page.ensures c.fill_page.ensures
