use Rattle.std.proofs.Common.{◌*◌, ◌∙◌, sym, arith}
use Rattle.std.proofs.lemmas.Bool.{false≢true}
use Rattle.board_core.specs.Flash.{IsErased}
use Rattle.make_core.proofs.Blank.{erased_page-only}
use Rattle.make_core.proofs.PageWrites.{fills_none, fills_some}
use Rattle.make_core.proofs.writing.fill_page.Goals as goal

pub returns-then-is_blank : goal.returns-then-is_blank
returns-then-is_blank g c =
    let blank : IsErased c.args.bytes.now = c.is_blank.ensures.0 c.if-is_blank.true in
    fills_none (c.args.page * 4096) c.args.bytes.now _ blank (erased_page-only c.args.bytes.now c.told-bytes blank)
    (λ told. omega (arith, c.requires.inside, g.met.F.Flash.told_size c.args.flash.now told))

pub returns : goal.returns
returns g c =
    fills_some (c.args.page * 4096) c.args.bytes.now _ _ c.program.result c.program.ensures.meets c.told-bytes
    (λ blank. false≢true (sym c.if-is_blank.false ∙ c.is_blank.ensures.1 blank))
