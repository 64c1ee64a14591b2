use Rattle.std.proofs.Common.{◌∙◌, ℕ, ◌-◌, min, ap, arith}
use Rattle.make_core.specs.Layout.{padded_page}
use Rattle.make_core.proofs.PageParts.{padded_front}
use Rattle.make_core.proofs.BodyPages.{body_page-none, body_page-some}
use Rattle.make_core.proofs.page.make_body_page.Goals as goal

pub returns-then-size-from : goal.returns-then-size-from
returns-then-size-from c = body_page-none c.args.number c.args.tags.now c.args.from _ (omega (arith, c.body_size-size.ensures, c.if-size-from.true)) c.make_erased_page-page.ensures

pub returns : goal.returns
returns c =
    padded_front _ _ _ c.make_erased_page-page.ensures c.put_fill.ensures
    ∙ ap padded_page (body_page-some c.args.number c.args.tags.now c.args.from _ (omega (arith, c.body_size-size.ensures, c.if-size-from.false))
    (c.min-count.ensures ∙ ap (λ (n : ℕ). min (n - c.args.from) 4096) c.body_size-size.ensures))
