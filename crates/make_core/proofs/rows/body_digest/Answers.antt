use Rattle.std.proofs.Common.{◌≡◌, ◌+◌, ◌*◌, ◌++◌, ◌∙◌, ℕ, List, refl, arith, ap, subst, sym}
use Rattle.sha2.specs.Sha256.{sha256}
use Rattle.sha2.specs.Hashers.{Holds256}
use Rattle.make_core.specs.Fill.{fill, fill_from}
use Rattle.make_core.proofs.Fills.{length-fill_from, fill_from-none, fill_from-more}
use Rattle.make_core.proofs.Fronts.{begins_none, begins_more, begins_whole}
use Rattle.make_core.proofs.rows.body_digest.Goals as goal

pub loop-piece-init : goal.loop-piece-init
loop-piece-init c = subst (Holds256 c.new-hasher.result) (sym (fill_from-none c.args.number c.args.tag 0)) c.new-hasher.ensures

pub loop-piece-preserved : goal.loop-piece-preserved
loop-piece-preserved c =
    let number = c.args.number in
    let tag = c.args.tag in
    let piece = c.loop-piece.piece in
    let bytes : c.put_fill.new.out ≡ fill_from number tag (piece * 512) 512 =
    begins_whole 512 _ _ (begins_more 512 0 512 _ _ _ _ (begins_none 512 _ refl) c.put_fill.ensures (length-fill_from _ _ _ _) (omega arith)) in
    let place : piece * 512 ≡ 0 + 512 * piece = omega arith in
    let size : 512 * piece + 512 ≡ 512 * (piece + 1) = omega arith in
    subst (Holds256 c.update.new.self)
    (ap (λ (l : List ℕ). fill number tag (512 * piece) ++ l) (bytes ∙ ap (λ (k : ℕ). fill_from number tag k 512) place)
    ∙ fill_from-more number tag 0 (512 * piece) 512 ∙ ap (fill_from number tag 0) size)
    (c.update.ensures (fill number tag (512 * piece)) c.loop-piece.invariant)

pub returns : goal.returns
returns c =
    let end : 512 * c.loop-piece.piece ≡ c.args.size = omega (arith, c.loop-piece-test.false, c.loop-piece.auto.piece-end, c.requires.whole) in
    c.finalize.ensures (fill c.args.number c.args.tag (512 * c.loop-piece.piece)) c.loop-piece.invariant
    ∙ ap (λ (n : ℕ). sha256 (fill c.args.number c.args.tag n)) end
