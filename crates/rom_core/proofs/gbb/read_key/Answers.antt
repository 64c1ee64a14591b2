-- The packed key that the range begins with is read from its first 32 bytes, and its bytes from behind them.
use Rattle.std.proofs.Common.{◌≡◌, ◌∙◌, ◌+◌, ◌≤◌, true, false, length, ap, sym, subst, arith}
use Rattle.std.specs.Prelude.{IsTrue}
use Rattle.std.proofs.lemmas.Bool.{cond-false}
use Rattle.board_core.specs.Flash.{FlashMedium, range}
use Rattle.key_core.specs.Algorithms.{padded}
use Rattle.key_core.specs.Parts.{key_at, key_is_inside}
use Rattle.key_core.proofs.Signed.{is_inside-end}
use Rattle.rom_core.proofs.GbbReads.{key_head, key_copied}
use Rattle.rom_core.proofs.gbb.read_key.Goals as goal

pub returns-then-not-is_inside-clause-key : goal.returns-then-not-is_inside-clause-key
returns-then-not-is_inside-clause-key g c told =
    let old = (g.F.Flash.state c.args.flash.now).medium in
    let long : length c.read.new.buf ≡ 32 = omega arith in
    let head : c.key_at-head.result ≡ key_at (range old.bytes c.args.at c.args.size) 0 =
    key_head old.bytes c.read.new.buf c.args.at c.args.size c.key_at-head.result c.requires.head (c.in_ok-read.ensures.meets.filled told ∙ ap (range old.bytes c.args.at) long) c.key_at-head.ensures in
    let outside : key_is_inside c.args.size c.key_at-head.result ≡ false = cc in
    sym (cond-false _ _ _ (ap (key_is_inside c.args.size) (sym head) ∙ outside))

pub returns-clause-key : goal.returns-clause-key
returns-clause-key g c told =
    let old = (g.F.Flash.state c.args.flash.now).medium in
    let long : length c.read.new.buf ≡ 32 = omega arith in
    let head : c.key_at-head.result ≡ key_at (range old.bytes c.args.at c.args.size) 0 =
    key_head old.bytes c.read.new.buf c.args.at c.args.size c.key_at-head.result c.requires.head (c.in_ok-read.ensures.meets.filled told ∙ ap (range old.bytes c.args.at) long) c.key_at-head.ensures in
    let inside : key_is_inside c.args.size c.key_at-head.result ≡ true = cc in
    let stands : c.key_at-head.result.at ≡ 0 = ap (λ k. k.at) c.key_at-head.ensures in
    let end : c.key_at-head.result.at + c.key_at-head.result.offset + c.key_at-head.result.size ≤ c.args.size =
    is_inside-end c.args.size c.key_at-head.result.at 32 c.key_at-head.result.offset c.key_at-head.result.size inside in
    let copy = subst (λ (m : FlashMedium). IsTrue m.told → c.read_padded.new.room ≡ padded 2056 (range m.bytes (c.args.at + c.key_at-head.result.offset) c.key_at-head.result.size)) c.in_ok-read.ensures.meets.medium c.in_ok-read_padded.ensures.padded told in
    key_copied old.bytes c.args.at c.args.size c.key_at-head.result c.read_padded.new.room head (ap (key_is_inside c.args.size) (sym head) ∙ inside) (omega arith) copy
