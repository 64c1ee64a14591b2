use Rattle.std.proofs.Common.{◌≡◌, ◌+◌, ℕ, Option, Some, None, IsTrue, IfSome, IfNone, subst, length, arith}
use Rattle.std.proofs.lemmas.Option.{IfSome_then}
use Rattle.rom_core.specs.Reading.{NoMapFrom, IsLowestMap}
use Rattle.rom_core.proofs.Heads.{IsPage, none_in_page, lowest_in_page}
use Rattle.rom_core.proofs.map_locating.look.Goals as goal

if_none : (found : Option ℕ) (P Q : Type 0) → IfNone found P → (P → Q) → IfNone found Q
if_none None P Q holds then = then holds
if_none (Some x) P Q holds then = tt

pub returns : goal.returns
returns g c =
    let old = (g.F.Flash.state c.args.flash.now).medium in
    let page = c.read.new.buf in
    let long : length page ≡ length c.args.page.now = c.read.auto.buf in
    let of : IsTrue old.told → IsPage c.args.size c.args.at old.bytes page = λ told. record {
      multiple = c.requires.page;
      inside = omega (arith, long, c.requires.inside);
      few = omega (arith, long, c.requires.few);
      all = λ short. omega (arith, long, c.requires.all (omega (arith, long, short)));
      read = c.in_ok-read.ensures.meets.filled told;
    } in
    record {
      counters = c.in_ok-read.ensures.meets.counters;
      medium = c.in_ok-read.ensures.meets.medium;
      found = λ told. subst (λ (n : ℕ). IfSome c.first_head.result (IsLowestMap n old.bytes c.args.at)) c.requires.size
          (IfSome_then c.first_head.result c.first_head.ensures.found (λ found first. lowest_in_page c.args.size c.args.at old.bytes page found (of told) first));
      none = λ told. subst (λ (n : ℕ). IfNone c.first_head.result (NoMapFrom n old.bytes c.args.at (c.args.at + 4096))) c.requires.size
          (if_none c.first_head.result _ _ c.first_head.ensures.none (none_in_page c.args.size c.args.at old.bytes page (of told)));
    }
