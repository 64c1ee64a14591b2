use Rattle.std.proofs.Common.{◌≡◌, ◌+◌, ◌∙◌, true, false, refl, sym, arith}
use Rattle.board_core.specs.Flash.{range}
use Rattle.rom_core.specs.Map.{is_map_head}
use Rattle.rom_core.proofs.Heads.{is_map_head-read, NoHeadBelow-more}
use Rattle.rom_core.proofs.map_locating.first_head.Goals as goal

pub returns-then-is_some-clause-found : goal.returns-then-is_some-clause-found
returns-then-is_some-clause-found c =
    record {
      place = c.loop-place.place;
      found_at = refl;
      multiple = c.loop-place.invariant.0;
      inside = c.loop-place-test.true;
      stands = is_map_head-read c.args.size _ c.loop-place.place c.args.page.now c.map_count.result true c.map_count.ensures.count (sym c.is_some.ensures ∙ c.if-is_some.true);
      none_below = c.loop-place.invariant.2;
    }

pub loop-place-preserved : goal.loop-place-preserved
loop-place-preserved c =
    let here : is_map_head c.args.size (c.args.at + c.loop-place.place) (range c.args.page.now c.loop-place.place 56) ≡ false =
    is_map_head-read c.args.size _ c.loop-place.place c.args.page.now c.map_count.result false c.map_count.ensures.count (sym c.is_some.ensures ∙ c.if-is_some.false) in
    (omega (arith, c.loop-place.invariant.0), omega (arith, c.loop-place-test.true), NoHeadBelow-more c.args.size c.args.at c.args.page.now c.loop-place.place c.loop-place.invariant.0 c.loop-place.invariant.2 here)
