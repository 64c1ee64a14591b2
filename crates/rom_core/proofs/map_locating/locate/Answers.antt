-- A map was found in a page, or none, and the next page is looked through.
use Rattle.std.proofs.Common.{◌≡◌, ◌∙◌, ◌+◌, ◌*◌, ℕ, inl, Option, IsTrue, IfSome, IfNone, sym, subst, arith}
use Rattle.board_core.specs.Flash.{FlashMedium}
use Rattle.board_core.proofs.Stops.{observed_then}
use Rattle.rom_core.specs.Reading.{NoMapFrom, IsLowestMap}
use Rattle.rom_core.proofs.Heads.{lowest_of_all, NoMapFrom-more}
use Rattle.rom_core.proofs.map_locating.locate.Goals as goal

pub returns-in-Some : goal.returns-in-Some
returns-in-Some g c =
    let old = (g.F.Flash.state c.args.flash.now).medium in
    let kept = c.loop-number.invariant.1 in
    let look = c.in_ok-found.ensures in
    record {
      counters = observed_then _ _ _ _ c.loop-number.invariant.0 look.counters;
      medium = look.medium ∙ kept;
      place = λ told.
          let found = look.found (subst (λ (m : FlashMedium). IsTrue m.told) (sym kept) told) in
          inl (lowest_of_all old.size old.bytes (c.loop-number.number * 4096) c.in-Some.found (c.loop-number.invariant.3 told)
          (subst (λ (m : FlashMedium). IsLowestMap m.size m.bytes (c.loop-number.number * 4096) c.in-Some.found) kept
          (subst (λ (o : Option ℕ). IfSome o (IsLowestMap (g.F.Flash.state c.loop-number.flash).medium.size (g.F.Flash.state c.loop-number.flash).medium.bytes (c.loop-number.number * 4096))) c.in-Some.is found)));
    }

pub loop-number-preserved : goal.loop-number-preserved
loop-number-preserved g c =
    let old = (g.F.Flash.state c.args.flash.now).medium in
    let kept = c.loop-number.invariant.1 in
    let look = c.in_ok-found.ensures in (
      observed_then _ _ _ _ c.loop-number.invariant.0 look.counters,
      look.medium ∙ kept,
      c.loop-number.invariant.2,
      λ told.
          let at : ℕ = c.loop-number.number * 4096 in
          let mid = (g.F.Flash.state c.loop-number.flash).medium in
          let none : IfNone c.in_ok-found.field-0 (NoMapFrom mid.size mid.bytes at (at + 4096)) = look.none (subst (λ (m : FlashMedium). IsTrue m.told) (sym kept) told) in
          let here : NoMapFrom old.size old.bytes at (at + 4096) = subst (λ (m : FlashMedium). NoMapFrom m.size m.bytes at (at + 4096)) kept (subst (λ (o : Option ℕ). IfNone o (NoMapFrom mid.size mid.bytes at (at + 4096))) c.in_default.is none) in
          let next : at + 4096 ≡ (c.loop-number.number + 1) * 4096 = omega arith in
          subst (NoMapFrom old.size old.bytes 0) next (NoMapFrom-more old.size old.bytes at (at + 4096) (c.loop-number.invariant.3 told) here),
    )
