-- The second slot could not be read, or all three parts were.
use Rattle.std.proofs.Common.{◌∙◌, ap, sym, subst, IsTrue}
use Rattle.std.proofs.lemmas.Result.{err_from_is_err_and}
use Rattle.board_core.specs.Flash.{FlashMedium}
use Rattle.board_core.proofs.Stops.{observed_then}
use Rattle.rom_core.specs.Gbb.{area_bytes}
use Rattle.show_core.specs.Facts.{slot_facts}
use Rattle.show_core.proofs.Shown.{flash_read}
use Rattle.show_core.proofs.reading.read_areas.Goals as goal

pub returns-in_err-slot_b : goal.returns-in_err-slot_b
returns-in_err-slot_b g c =
    let first = c.in_ok-gbb.ensures in
    let second = c.in_ok-slot_a.ensures in
    let third = c.in_err-slot_b.ensures in
    let error = err_from_is_err_and c.from_residual-in_err-slot_b.result c.from_residual-in_err-slot_b.ensures.1 in
    rw error.1 (record {
      counters = observed_then _ _ _ _ (observed_then _ _ _ _ first.counters second.counters) third.counters;
      medium = third.medium ∙ second.medium ∙ first.medium;
      facts = λ told. tt;
    })

pub returns : goal.returns
returns g c =
    let old = (g.F.Flash.state c.args.flash.now).medium in
    let map = c.args.map.now in
    let first = c.in_ok-gbb.ensures in
    let second = c.in_ok-slot_a.ensures in
    let third = c.in_ok-slot_b.ensures in
    let kept = second.medium ∙ first.medium in
    record {
      counters = observed_then _ _ _ _ (observed_then _ _ _ _ first.counters second.counters) third.counters;
      medium = third.medium ∙ kept;
      facts = λ told.
          flash_read c.args.map_at map old c.size-size.result c.in_ok-gbb.gbb c.in_ok-slot_a.slot_a c.in_ok-slot_b.slot_b c.size-size.ensures (first.facts told)
          (second.facts (subst (λ (m : FlashMedium). IsTrue m.told) (sym first.medium) told) ∙ ap (λ (m : FlashMedium). slot_facts (area_bytes map.vblock_a m)) first.medium)
          (third.facts (subst (λ (m : FlashMedium). IsTrue m.told) (sym kept) told) ∙ ap (λ (m : FlashMedium). slot_facts (area_bytes map.vblock_b m)) kept);
    }
