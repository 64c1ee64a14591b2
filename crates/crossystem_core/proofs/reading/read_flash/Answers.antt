-- Both were read.
use Rattle.std.proofs.Common.{◌∙◌, ap, sym, subst, IsTrue}
use Rattle.board_core.specs.Flash.{FlashMedium}
use Rattle.board_core.proofs.Stops.{observed_then}
use Rattle.rom_core.specs.Gbb.{area_bytes}
use Rattle.rom_core.specs.Decoded.{gbb_of}
use Rattle.rom_core.proofs.Decodings.{gbb_is}
use Rattle.crossystem_core.specs.Reading.{hwid_by}
use Rattle.crossystem_core.proofs.reading.read_flash.Goals as goal

pub returns : goal.returns
returns g c =
    let load = c.in_ok-state.ensures.meets in
    let gbb = c.in_ok-gbb.ensures.meets in
    let map = c.args.map.now in
    let loaded = (g.F.Flash.state c.load.new.flash).medium in
    record {
      counters = observed_then _ _ _ _ load.counters gbb.counters;
      medium = gbb.medium ∙ load.medium;
      state = load.state;
      within = load.within;
      hwid = λ told.
          let there : IsTrue loaded.told = subst (λ (m : FlashMedium). IsTrue m.told) (sym load.medium) told in
          c.hwid_of.ensures ∙ ap hwid_by (gbb_is (area_bytes map.gbb loaded) c.in_ok-gbb.gbb (gbb.fault there) (gbb.none there) (gbb.gbb there))
          ∙ ap (λ (m : FlashMedium). hwid_by (gbb_of (area_bytes map.gbb m))) load.medium;
    }
