-- A map was read, and then the parts in its areas.
use Rattle.std.proofs.Common.{◌≡◌, ◌∙◌, ap, sym, subst, Result, Some, None, IsTrue, IfOk, OnOk}
use Rattle.wire_core.specs.FirstFault.{first_fault}
use Rattle.board_core.specs.Flash.{FlashMedium}
use Rattle.board_core.proofs.Stops.{observed_then}
use Rattle.rom_core.specs.declared.map.Map.{Map}
use Rattle.rom_core.specs.declared.fault.MapFault.{MapFault}
use Rattle.rom_core.specs.Map.{areas_in, standing_map, map_lines}
use Rattle.rom_core.specs.Reading.{map_question}
use Rattle.show_core.specs.declared.facts.FlashFacts.{FlashFacts}
use Rattle.show_core.specs.Facts.{flash_facts}
use Rattle.show_core.proofs.reading.read_facts.Goals as goal

pub returns : goal.returns
returns g c =
    let old = (g.F.Flash.state c.args.flash.now).medium in
    let asked = map_question c.args.map_at old in
    let read = c.in_ok-map.ensures in
    let parts = c.in_ok-facts.ensures in
    let facts : IsTrue old.told → c.in_ok-facts.facts ≡ flash_facts c.args.map_at c.in-Ok.map old = λ told.
    parts.facts (subst (λ (m : FlashMedium). IsTrue m.told) (sym read.medium) told) ∙ ap (flash_facts c.args.map_at c.in-Ok.map) read.medium in
    let same : IsTrue old.told → c.in_ok-facts.facts.map ≡ c.in-Ok.map = λ told. ap (λ (f : FlashFacts). f.map) (facts told) in
    record {
      counters = observed_then _ _ _ _ read.counters parts.counters;
      medium = parts.medium ∙ read.medium;
      fault = λ told. tt;
      none = λ told. subst (λ (r : Result Map MapFault). OnOk r (first_fault map_lines asked ≡ None)) c.in-Ok.is (read.none told);
      areas = λ told.
          subst (λ (r : Result Map MapFault). IfOk r (λ (map : Map). areas_in (standing_map asked).rows ≡ Some map)) c.in-Ok.is (read.areas told) ∙ ap Some (sym (same told));
      facts = λ told. facts told ∙ ap (λ (map : Map). flash_facts c.args.map_at map old) (sym (same told));
    }
