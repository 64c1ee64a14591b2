use Rattle.std.proofs.Common.{◌≡◌, ap, subst, Result, None, IfOk, OnOk}
use Rattle.wire_core.specs.FirstFault.{first_fault}
use Rattle.rom_core.specs.declared.gbb.Gbb.{Gbb}
use Rattle.rom_core.specs.declared.fault.GbbFault.{GbbFault}
use Rattle.rom_core.specs.Gbb.{gbb_lines, gbb_in, area_bytes}
use Rattle.show_core.specs.Facts.{facts_of_gbb}
use Rattle.show_core.proofs.Shown.{shown-none}
use Rattle.show_core.proofs.reading.read_gbb_facts.Goals as goal

pub returns-in-Ok : goal.returns-in-Ok
returns-in-Ok g c =
    let old = (g.F.Flash.state c.args.flash.now).medium in
    let bytes = area_bytes c.args.area old in
    let meets = c.in_ok-gbb.ensures.meets in
    record {
      counters = meets.counters;
      medium = meets.medium;
      facts = λ told.
          shown-none (first_fault gbb_lines bytes) (facts_of_gbb (gbb_in bytes)) _ (subst (λ (r : Result Gbb GbbFault). OnOk r (first_fault gbb_lines bytes ≡ None)) c.in-Ok.is (meets.none told))
          (ap facts_of_gbb (subst (λ (r : Result Gbb GbbFault). IfOk r (λ (gbb : Gbb). gbb ≡ gbb_in bytes)) c.in-Ok.is (meets.gbb told)));
    }
