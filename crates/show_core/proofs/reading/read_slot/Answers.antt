use Rattle.std.proofs.Common.{◌≡◌, ◌∙◌, ap, length}
use Rattle.board_core.specs.Flash.{range}
use Rattle.show_core.specs.Facts.{slot_facts}
use Rattle.show_core.proofs.reading.read_slot.Goals as goal

pub returns : goal.returns
returns g c =
    let old = (g.F.Flash.state c.args.flash.now).medium in
    let long : length c.read.new.buf ≡ c.args.area.size = c.read.auto.buf ∙ c.requires.room in
    record {
      counters = c.in_ok-read.ensures.meets.counters;
      medium = c.in_ok-read.ensures.meets.medium;
      facts = λ told. c.slot_facts.ensures ∙ ap slot_facts (c.in_ok-read.ensures.meets.filled told ∙ ap (range old.bytes c.args.area.at) long);
    }
