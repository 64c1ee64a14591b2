use Rattle.std.proofs.Common.{◌∙◌, sym}
use Rattle.cgpt_core.proofs.Ranked.{ranks}
use Rattle.cgpt_core.proofs.ranking.prioritize.Goals as goal

pub returns : goal.returns
returns c =
    ranks c.args.call.now c.args.room.now c.set_all_attributes.new.self c.levels_of-levels.result c.attributes_ranked-attributes.result
    (sym c.is_in_range.ensures ∙ c.if-not-is_in_range.false) (sym c.refusal.ensures ∙ c.in_default.is) c.levels_of-levels.ensures
    c.attributes_ranked-attributes.ensures c.set_all_attributes.ensures
