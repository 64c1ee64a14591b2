-- All entries are 0.
use Rattle.std.proofs.Common.{◌≡◌, length, ap, ◌∙◌}
use Rattle.std.proofs.lemmas.List.{with_items_is}
use Rattle.gpt_core.specs.Entries.{zeros}
use Rattle.gpt_core.specs.Heads.{table_with}
use Rattle.gpt_core.proofs.Units.{length-zeros}
use Rattle.gpt_core.proofs.table.Table.blank.Goals as goal

pub returns : goal.returns
returns c =
    let size : length c.as_mut_slice.result.now ≡ 16384 = ap length c.as_mut_slice.ensures.value ∙ c.self.invariant in
    let is : c.clear.new.bytes ≡ zeros 16384 = c.clear.ensures ∙ ap zeros size in
    let long : length c.clear.new.bytes ≡ c.self.inside.entries.len = ap length c.clear.ensures ∙ length-zeros (length c.as_mut_slice.result.now) ∙ c.as_mut_slice.ensures.len in
    ap (table_with c.args.head) (with_items_is c.self.inside.entries c.clear.new.bytes long ∙ is)
