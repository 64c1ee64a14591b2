-- The new table can stand on the disk.
use Rattle.std.proofs.Common.{◌-◌, length, ap, sym, ◌∙◌, subst, arith}
use Rattle.gpt_core.specs.Format.{PartitionTable, IsValidTable}
use Rattle.gpt_core.proofs.Validity.{attributes_valid}
use Rattle.gpt_core.proofs.room.GptRoom.set_attributes.Goals as goal

pub invariant_of-self : goal.invariant_of-self
invariant_of-self c = λ known.
    let size = ap (λ (t : PartitionTable). length t.entries) (sym c.set_attributes.ensures.table) ∙ c.set_attributes.ensures.size in
    subst (IsValidTable c.self.inside.sectors) (sym c.set_attributes.ensures.table)
    (attributes_valid c.self.inside.sectors c.self.inside.table (c.args.index - 1) c.args.attributes (omega arith) (c.self.invariant known) size)
