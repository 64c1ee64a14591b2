-- The new table can stand on the disk.
use Rattle.std.proofs.Common.{ℕ, get_or, sym, subst, arith}
use Rattle.gpt_core.specs.Format.{IsValidTable}
use Rattle.gpt_core.proofs.EachAttributes.{each_valid}
use Rattle.gpt_core.proofs.room.GptRoom.set_all_attributes.Goals as goal

pub invariant_of-self : goal.invariant_of-self
invariant_of-self c = λ known.
    subst (IsValidTable c.self.inside.sectors) (sym c.set_all_attributes.ensures.table)
    (each_valid c.self.inside.sectors 128 c.self.inside.table (λ (k : ℕ). get_or c.args.attributes.now k 0) (c.self.invariant known) (omega arith))
