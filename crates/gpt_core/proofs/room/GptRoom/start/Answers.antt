-- The new table can stand on the disk.
use Rattle.std.proofs.Common.{sym, subst, arith}
use Rattle.gpt_core.specs.Format.{IsValidTable}
use Rattle.gpt_core.proofs.Validity.{new_valid}
use Rattle.gpt_core.proofs.room.GptRoom.start.Goals as goal

pub invariant_of-self : goal.invariant_of-self
invariant_of-self g c = λ known.
    subst (IsValidTable c.sectors-sectors.result) (sym c.start.ensures.table)
    (new_valid c.sectors-sectors.result c.args.guid (omega arith) (omega arith) c.start.ensures.guid_size)
