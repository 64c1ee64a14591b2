-- The new table can stand on the disk.
use Rattle.std.proofs.Common.{◌-◌, length, ap, sym, ◌∙◌, subst, arith}
use Rattle.gpt_core.specs.Format.{PartitionTable, IsValidTable}
use Rattle.gpt_core.specs.Placing.{MayStand}
use Rattle.gpt_core.specs.Room.{RoomView}
use Rattle.gpt_core.proofs.Placed.{placed_valid}
use Rattle.gpt_core.proofs.room.GptRoom.place_entry.Goals as goal

pub invariant_of-self : goal.invariant_of-self
invariant_of-self c = λ known.
    let size = ap (λ (t : PartitionTable). length t.entries) (sym c.set_entry.ensures.table) ∙ c.set_entry.ensures.size in
    let stands = subst (λ (r : RoomView). MayStand r.table (c.args.index - 1) c.args.entry.now) (sym c.self.view_is) c.requires.stands in
    subst (IsValidTable c.self.inside.sectors) (sym c.set_entry.ensures.table)
    (placed_valid c.self.inside.sectors c.self.inside.table (c.args.index - 1) c.args.entry.now (c.self.invariant known) (omega arith)
    c.set_entry.ensures.wide (λ used. stands) size)
