-- The new table can stand on the disk.
use Rattle.std.proofs.Common.{◌≡◌, ◌-◌, length, ap, sym, ◌∙◌, subst, arith}
use Rattle.gpt_core.specs.declared.entry.Entry.{Entry}
use Rattle.gpt_core.specs.Format.{PartitionTable, IsValidTable}
use Rattle.gpt_core.specs.Placing.{unused_entry}
use Rattle.gpt_core.specs.Room.{RoomView, table_with_entry}
use Rattle.gpt_core.proofs.Placed.{placed_valid}
use Rattle.gpt_core.proofs.room.GptRoom.erase_entry.Goals as goal

pub invariant_of-self : goal.invariant_of-self
invariant_of-self c = λ known.
    let size = ap (λ (t : PartitionTable). length t.entries) (sym c.set_entry.ensures.table) ∙ c.set_entry.ensures.size in
    subst (IsValidTable c.self.inside.sectors) (sym c.set_entry.ensures.table)
    (placed_valid c.self.inside.sectors c.self.inside.table (c.args.index - 1) c.unused.result (c.self.invariant known) (omega arith)
    c.set_entry.ensures.wide (λ used. absurd (used (ap (λ (e : Entry). e.kind) c.unused.ensures))) size)

pub returns : goal.returns
returns c =
    let table : c.set_entry.new.self ≡ table_with_entry c.self.inside.table (c.args.index - 1) unused_entry =
    c.set_entry.ensures.table ∙ ap (table_with_entry c.self.inside.table (c.args.index - 1)) c.unused.ensures in
    ap (λ (t : PartitionTable). record { sectors = c.self.inside.sectors; source = c.self.inside.source; agree = c.self.inside.agree; found = c.self.inside.found; table = t }) table
    ∙ ap (λ (r : RoomView). record r { table = table_with_entry r.table (c.args.index - 1) unused_entry }) c.self.view_is
