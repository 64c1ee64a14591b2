-- The new table can stand on the disk.
use Rattle.std.proofs.Common.{◌-◌, length, ap, sym, ◌∙◌, subst}
use Rattle.gpt_core.specs.Format.{PartitionTable, IsValidTable}
use Rattle.gpt_core.specs.Entries.{EntriesFit, with_entry}
use Rattle.gpt_core.specs.Room.{RoomView}
use Rattle.gpt_core.proofs.PairTests.{EntriesFit-test}
use Rattle.gpt_core.proofs.Validity.{entry_valid}
use Rattle.gpt_core.proofs.room.GptRoom.set_entry.Goals as goal

pub invariant_of-self : goal.invariant_of-self
invariant_of-self c = λ known.
    let size = ap (λ (t : PartitionTable). length t.entries) (sym c.set_entry.ensures.table) ∙ c.set_entry.ensures.size in
    let fits = subst (λ (r : RoomView). EntriesFit r.table.first_usable r.table.last_usable (with_entry r.table.entries (c.args.index - 1) c.args.entry.now)) (sym c.self.view_is) c.requires.fits in
    subst (IsValidTable c.self.inside.sectors) (sym c.set_entry.ensures.table)
    (entry_valid c.self.inside.sectors c.self.inside.table (c.args.index - 1) c.args.entry.now (c.self.invariant known)
    (EntriesFit-test c.self.inside.table.first_usable c.self.inside.table.last_usable (with_entry c.self.inside.table.entries (c.args.index - 1) c.args.entry.now) fits) size)
