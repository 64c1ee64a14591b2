-- The place of a used entry.
use Rattle.std.proofs.Common.{◌≡◌, ◌-◌, refl, rules, true, arith}
use Rattle.gpt_core.specs.Entries.{is_used}
use Rattle.show_core.proofs.PartitionReads.{used_place, used_bounds}
use Rattle.show_core.proofs.partition_reading.place_of.Goals as goal

pub overflow_sub-result : goal.overflow_sub-result
overflow_sub-result c =
    let used : is_used c.args.room.now.table.entries (c.args.index - 1) ≡ true = search rules in
    (used_bounds c.args.room.now.sectors c.args.room.now.table c.args.index c.entry-entry.result c.requires.valid c.if-index-gt128.false used c.entry-entry.ensures).0

pub overflow_add-result : goal.overflow_add-result
overflow_add-result c =
    let used : is_used c.args.room.now.table.entries (c.args.index - 1) ≡ true = search rules in
    let bounds = used_bounds c.args.room.now.sectors c.args.room.now.table c.args.index c.entry-entry.result c.requires.valid c.if-index-gt128.false used c.entry-entry.ensures in
    omega (arith, bounds.0, bounds.1)

pub returns-clause-place : goal.returns-clause-place
returns-clause-place c =
    let used : is_used c.args.room.now.table.entries (c.args.index - 1) ≡ true = search rules in
    (used_place c.args.room.now.sectors c.args.room.now.table c.args.index c.entry-entry.result _ c.requires.valid c.if-index-lt1.false c.if-index-gt128.false used c.entry-entry.ensures refl).0

pub returns-clause-inside : goal.returns-clause-inside
returns-clause-inside c =
    let used : is_used c.args.room.now.table.entries (c.args.index - 1) ≡ true = search rules in
    (used_place c.args.room.now.sectors c.args.room.now.table c.args.index c.entry-entry.result _ c.requires.valid c.if-index-lt1.false c.if-index-gt128.false used c.entry-entry.ensures refl).1
