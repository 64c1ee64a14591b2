use Rattle.std.proofs.Common.{◌≡◌, rules, true}
use Rattle.gpt_core.specs.Entries.{is_used, entry_in}
use Rattle.cgpt_core.proofs.Openings.{entry_within}
use Rattle.cgpt_core.proofs.putting.used_entry.Goals as goal

pub returns-clause-ordered : goal.returns-clause-ordered
returns-clause-ordered c =
    let used : is_used c.args.room.now.table.entries c.args.k ≡ true = search rules in
    let is : c.entry-entry.result ≡ entry_in c.args.room.now.table.entries c.args.k = search rules in
    (entry_within c.args.room.now.sectors c.args.room.now.table c.args.k c.entry-entry.result c.requires.valid c.requires.place used is).0

pub returns-clause-small : goal.returns-clause-small
returns-clause-small c =
    let used : is_used c.args.room.now.table.entries c.args.k ≡ true = search rules in
    let is : c.entry-entry.result ≡ entry_in c.args.room.now.table.entries c.args.k = search rules in
    (entry_within c.args.room.now.sectors c.args.room.now.table c.args.k c.entry-entry.result c.requires.valid c.requires.place used is).1
