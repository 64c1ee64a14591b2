use Rattle.std.proofs.Common.{List, ℕ, ap, arith, ◌∙◌}
use Rattle.gpt_core.specs.Format.{PartitionTable, header_sector}
use Rattle.gpt_core.specs.declared.side.Side.TheVariants.{Primary}
use Rattle.make_core.specs.declared.drive.Drive.{Drive}
use Rattle.make_core.specs.Drive.{drive_with}
use Rattle.make_core.specs.Table.{guid}
use Rattle.make_core.proofs.drive.make_drive.Goals as goal

pub returns-clause-value : goal.returns-clause-value
returns-clause-value c =
    let table : List ℕ → List ℕ → PartitionTable = λ id entries. record { guid = id; first_usable = 34; last_usable = 16350; entries = entries } in
    let drive : List ℕ → List ℕ → Drive =
    λ primary backup. record { primary = primary; entries = c.make_entries-entries.result; backup = backup; first = c.args.first; second = c.args.second } in
    let found = table c.make_guid.result c.make_entries-entries.result in
    ap (λ (l : List ℕ). drive l c.header_sector-2.result) c.header_sector.ensures
    ∙ ap (drive (header_sector Primary 16384 found)) c.header_sector-2.ensures
    ∙ ap (λ (id : List ℕ). drive_with (table id c.make_entries-entries.result) c.args.first c.args.second) c.make_guid.ensures
    ∙ ap (λ (e : List ℕ). drive_with (table (guid c.args.number c.args.tag) e) c.args.first c.args.second) c.make_entries-entries.ensures

pub returns-clause-sizes : goal.returns-clause-sizes
returns-clause-sizes c = record { primary = omega arith; entries = omega arith; backup = omega arith; first = c.requires.first; second = c.requires.second }
