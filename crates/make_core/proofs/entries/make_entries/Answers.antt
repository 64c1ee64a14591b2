use Rattle.std.proofs.Common.{◌∙◌, List, refl, ap, arith}
use Rattle.std.proofs.lemmas.List.{take_all}
use Rattle.gpt_core.specs.Entries.{no_entries, zeros}
use Rattle.make_core.specs.declared.drive_layout.EntryRow.{EntryRow}
use Rattle.make_core.specs.Table.{with_rows}
use Rattle.make_core.proofs.KernelSizes.{rows_next}
use Rattle.make_core.proofs.entries.make_entries.Goals as goal

pub loop-row-init : goal.loop-row-init
unfolding zeros
loop-row-init c = refl

pub make_entry-requires : goal.make_entry-requires
make_entry-requires c = c.requires c.loop-row.row-index _ c.loop-row-test.true

pub loop-row-preserved : goal.loop-row-preserved
loop-row-preserved c =
    c.put_entry.ensures
    ∙ rows_next c.args.number c.args.tag c.loop-row.row-index c.args.rows.now _ c.make_entry.result _ no_entries _ c.loop-row-test.true c.loop-row.invariant c.make_entry.ensures refl

pub returns : goal.returns
returns c =
    c.loop-row.invariant
    ∙ ap (λ (l : List EntryRow). with_rows c.args.number c.args.tag l no_entries) (take_all c.loop-row.row-index c.args.rows.now (omega (arith, c.loop-row-test.false)))
