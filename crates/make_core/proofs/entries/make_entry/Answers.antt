use Rattle.std.proofs.Common.{◌+◌, ◌-◌, List, ℕ, ap, ◌∙◌}
use Rattle.gpt_core.specs.declared.entry.Entry.{Entry}
use Rattle.make_core.specs.Table.{guid}
use Rattle.make_core.proofs.entries.make_entry.Goals as goal

pub returns : goal.returns
returns c =
    let r = c.args.row.now in
    let entry : List ℕ → List ℕ → Entry =
    λ unique name. record { kind = r.kind; unique = unique; first = r.begin; last = r.begin + r.size - 1; attributes = r.attributes; name = name } in
    ap (λ (u : List ℕ). entry u c.make_label.result) c.make_guid.ensures
    ∙ ap (entry (guid c.args.number (c.args.tag + r.index))) c.make_label.ensures
