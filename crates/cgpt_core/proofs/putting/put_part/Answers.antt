-- The line of an entry that is used.
use Rattle.std.proofs.Common.{◌∙◌}
use Rattle.cgpt_core.proofs.Fronts.{line_put, line_used}
use Rattle.cgpt_core.proofs.putting.put_part.Goals as goal

pub returns : goal.returns
returns g c =
    line_put c.args.room.now.table.entries c.as_slice.result.now c.args.k _ _ c.put.result
    (line_used c.args.room.now.table.entries c.as_slice.result.now c.args.k c.in-Some.entry c.in-Some.ensures.used c.in-Some.ensures.entry (c.as_slice.ensures ∙ c.text_of_part-line.ensures))
    c.put.ensures.meets
