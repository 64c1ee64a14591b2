-- A fault of the GBB.
use Rattle.std.proofs.Common.{sym, ap, ◌∙◌}
use Rattle.boot_core.specs.Slots.{root_of}
use Rattle.boot_core.proofs.slots.root_of.Goals as goal

pub returns-in-Err : goal.returns-in-Err
returns-in-Err c = c.no_key.ensures ∙ ap root_of (sym c.in-Err.is)
