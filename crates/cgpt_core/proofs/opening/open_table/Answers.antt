use Rattle.std.proofs.Common.{sym, subst, Option, Ok}
use Rattle.board_core.specs.declared.device.Failed.{Failed}
use Rattle.cgpt_core.specs.declared.opening.Opened.{Opened}
use Rattle.cgpt_core.specs.Tables.{Opens}
use Rattle.cgpt_core.proofs.Openings.{opens_by}
use Rattle.cgpt_core.proofs.opening.open_table.Goals as goal

pub returns : goal.returns
returns g c =
    subst (λ (o : Option Opened). Opens {E = Failed} (g.D.Disk.state c.args.disk.now) (g.D.Disk.state c.read_table.new.disk) c.read_table.new.room (Ok o)) (sym c.opened_of.ensures)
    (opens_by _ _ _ c.in_ok-found.found c.in_ok-found.ensures.meets)
