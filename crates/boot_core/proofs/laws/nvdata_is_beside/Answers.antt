use Rattle.boot_core.proofs.Aside.{stays_beside}
use Rattle.boot_core.proofs.laws.nvdata_is_beside.Goals as goal

pub returns : goal.returns
returns c = stays_beside
