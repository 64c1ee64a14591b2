use Rattle.std.proofs.Common.{length}
use Rattle.rom_core.proofs.area.+any_share.Given as goal

abbrev pub decreases-any_share : goal.decreases-any_share
decreases-any_share l = length l.areas.now
