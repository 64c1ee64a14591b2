use Rattle.std.proofs.Common.{◌≡◌, ◌+◌, ◌-◌, ◌%◌, ◌≤◌, length}
use Rattle.rom_core.specs.Reading.{NoHeadBelow}
use Rattle.rom_core.proofs.map_locating.first_head.Given as goal

abbrev pub invariant-loop-place : goal.invariant-loop-place
invariant-loop-place l = (l.place % 64 ≡ 0) × (l.place ≤ length l.page + 64) × NoHeadBelow l.size l.at l.page l.place

abbrev pub decreases-loop-place : goal.decreases-loop-place
decreases-loop-place l = length l.page + 64 - l.place
