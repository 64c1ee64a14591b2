use Rattle.std.proofs.Common.{◌≡◌, ◌*◌, false}
use Rattle.std.specs.Prelude.{IsTrue}
use Rattle.board_core.specs.Counters.{Observed}
use Rattle.rom_core.specs.Reading.{NoMapFrom}
use Rattle.rom_core.proofs.map_locating.locate.Given as goal

-- nothing was changed, and no map stands in the pages so far
abbrev pub invariant-loop-number : goal.invariant-loop-number
invariant-loop-number g l =
    Observed (g.F.Flash.state l.fn.flash).counters (g.F.Flash.state l.flash).counters false
    × ((g.F.Flash.state l.flash).medium ≡ (g.F.Flash.state l.fn.flash).medium)
    × (l.size ≡ (g.F.Flash.state l.fn.flash).medium.size)
    × (IsTrue (g.F.Flash.state l.fn.flash).medium.told → NoMapFrom (g.F.Flash.state l.fn.flash).medium.size (g.F.Flash.state l.fn.flash).medium.bytes 0 (l.number * 4096))
