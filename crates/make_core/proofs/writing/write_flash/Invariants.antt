use Rattle.make_core.specs.Layout.{machine_flash}
use Rattle.make_core.proofs.FlashWrites.{WrittenSoFar}
use Rattle.make_core.proofs.writing.write_flash.Given as goal

-- the pages so far are the machine's
abbrev pub invariant-loop-page : goal.invariant-loop-page
invariant-loop-page g l = WrittenSoFar (machine_flash l.number) l.page (g.F.Flash.state l.fn.flash) (g.F.Flash.state l.flash)
