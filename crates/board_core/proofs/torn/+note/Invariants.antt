-- Noting a torn range ends, since each step leaves fewer bytes.
use Rattle.std.proofs.Common.{length}
use Rattle.board_core.proofs.torn.+note.Given as goal

abbrev pub decreases-note : goal.decreases-note
decreases-note l = length l.meant.now
