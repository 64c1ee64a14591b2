-- What a failed call leaves in one range, as the record of it says.
use Rattle.std.specs.Prelude.{ℕ, List}
use Rattle.board_core.specs.declared.torn.Torn.{Torn}
use Rattle.board_core.specs.Flash.{range}
use Rattle.board_mem.specs.declared.fails.Remains.{Remains}
use Rattle.board_mem.specs.Fails.{left_by}

-- the record of a write in whose range a failure left what remains
abbrev pub record_left : Remains → Torn → Torn
record_left remains write = record write { left = left_by remains write.was write.meant }

-- the record of a write in whose sector a failure left what stands there
abbrev pub record_standing : List ℕ → Torn → Torn
record_standing bytes write = record write { left = range bytes write.at 512 }
