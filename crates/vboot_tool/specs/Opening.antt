-- The board as it is opened.
use Rattle.std.specs.Prelude.{◌≡◌}
use Rattle.board_core.specs.declared.disk.Disk.{Ghosts}
use Rattle.board_core.specs.declared.platform.Platform.{Platform}
use Rattle.board_core.specs.FuseDisk.{fuse_disk_state}

-- nothing is pending on either disk
pub record IsSettledBoard {F T D E H : Type 0} {disk : Ghosts D} {stick : Ghosts E} (p : Platform F T D E H disk stick) : Type 0 where
  pub disk_settled : (fuse_disk_state p.disk).medium.pending ≡ 0
  pub stick_settled : (fuse_disk_state p.stick).medium.pending ≡ 0
