-- An erased page is 4,096 bytes of 0xff.
use Rattle.std.proofs.Common.{refl}
use Rattle.board_core.specs.Flash.{erased_page}
use Rattle.board_core.proofs.flash.make_erased_page.Goals as goal

pub returns : goal.returns
unfolding erased_page
returns c = refl
