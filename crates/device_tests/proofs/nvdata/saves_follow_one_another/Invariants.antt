use Rattle.std.proofs.Common.{◌≡◌}
use Rattle.board_mem.specs.MemFlash.{mem_flash_state}
use Rattle.nvstore_core.specs.Pages.{IsStateOf, InRange}
use Rattle.device_tests.proofs.nvdata.saves_follow_one_another.Given as goal

abbrev pub invariant-loop-count : goal.invariant-loop-count
invariant-loop-count g l = record {
  size : (mem_flash_state l.flash).medium.size ≡ 12288;
  state : IsStateOf 4096 (mem_flash_state l.flash).medium.bytes l.state;
  within : InRange l.state;
}
