-- So many bytes of the body are read and hashed.
use Rattle.std.proofs.Common.{◌≡◌, ◌-◌, ◌≤◌, false, length, vec_capacity}
use Rattle.std.specs.Prelude.{IsTrue}
use Rattle.board_core.specs.Flash.{range}
use Rattle.rom_core.specs.Gbb.{Looks}
use Rattle.chain_core.specs.Hashing.{HoldsMessage}
use Rattle.chain_core.proofs.body.read_body.Given as goal

abbrev pub invariant-loop-done : goal.invariant-loop-done
invariant-loop-done g l = record {
  within : l.done ≤ l.len;
  looks : Looks (g.F.Flash.state l.fn.flash) (g.F.Flash.state l.flash) false;
  many : length l.body.items ≡ l.done;
  hashed : HoldsMessage l.algorithm l.hasher l.body.items;
  filled : IsTrue (g.F.Flash.state l.fn.flash).medium.told → l.body.items ≡ range (g.F.Flash.state l.fn.flash).medium.bytes l.at l.done;
  capacity : vec_capacity l.fn.body ≤ vec_capacity l.body;
}

abbrev pub decreases-loop-done : goal.decreases-loop-done
decreases-loop-done g l = l.len - l.done
