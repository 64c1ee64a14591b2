-- So many bytes of the rest are read and hashed, whole pieces of them while any are left.
use Rattle.std.proofs.Common.{◌≡◌, ◌+◌, ◌-◌, ◌*◌, ◌/◌, ◌%◌, ◌≤◌, ◌<◌, false, length, vec_len, vec_capacity}
use Rattle.kernel_core.specs.KernelBodies.{LooksAtDisk, DiskPiece}
use Rattle.kernel_core.proofs.body.read_rest.Given as goal

abbrev pub invariant-loop-done : goal.invariant-loop-done
invariant-loop-done g l = record {
  within : l.done ≤ l.len;
  aligned : l.done < l.len → l.done % 512 ≡ 0;
  looks : LooksAtDisk ((l.done + 511) / 512) (g.D.Disk.state l.fn.disk) (g.D.Disk.state l.disk) false;
  taken : DiskPiece (l.lba * 512) l.done (g.D.Disk.state l.fn.disk) l.fn.hasher l.hasher l.fn.body.items l.body.items;
  piece : length l.piece ≡ length l.fn.piece;
  count : vec_len l.body ≡ vec_len l.fn.body + l.done;
  capacity : vec_capacity l.fn.body ≤ vec_capacity l.body;
}

abbrev pub decreases-loop-done : goal.decreases-loop-done
decreases-loop-done g l = l.len - l.done
