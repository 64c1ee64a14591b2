-- So many of the sectors are torn and noted.
use Rattle.std.proofs.Common.{◌≡◌, ◌+◌, ◌++◌, length, map, take, vec_len, vec_capacity, ◌≤◌}
use Rattle.board_core.specs.Disk.{overlaid}
use Rattle.board_mem.specs.Remains.{record_left}
use Rattle.board_mem.proofs.mem_disk_calls.tear_sectors.Given as goal

abbrev pub invariant-loop-write : goal.invariant-loop-write
invariant-loop-write l = record {
  bytes : l.content.items ≡ overlaid l.initial.content.items (map (record_left l.remains) (take l.write-index l.writes));
  same_length : length l.content.items ≡ length l.initial.content.items;
  torn : l.torn.items ≡ l.initial.torn.items ++ map (record_left l.remains) (take l.write-index l.writes);
  noted : vec_len l.torn ≡ vec_len l.initial.torn + l.write-index;
  capacity : vec_capacity l.initial.torn ≤ vec_capacity l.torn;
}
