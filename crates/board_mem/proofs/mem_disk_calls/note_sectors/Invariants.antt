-- So many of the sectors are noted.
use Rattle.std.proofs.Common.{◌≡◌, ◌+◌, ◌++◌, map, take, vec_len, vec_capacity, ◌≤◌}
use Rattle.board_mem.specs.Remains.{record_standing}
use Rattle.board_mem.proofs.mem_disk_calls.note_sectors.Given as goal

abbrev pub invariant-loop-write : goal.invariant-loop-write
invariant-loop-write l = record {
  torn : l.torn.items ≡ l.initial.torn.items ++ map (record_standing l.content) (take l.write-index l.writes);
  noted : vec_len l.torn ≡ vec_len l.initial.torn + l.write-index;
  capacity : vec_capacity l.initial.torn ≤ vec_capacity l.torn;
}
