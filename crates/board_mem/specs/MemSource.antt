-- What a source in memory is.
use Rattle.std.specs.Prelude.{true, drop}
use Rattle.board_core.specs.Streams.{StreamState}
use Rattle.board_mem.specs.declared.mem_source.MemSource.{MemSource}
use Rattle.board_mem.specs.Fails.{Plan, plan_of}

-- the bytes are those that are left
abbrev pub mem_source_state : MemSource → StreamState
mem_source_state source = record { told = true; bytes = drop source.taken source.bytes.items; faults = source.faults }

-- which of its takes are to fail
abbrev pub mem_source_plan : MemSource → Plan
mem_source_plan source = plan_of source.schedule
