-- What a sink in memory is.
use Rattle.std.specs.Prelude.{ℕ, Bool, true, ◌+◌, length, is_some, nat_lt, ◌||◌}
use Rattle.board_core.specs.Streams.{StreamState}
use Rattle.board_mem.specs.declared.mem_sink.MemSink.{MemSink}
use Rattle.board_mem.specs.Fails.{Plan, plan_of, next_failure}

abbrev pub mem_sink_state : MemSink → StreamState
mem_sink_state sink = record { told = true; bytes = sink.bytes.items; faults = sink.faults }

-- which of its puts are to fail
abbrev pub mem_sink_plan : MemSink → Plan
mem_sink_plan sink = plan_of sink.schedule

-- how many bytes it can have
abbrev pub mem_sink_capacity : MemSink → ℕ
mem_sink_capacity sink = sink.capacity

-- whether a put of so many bytes is to fail: the list names it, or the bytes do not fit
abbrev pub refuses_put : MemSink → ℕ → Bool
refuses_put sink count =
    is_some (next_failure (mem_sink_plan sink)) || nat_lt (mem_sink_capacity sink) (length (mem_sink_state sink).bytes + count)
