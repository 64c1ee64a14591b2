-- The calls that are to fail, and what a failed one leaves.
use Rattle.std.specs.Prelude.{◌≡◌, ℕ, ◌+◌, Bool, List, [], ◌∷◌, length, replicate, Option, option_map, is_some, ◌==◌, nat_lt, find, if◌then◌else◌}
use Rattle.board_core.specs.declared.counters.Counters.{Counters}
use Rattle.board_core.specs.Counters.{raised}
use Rattle.board_mem.specs.declared.fails.FailAt.{FailAt}
use Rattle.board_mem.specs.declared.fails.Remains.{Remains}
use Rattle.board_mem.specs.declared.fails.Remains.TheVariants.{Old, New, Fill}
use Rattle.board_mem.specs.declared.fails.Schedule.{Schedule}

-- what stands in a range after a failure
abbrev pub left_by : Remains → List ℕ → List ℕ → List ℕ
left_by Old was meant = was
left_by New was meant = meant
left_by (Fill byte) was meant = replicate (length meant) byte

-- The calls that are to fail, by their numbers, and how many calls that can fail were made.
pub record Plan : Type 0 where
  pub fails : List FailAt
  pub calls : ℕ

abbrev pub plan_of : Schedule → Plan
plan_of schedule = record { fails = schedule.fails.items; calls = schedule.calls }

-- what the call of this number leaves, if it is to fail: the first entry of the list that names it says so
abbrev pub failure_at : List FailAt → ℕ → Option Remains
failure_at fails call = option_map (λ (fail : FailAt). fail.remains) (find (λ (fail : FailAt). fail.call == call) fails)

-- what the next call leaves, if it is to fail
abbrev pub next_failure : Plan → Option Remains
next_failure plan = failure_at plan.fails (raised plan.calls)

-- the plan after one more call
abbrev pub after_call : Plan → Plan
after_call plan = record plan { calls = raised plan.calls }

-- how many entries name a call after this one
abbrev pub count_after : List FailAt → ℕ → ℕ
count_after [] call = 0
count_after (fail ∷ fails) call = (if nat_lt call fail.call then 1 else 0) + count_after fails call

-- how many entries name a call that is not made yet
abbrev pub failures_to_come : Plan → ℕ
failures_to_come plan = count_after plan.fails plan.calls

-- A call that can fail: it failed exactly where the list names it, and is counted.
pub record FollowsPlan (old new : Plan) (failed : Bool) : Type 0 where
  pub as_planned : failed ≡ is_some (next_failure old)
  pub after : new ≡ after_call old

-- a count after a call: one more where the call failed
abbrev pub count_with : Bool → ℕ → ℕ
count_with failed count = if failed then raised count else count

-- the counters after a call that changes no content
abbrev pub observed_counters : Bool → Counters → Counters
observed_counters failed counters = record counters { faults = count_with failed counters.faults }

-- the counters after a changing call
abbrev pub changed_counters : Bool → Counters → Counters
changed_counters failed counters =
    record counters { faults = count_with failed counters.faults; failed_changes = count_with failed counters.failed_changes }
