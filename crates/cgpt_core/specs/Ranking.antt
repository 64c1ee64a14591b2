-- The priorities of kernels after they were ordered.
-- Source: the manual page cgpt(1) of ChromiumOS, command `prioritize`.
use Rattle.std.specs.Prelude.{ℕ, zero, suc, ◌+◌, ◌-◌, min, max, Bool, false, ◌&&◌, ◌||◌, not, nat_le, nat_lt, nat_eq, if◌then◌else◌, List, Option, Some, None, Result, Ok, Err}
use Rattle.std.specs.Cmp.Lexicographic.{pointwise}
use Rattle.gpt_core.specs.Attributes.{kernel_type, priority_of, with_priority}
use Rattle.gpt_core.specs.Entries.{all_below, attributes_in, is_used, kind_in}
use Rattle.gpt_core.specs.Format.{PartitionTable}
use Rattle.gpt_core.specs.Room.{table_with_each}
use Rattle.cgpt_core.specs.declared.call.CgptCall.{CgptCall}
use Rattle.cgpt_core.specs.declared.fault.CgptFault.{CgptFault}
use Rattle.cgpt_core.specs.declared.fault.CgptFault.TheVariants as fault
use Rattle.cgpt_core.specs.Adding.{given_or, is_in_range}

-- ---- groups: the kernels of one priority are one, and those of priority 0 are in none

abbrev pub is_kernel : List ℕ → ℕ → Bool
is_kernel entries k = pointwise nat_eq (kind_in entries k) kernel_type

abbrev pub priority_in : List ℕ → ℕ → ℕ
priority_in entries k = if is_kernel entries k then priority_of (attributes_in entries k) else 0

-- entry k is the one that is given, or one of its group, where that moves along
abbrev pub moves_with : (friends : Bool) → List ℕ → (moved k : ℕ) → Bool
moves_with friends entries moved k =
    nat_eq k moved || (friends && nat_le 1 (priority_in entries moved) && nat_eq (priority_in entries k) (priority_in entries moved))

abbrev pub is_moved : Option ℕ → (friends : Bool) → List ℕ → ℕ → Bool
is_moved (Some index) friends entries k = moves_with friends entries (index - 1) k
is_moved None friends entries k = false

-- the group of an entry: 16 is that of those that are moved to the top, and 0 is none
abbrev pub level : CgptCall → List ℕ → ℕ → ℕ
level call entries k = if is_moved call.index call.friends entries k then 16 else priority_in entries k

-- ---- ranks

-- an entry is in this group
abbrev pub is_group : (ℕ → ℕ) → ℕ → Bool
is_group level_of group = not (all_below 128 (λ k. not (nat_eq (level_of k) group)))

-- how many of the numbers below a count pass a test
unfoldable pub count_below : ℕ → (ℕ → Bool) → ℕ
count_below zero test = 0
count_below (suc k) test = count_below k test + (if test k then 1 else 0)

-- how many groups stand above this one
abbrev pub rank : (ℕ → ℕ) → ℕ → ℕ
rank level_of group = count_below 17 (λ above. nat_lt group above && is_group level_of above)

-- the value of the top group: the one that is given, or as many as there are groups, 15 at most
abbrev pub top_value : Option ℕ → (ℕ → ℕ) → ℕ
top_value given level_of = given_or given (min 15 (rank level_of 0))

-- each group has one less than the one above it, and none has less than 1
abbrev pub value_of : Option ℕ → (ℕ → ℕ) → ℕ → ℕ
value_of given level_of group = max 1 (top_value given level_of - rank level_of group)

-- the attributes of an entry: those of one that is in no group stay
abbrev pub attributes_ranked : Option ℕ → (ℕ → ℕ) → List ℕ → ℕ → ℕ
attributes_ranked given level_of entries k =
    if nat_eq (level_of k) 0 then attributes_in entries k
    else with_priority (value_of given level_of (level_of k)) (attributes_in entries k)

-- ---- the table

abbrev pub ranked : CgptCall → PartitionTable → PartitionTable
ranked call table = table_with_each table (attributes_ranked call.priority (level call table.entries) table.entries)

-- the entry that is given is a kernel
abbrev pub refusal_of : List ℕ → ℕ → Option CgptFault
refusal_of entries k =
    if not (is_used entries k) then Some fault.NoEntry
    else if not (is_kernel entries k) then Some fault.BadValue
    else None

abbrev pub refusal_at : Option ℕ → List ℕ → Option CgptFault
refusal_at (Some index) entries = refusal_of entries (index - 1)
refusal_at None entries = None

abbrev pub ranked_unless : Option CgptFault → CgptCall → PartitionTable → Result PartitionTable CgptFault
ranked_unless (Some why) call table = Err why
ranked_unless None call table = Ok (ranked call table)

abbrev pub prioritized : CgptCall → PartitionTable → Result PartitionTable CgptFault
prioritized call table = if is_in_range call then ranked_unless (refusal_at call.index table.entries) call table else Err fault.BadValue
