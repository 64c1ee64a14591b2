-- The table in which an entry was added, changed or taken out.
-- Source: the manual page cgpt(1) of ChromiumOS. The order of the refusals is this project's own.
use Rattle.std.specs.Prelude.{◌≡◌, ℕ, zero, suc, ◌+◌, ◌-◌, Bool, true, false, ◌&&◌, not, nat_le, nat_eq, if◌then◌else◌, List, replicate, Option, Some, None, is_some, Result, Ok, Err}
use Rattle.std.specs.Cmp.Lexicographic.{pointwise}
use Rattle.std.specs.Option.{option_map_or}
use Rattle.gpt_core.specs.declared.entry.Entry.{Entry}
use Rattle.gpt_core.specs.Attributes.{with_highest, with_priority, with_successful, with_tries}
use Rattle.gpt_core.specs.Entries.{is_used, entry_in}
use Rattle.gpt_core.specs.Format.{PartitionTable}
use Rattle.gpt_core.specs.Placing.{is_free, is_inside, is_unique, unused_entry}
use Rattle.gpt_core.specs.Room.{RoomView, table_with_entry}
use Rattle.gpt_core.specs.Tables.{or_else}
use Rattle.cgpt_core.specs.declared.call.CgptCall.{CgptCall}
use Rattle.cgpt_core.specs.declared.fault.CgptFault.{CgptFault}
use Rattle.cgpt_core.specs.declared.fault.CgptFault.TheVariants as fault
use Rattle.cgpt_core.specs.Faults.{is_device, is_write}

-- ---- values

-- the value that is given, or else this one
abbrev pub given_or : {T : Type 0} → Option T → T → T
given_or (Some given) value = given
given_or None value = value

-- a value that is given passes a test
abbrev pub passes : {T : Type 0} → (T → Bool) → Option T → Bool
passes test (Some given) = test given
passes test None = true

-- The values that are given lie in their ranges. Those that `words` reads do.
abbrev pub is_in_range : CgptCall → Bool
is_in_range call =
    passes (λ index. nat_le 1 index && nat_le index 128) call.index && passes (λ successful. nat_le successful 1) call.successful
    && passes (λ tries. nat_le tries 15) call.tries && passes (λ priority. nat_le priority 15) call.priority

-- ---- the entry that is worked on

-- the least number below a count at which a test holds
unfoldable pub first_below : ℕ → (ℕ → Bool) → Option ℕ
first_below zero test = None
first_below (suc k) test = or_else (first_below k test) (if test k then Some k else None)

-- the unused entry of lowest index
abbrev pub first_unused : List ℕ → Option ℕ
first_unused entries = first_below 128 (λ k. not (is_used entries k))

-- the entry that is given, or else that one
abbrev pub entry_asked : Option ℕ → List ℕ → Option ℕ
entry_asked (Some index) entries = Some (index - 1)
entry_asked None entries = first_unused entries

-- ---- what it becomes

-- an entry as it is, and an unused one with this GUID and all else 0
abbrev pub entry_before : List ℕ → (k : ℕ) → (guid : List ℕ) → Entry
entry_before entries k guid = if is_used entries k then entry_in entries k else record unused_entry { unique = guid }

-- a field of the attributes is set where its value is given
abbrev pub set_given : {T : Type 0} → (T → ℕ → ℕ) → Option T → ℕ → ℕ
set_given set (Some given) attributes = set given attributes
set_given set None attributes = attributes

-- the highest 16 bits first, and then single fields of them
abbrev pub attributes_after : CgptCall → ℕ → ℕ
attributes_after call attributes =
    set_given with_priority call.priority
    (set_given with_tries call.tries (set_given with_successful call.successful (set_given with_highest call.raw attributes)))

-- where it begins, and how many sectors it has
abbrev pub begin_after : CgptCall → Entry → ℕ
begin_after call entry = given_or call.begin entry.first

abbrev pub size_after : CgptCall → Entry → ℕ
size_after call entry = given_or call.size (entry.last - entry.first + 1)

-- the entry with all that is given
abbrev pub entry_after : CgptCall → Entry → Entry
entry_after call entry = record {
  kind = given_or call.kind entry.kind;
  unique = given_or call.unique entry.unique;
  first = begin_after call entry;
  last = begin_after call entry + size_after call entry - 1;
  attributes = attributes_after call entry.attributes;
  name = given_or call.label entry.name;
}

-- ---- the table

-- the entry stands in the usable sectors, shares no sector with another used one, and has a unique GUID of its own
abbrev pub placed : PartitionTable → (k : ℕ) → (begin size : ℕ) → Entry → Result PartitionTable CgptFault
placed table k begin size entry =
    if not (is_inside table.first_usable table.last_usable begin size) then Err fault.Outside
    else if not (is_free table.entries k entry.first entry.last) then Err fault.Overlap
    else if not (is_unique table.entries k entry.unique) then Err fault.DuplicateUnique
    else Ok (table_with_entry table k entry)

abbrev pub placed_after : CgptCall → PartitionTable → (k : ℕ) → Entry → Result PartitionTable CgptFault
placed_after call table k entry = placed table k (begin_after call entry) (size_after call entry) (entry_after call entry)

-- what an unused entry needs
abbrev pub is_complete : CgptCall → Bool
is_complete call = is_some call.begin && is_some call.size && is_some call.kind

abbrev pub entered : CgptCall → PartitionTable → (k : ℕ) → (guid : List ℕ) → Result PartitionTable CgptFault
entered call table k guid =
    if not (is_used table.entries k) && not (is_complete call) then Err fault.BadValue
    else placed_after call table k (entry_before table.entries k guid)

-- the bytes of a used entry become 0, where its index is given
abbrev pub erased : CgptCall → PartitionTable → (k : ℕ) → Result PartitionTable CgptFault
erased call table k =
    if not (is_some call.index) then Err fault.BadValue
    else if is_used table.entries k then Ok (table_with_entry table k unused_entry)
    else Err fault.NoEntry

-- the type of an unused entry is given
abbrev pub is_erasing : CgptCall → Bool
is_erasing call = option_map_or (λ kind. pointwise nat_eq kind (replicate 16 0)) call.kind false

abbrev pub added_at : CgptCall → PartitionTable → (guid : List ℕ) → Option ℕ → Result PartitionTable CgptFault
added_at call table guid (Some k) = if is_erasing call then erased call table k else entered call table k guid
added_at call table guid None = Err fault.NoFreeEntry

abbrev pub added : CgptCall → (guid : List ℕ) → PartitionTable → Result PartitionTable CgptFault
added call guid table =
    if is_in_range call then added_at call table guid (entry_asked call.index table.entries) else Err fault.BadValue

-- ---- a change of a room

-- the table of a room after a change, or why there is none
abbrev pub table_after : Result Unit CgptFault → PartitionTable → Result PartitionTable CgptFault
table_after (Ok done) table = Ok table
table_after (Err why) table = Err why

-- The table of a room becomes this one, or it is refused.
pub record Edits (planned : Result PartitionTable CgptFault) (old new : RoomView) (result : Result Unit CgptFault) : Type 0 where
  pub table : table_after result new.table ≡ planned
  pub rest : new ≡ record old { table = new.table }
  -- no device is called
  pub no_device : is_device result ≡ false
  pub no_write : is_write result ≡ false
