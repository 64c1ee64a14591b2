-- What a command comes to: a function of the table that stands on the drive, of the call, and of the GUID that the call may use.
-- Source: the manual page cgpt(1) of ChromiumOS. The order of the refusals is this project's own.
use Rattle.std.specs.Prelude.{ℕ, ◌+◌, Bool, true, false, ◌&&◌, not, nat_eq, if◌then◌else◌, List, [], ◌++◌, codes, decimal, Option, Some, None, Result, Ok, Err}
use Rattle.std.specs.Cmp.Lexicographic.{pointwise}
use Rattle.std.specs.Option.{option_map_or}
use Rattle.gpt_core.specs.declared.entry.Entry.{Entry}
use Rattle.gpt_core.specs.Entries.{is_used, entry_in, all_below}
use Rattle.gpt_core.specs.Format.{PartitionTable, has_size}
use Rattle.gpt_core.specs.Room.{new_table}
use Rattle.gpt_core.specs.Tables.{says_same}
use Rattle.cgpt_core.specs.declared.call.CgptCall.{CgptCall}
use Rattle.cgpt_core.specs.declared.call.CgptCommand.{CgptCommand}
use Rattle.cgpt_core.specs.declared.call.CgptCommand.TheVariants as command
use Rattle.cgpt_core.specs.declared.fault.CgptFault.{CgptFault}
use Rattle.cgpt_core.specs.declared.fault.CgptFault.TheVariants as fault
use Rattle.cgpt_core.specs.declared.opening.Opened.{Opened}
use Rattle.cgpt_core.specs.Adding.{added}
use Rattle.cgpt_core.specs.Ranking.{prioritized}
use Rattle.cgpt_core.specs.Text.{lines_below, table_text}
use Rattle.text_core.specs.Shown.{line_end}

-- The table that stands on a drive: the copy from which it is taken, whether both copies agree, and what it says.
pub record Standing : Type 0 where
  pub opened : Opened
  pub table : PartitionTable

-- What a command comes to.
pub record Plan : Type 0 where
  -- its answer, where neither the drive nor the sink fails
  pub answer : Result Unit CgptFault
  -- the lines that it puts
  pub lines : List ℕ
  -- the table that it writes into both copies, or none where it writes nothing
  pub table : Option PartitionTable

-- ---- kinds of plans

-- nothing is put or written
abbrev pub refused : CgptFault → Plan
refused why = record { answer = Err why; lines = []; table = None }

-- this is put, and nothing is written
abbrev pub told : List ℕ → Plan
told lines = record { answer = Ok tt; lines = lines; table = None }

-- where no table stands, a command is refused that needs one
abbrev pub with_table : Option Standing → (Standing → Plan) → Plan
with_table (Some standing) plan = plan standing
with_table None plan = refused fault.NoTable

-- a table stands already: both copies agree and say it
abbrev pub stands_as : Option Standing → PartitionTable → Bool
stands_as (Some standing) table = standing.opened.agree && says_same table standing.table
stands_as None table = false

-- the table that a change makes is written, unless it stands already
abbrev pub changed : Option Standing → Result PartitionTable CgptFault → Plan
changed standing (Ok table) = record { answer = Ok tt; lines = []; table = if stands_as standing table then None else Some table }
changed standing (Err why) = refused why

-- the same for a change of the table that stands
abbrev pub edited : (PartitionTable → Result PartitionTable CgptFault) → Standing → Plan
edited change standing = changed (Some standing) (change standing.table)

-- ---- repair

abbrev pub repair_word : Bool → List ℕ
repair_word true = codes "agree"
repair_word false = codes "repaired"

-- the table is written where the copies do not agree
abbrev pub repaired : Standing → Plan
repaired standing = record {
  answer = Ok tt;
  lines = repair_word standing.opened.agree ++ line_end;
  table = if standing.opened.agree then None else Some standing.table;
}

-- ---- create

-- an empty table, where the drive has 69 to 4,294,967,296 sectors
abbrev pub created : (sectors : ℕ) → (guid : List ℕ) → Result PartitionTable CgptFault
created sectors guid = if has_size sectors then Ok (new_table sectors guid) else Err fault.DiskTooSmall

-- ---- find

-- what is given is equal
abbrev pub agrees_with : Option (List ℕ) → List ℕ → Bool
agrees_with wanted value = option_map_or (λ given. pointwise nat_eq given value) wanted true

-- an entry has all that is given
abbrev pub has_all : CgptCall → Entry → Bool
has_all call entry = agrees_with call.kind entry.kind && agrees_with call.unique entry.unique && agrees_with call.label entry.name

-- entry k is used and has all that is given
abbrev pub is_found : CgptCall → List ℕ → ℕ → Bool
is_found call entries k = is_used entries k && has_all call (entry_in entries k)

-- its index on a line
abbrev pub found_line : CgptCall → List ℕ → ℕ → List ℕ
found_line call entries k = if is_found call entries k then decimal (k + 1) ++ line_end else []

abbrev pub is_none_found : CgptCall → List ℕ → ℕ → Bool
is_none_found call entries count = all_below count (λ k. not (is_found call entries k))

abbrev pub found : CgptCall → Standing → Plan
found call standing =
    if is_none_found call standing.table.entries 128 then refused fault.NoEntry
    else told (lines_below 128 (found_line call standing.table.entries))

-- ---- all commands

-- the text of the table that stands
abbrev pub shown : CgptCall → (sectors : ℕ) → Standing → Plan
shown call sectors standing = told (table_text call.drive sectors standing.opened.side standing.opened.agree standing.table)

-- a command that changes the table that stands
abbrev pub is_editor : CgptCommand → Bool
is_editor command.Add = true
is_editor command.Prioritize = true
is_editor other = false

-- what it makes of that table
abbrev pub edit_by : CgptCommand → CgptCall → (guid : List ℕ) → PartitionTable → Result PartitionTable CgptFault
edit_by command.Add call guid table = added call guid table
edit_by command.Prioritize call guid table = prioritized call table
edit_by other call guid table = Ok table

abbrev pub plan_by : CgptCommand → (sectors : ℕ) → Option Standing → CgptCall → (guid : List ℕ) → Plan
plan_by command.Create sectors standing call guid = changed standing (created sectors guid)
plan_by command.Add sectors standing call guid = with_table standing (edited (edit_by command.Add call guid))
plan_by command.Prioritize sectors standing call guid = with_table standing (edited (edit_by command.Prioritize call guid))
plan_by command.Repair sectors standing call guid = with_table standing repaired
plan_by command.Show sectors standing call guid = with_table standing (shown call sectors)
plan_by command.Find sectors standing call guid = with_table standing (found call)

-- What a call comes to on a drive of so many sectors on which this table stands. The GUID is as a disk stores it.
abbrev pub plan_of : (sectors : ℕ) → Option Standing → CgptCall → (guid : List ℕ) → Plan
plan_of sectors standing call guid = plan_by call.command sectors standing call guid

-- a command that writes nothing, whatever stands
abbrev pub is_reader : CgptCommand → Bool
is_reader command.Show = true
is_reader command.Find = true
is_reader other = false
