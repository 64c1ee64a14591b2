-- What a header says of the table, beside its entries.
use Rattle.std.specs.Prelude.{ℕ, List, Option, Some, None}
use Rattle.wire_core.specs.Fields.{number_at}
use Rattle.board_core.specs.Flash.{range}
use Rattle.gpt_core.specs.declared.header.Head.{Head}
use Rattle.gpt_core.specs.Format.{PartitionTable}

abbrev pub head_in : List ℕ → Head
head_in header = record { guid = range header 56 16; first = number_at 8 header 40; last = number_at 8 header 48 }

-- the table of this and of these entries
abbrev pub table_with : Head → List ℕ → PartitionTable
table_with head entries = record { guid = head.guid; first_usable = head.first; last_usable = head.last; entries = entries }

-- and none, where there is no head
abbrev pub with_entries : Option Head → List ℕ → Option PartitionTable
with_entries (Some head) entries = Some (table_with head entries)
with_entries None entries = None
