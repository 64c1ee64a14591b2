-- What the text of a hook file is made of: the members of a row as toml's data.
use Rattle.std.specs.Prelude.{◌≡◌, ◌≤◌, ℕ, ◌*◌, List, map, length, Some, Ok}
use Rattle.std.specs.Ordering.{nat_cmp, match_ordering}
use Rattle.std.specs.Cmp.Lexicographic.{slice_cmp}
use Rattle.hex.specs.Hex.{decode_of}
use Rattle.toml.specs.Data.{Data, string, table, Members, no_members, member, depth, items_depth}
use Rattle.toml.specs.View.{items_of}
use Rattle.board_core.specs.declared.hook_row.HookRow.{HookRow}
use Rattle.board_file.specs.HookFile.{ToldRow, told, row_of}

-- the members, in the order of their keys, with this value at a key
abbrev pub set_member : Members → List ℕ → Data → Members
set_member no_members key value = member key value no_members
set_member (member first old rest) key value =
    match_ordering (slice_cmp nat_cmp key first) (member key value (member first old rest)) (member first value rest)
    (member first old (set_member rest key value))

-- The data is a string of digits that tell these bytes.
pub record TellsBytes (bytes : List ℕ) (value : Data) : Type 0 where
  pub digits : List ℕ
  pub is_string : value ≡ string digits
  pub tells : decode_of digits ≡ Ok bytes
  pub count : length digits ≡ 2 * length bytes

-- The data is an element of a hook file that tells this row.
pub record IsElementOf (row : ToldRow) (element : Data) : Type 0 where
  pub read : row_of element ≡ Some row
  -- a table whose members are neither tables nor arrays
  pub flat : depth element ≤ 1

abbrev pub AreMembersOf : ToldRow → Members → Type 0
AreMembersOf row members = IsElementOf row (table members)

-- The elements tell these rows, in this order.
pub record AreElementsOf (rows : List HookRow) (elements : List Data) : Type 0 where
  pub read : map row_of elements ≡ map Some (map told rows)
  pub flat : items_depth (items_of elements) ≤ 1
