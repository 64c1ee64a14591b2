-- What the text of a hook file stands for: a list of rows, or the number of what is refused. The table that a TOML text is
-- is toml's `parse_document`, and the bytes that hexadecimal digits are is hex's `decode_of`.
use Rattle.std.specs.Prelude.{ℕ, ◌+◌, ◌==◌, ◌||◌, nat_le, ℤ, pos, negsuc, if◌then◌else◌, codes, Bool, List, [], ◌∷◌, length, take, position, Option, Some, None, is_none, option_and_then, Result, Ok, Err}
use Rattle.std.specs.List.{filter_map}
use Rattle.std.specs.Option.{option_map_or}
use Rattle.std.specs.Result.{result_ok}
use Rattle.hex.specs.Hex.{decode_of}
use Rattle.toml.specs.Data.{Data, as_integer, as_str, as_array, as_table, Items, no_items, item, Members, no_members, member, get_member}
use Rattle.toml.specs.Parse.{parse_document}
use Rattle.board_core.specs.declared.hook_row.HookRow.{HookRow}

-- An accepted signature as a text tells it.
pub record ToldRow : Type 0 where
  -- the number of the signature algorithm
  pub algorithm : ℕ
  -- the SHA-256 of the key
  pub key : List ℕ
  -- the message's digest, in 32 or 64 bytes
  pub digest : List ℕ
  -- the SHA-256 of the signature
  pub signature : List ℕ

-- What a row of a hook tells. The zeros after the digest are left out: each row of a hook keeps how many there are, so that no
-- other row tells the same.
abbrev pub told : HookRow → ToldRow
told row = record {
  algorithm = row.algorithm;
  key = row.key;
  digest = take row.digest_len row.digest;
  signature = row.signature;
}

infixl 10 ◌>>=◌
abbrev ◌>>=◌ : {A B : Type 0} → Option A → (A → Option B) → Option B
o >>= f = option_and_then f o

abbrev pub members_count : Members → ℕ
members_count no_members = 0
members_count (member key value rest) = 1 + members_count rest

abbrev pub items_list : Items → List Data
items_list no_items = []
items_list (item value rest) = value ∷ items_list rest

-- the number of an algorithm, 0 to 17
abbrev pub algorithm_of : ℤ → Option ℕ
algorithm_of (pos number) = if nat_le number 17 then Some number else None
algorithm_of (negsuc less) = None

-- a count of digits that tell 32 bytes
abbrev pub is_short : ℕ → Bool
is_short count = count == 64

-- a count of digits that tell 32 bytes or 64
abbrev pub is_short_or_long : ℕ → Bool
is_short_or_long count = count == 64 || count == 128

-- the bytes that hexadecimal digits tell, if their count is allowed
unfoldable pub bytes_of : (ℕ → Bool) → List ℕ → Option (List ℕ)
bytes_of is_count digits = if is_count (length digits) then result_ok (decode_of digits) else None

-- the integer, and the string, at a key
unfoldable pub integer_at : List ℕ → Members → Option ℤ
integer_at key members = get_member key members >>= as_integer

unfoldable pub string_at : List ℕ → Members → Option (List ℕ)
string_at key members = get_member key members >>= as_str

-- the row of a table that has these members
unfoldable pub row_of_members : Members → Option ToldRow
row_of_members members = do
  algorithm ← integer_at (codes "algorithm") members >>= algorithm_of
  key ← string_at (codes "key") members >>= bytes_of is_short
  digest ← string_at (codes "digest") members >>= bytes_of is_short_or_long
  signature ← string_at (codes "signature") members >>= bytes_of is_short
  Some (record { algorithm = algorithm; key = key; digest = digest; signature = signature })

-- the row of an element: a table that has these four members and no fifth
unfoldable pub row_of : Data → Option ToldRow
row_of element = as_table element >>= (λ members. if members_count members == 4 then row_of_members members else None)

-- the elements of an array, if they are at most 4,096
abbrev pub few_of : Items → Option (List Data)
few_of items = if nat_le (length (items_list items)) 4096 then Some (items_list items) else None

-- the elements of a document that has no member, or the one member `row`, an array of at most 4,096 elements
unfoldable pub elements_of : Members → Option (List Data)
elements_of members =
    if members_count members == 0 then Some []
    else if members_count members == 1 then get_member (codes "row") members >>= as_array >>= few_of
    else None

abbrev pub is_refused : Data → Bool
is_refused element = is_none (row_of element)

-- the rows of the elements, where each of them is a row; else the number of the first that is none, from 1
unfoldable pub rows_of : List Data → Result (List ToldRow) ℕ
rows_of elements = option_map_or (λ place. Err (place + 1)) (position is_refused elements) (Ok (filter_map row_of elements))

-- what a document stands for: its rows, or the number of the first element that is no row, or 0 where it has no such elements
unfoldable pub hook_of : Members → Result (List ToldRow) ℕ
hook_of members = option_map_or rows_of (elements_of members) (Err 0)

-- what a text stands for: what its document does, or 0 where it is no TOML
unfoldable pub hook_file : List ℕ → Result (List ToldRow) ℕ
hook_file text = option_map_or hook_of (parse_document text) (Err 0)
