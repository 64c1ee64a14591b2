-- The definition of a hook file against small texts.
use Rattle.std.proofs.Common.{◌≡◌, ℕ, List, [], ◌∷◌, ◌++◌, replicate, codes, refl}
use Rattle.std.specs.Prelude.{Ok, Err}
use Rattle.hex.proofs.OnLiterals.{hex_on_literals}
use Rattle.toml.proofs.OnLiterals.{toml_on_literals}
use Rattle.board_file.specs.HookFile.{integer_at, string_at, bytes_of, row_of_members, row_of, elements_of, rows_of, hook_of, hook_file}

no_text : hook_file [] ≡ Ok []
unfolding toml_on_literals hook_file hook_of elements_of rows_of
no_text = refl

no_rows : hook_file (codes "row = []") ≡ Ok []
unfolding toml_on_literals hook_file hook_of elements_of rows_of
no_rows = refl

no_array : hook_file (codes "row = 1") ≡ Err 0
unfolding toml_on_literals hook_file hook_of elements_of rows_of
no_array = refl

other_key : hook_file (codes "rows = []") ≡ Err 0
unfolding toml_on_literals hook_file hook_of elements_of rows_of
other_key = refl

no_table : hook_file (codes "row = [1]") ≡ Err 1
unfolding toml_on_literals hook_file hook_of elements_of rows_of row_of
no_table = refl

-- a text of 64 digits, which tells 32 bytes
zeros : List ℕ
zeros = replicate 64 48

-- a row of zeros, whose key has so many digits
one_row : ℕ → List ℕ
one_row count = codes "[[row]]\nalgorithm=9\nkey='" ++ replicate count 48 ++ codes "'\ndigest='" ++ zeros ++ codes "'\nsignature='" ++ zeros ++ codes "'\n"

told_row : hook_file (one_row 64) ≡ Ok (record { algorithm = 9; key = replicate 32 0; digest = replicate 32 0; signature = replicate 32 0 } ∷ [])
unfolding toml_on_literals hex_on_literals integer_at string_at bytes_of row_of_members row_of elements_of rows_of hook_of hook_file zeros one_row
told_row = refl

bad_key : hook_file (one_row 64 ++ one_row 63) ≡ Err 2
unfolding toml_on_literals hex_on_literals integer_at string_at bytes_of row_of_members row_of elements_of rows_of hook_of hook_file zeros one_row
bad_key = refl
