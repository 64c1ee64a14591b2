-- The rows of a map, one after the other.
use Rattle.std.proofs.Common.{◌≡◌, ℕ, suc, ◌-◌, ◌/◌, ◌≤◌, ◌<◌, true, false, cond, List, [], ◌∷◌, length, take, drop, ap, arith}
use Rattle.std.specs.Prelude.{Some, option_map, find, bytes_eq}
use Rattle.std.proofs.lemmas.List.{length-drop}
use Rattle.rom_core.specs.Map.{Row, row_of, rows_in, area_named}

pub rows_in-first : (bytes : List ℕ) → 42 ≤ length bytes → rows_in (length bytes / 42) bytes ≡ row_of (take 42 bytes) ∷ rows_in (length (drop 42 bytes) / 42) (drop 42 bytes)
unfolding rows_in
rows_in-first bytes long =
    let left : length (drop 42 bytes) ≡ length bytes - 42 = length-drop 42 bytes in
    let count : length bytes / 42 ≡ suc (length (drop 42 bytes) / 42) = omega (arith, left) in
    ap (λ (n : ℕ). rows_in n bytes) count

pub rows_in-none : (bytes : List ℕ) → length bytes < 42 → rows_in (length bytes / 42) bytes ≡ []
unfolding rows_in
rows_in-none bytes short =
    let none : length bytes / 42 ≡ 0 = omega arith in
    ap (λ (n : ℕ). rows_in n bytes) none

-- the first row has the name
pub area_named-here : (name : List ℕ) (row : Row) (rows : List Row) → bytes_eq row.name name ≡ true → area_named name (row ∷ rows) ≡ Some row.area
area_named-here name row rows is = ap (λ b. option_map (λ (row : Row). row.area) (cond b (Some row) (find (λ (row : Row). bytes_eq row.name name) rows))) is

-- it has not
pub area_named-later : (name : List ℕ) (row : Row) (rows : List Row) → bytes_eq row.name name ≡ false → area_named name (row ∷ rows) ≡ area_named name rows
area_named-later name row rows is = ap (λ b. option_map (λ (row : Row). row.area) (cond b (Some row) (find (λ (row : Row). bytes_eq row.name name) rows))) is
