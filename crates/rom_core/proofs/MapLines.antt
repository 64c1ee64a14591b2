-- What the map table finds in a flash at which a map stands.
use Rattle.std.proofs.Common.{◌≡◌, ℕ, ◌+◌, ◌*◌, ◌/◌, ◌%◌, ◌≤◌, true, false, List, IsTrue, Result, Ok, length, Option, Some, None, IfOk, IfErr, OnOk, refl, ap, sym, subst, ◌∙◌, arith}
use Rattle.std.proofs.lemmas.Bool.{eq-eqb, le-ltb}
use Rattle.wire_core.specs.FirstFault.{first_fault}
use Rattle.board_core.specs.declared.device.Failed.{Failed}
use Rattle.board_core.specs.Counters.{Observed}
use Rattle.board_core.specs.Flash.{FlashMedium, FlashState, range, Reads}
use Rattle.board_core.proofs.Stops.{observed_then}
use Rattle.rom_core.specs.declared.map.Map.{Map}
use Rattle.rom_core.specs.declared.fault.MapFault.{MapFault}
use Rattle.rom_core.specs.Map.{count_of, head_at, is_map_at, Row, rows_in, areas_in, StandingMap, area_lines, MapQuestion, standing_map, map_lines}
use Rattle.rom_core.specs.MapFits.{FitsFlash, IsApart}
use Rattle.rom_core.specs.Reading.{map_question, map_of_rows, ReadsAreas, ReadsMap}

-- only the lines of its areas are left
map_lines-standing : (asked : MapQuestion) → asked.size % 4096 ≡ 0 → asked.size ≤ 33554432 → is_map_at asked.size asked.bytes asked.at ≡ true → first_fault map_lines asked ≡ first_fault area_lines (standing_map asked)
map_lines-standing asked pages small stands = rw (eq-eqb _ _ pages, le-ltb _ _ small, stands) refl

-- The head of a map was read, and then its rows, which are as many as the head says.
pub reads_map : (at count : ℕ) (old mid new : FlashState) (result : Result (Result Map MapFault) Failed) → Observed old.counters mid.counters false → mid.medium ≡ old.medium
    → old.medium.size % 4096 ≡ 0 → old.medium.size ≤ 33554432 → (IsTrue old.medium.told → is_map_at old.medium.size old.medium.bytes at ≡ true) → (IsTrue old.medium.told → count ≡ count_of (head_at old.medium.bytes at))
    → ReadsAreas at count mid new result → ReadsMap at old new result
reads_map at count old mid new result counters medium pages small stands counted reads =
    let told_mid : IsTrue old.medium.told → IsTrue mid.medium.told = subst (λ (m : FlashMedium). IsTrue m.told) (sym medium) in
    let same : IsTrue old.medium.told → map_of_rows at count mid.medium ≡ standing_map (map_question at old.medium) = λ told.
    ap (map_of_rows at count) medium ∙ ap (λ (n : ℕ). map_of_rows at n old.medium) (counted told) in
    let lines : IsTrue old.medium.told → first_fault area_lines (map_of_rows at count mid.medium) ≡ first_fault map_lines (map_question at old.medium) = λ told.
    ap (first_fault area_lines) (same told) ∙ sym (map_lines-standing (map_question at old.medium) pages small (stands told)) in
    record {
      counters = observed_then _ _ _ _ counters reads.counters;
      medium = reads.medium ∙ medium;
      fault = λ told. subst (λ (first : Option MapFault). IfOk result (λ answer. IfErr answer (λ (fault : MapFault). first ≡ Some fault))) (lines told) (reads.fault (told_mid told));
      none = λ told. subst (λ (first : Option MapFault). IfOk result (λ answer. OnOk answer (first ≡ None))) (lines told) (reads.none (told_mid told));
      areas = λ told. subst (λ (standing : StandingMap). IfOk result (λ answer. IfOk answer (λ (map : Map). areas_in standing.rows ≡ Some map))) (same told) (reads.areas (told_mid told));
      fits = subst (λ (m : FlashMedium). IfOk result (λ answer. IfOk answer (FitsFlash m.size))) medium reads.fits;
      apart = λ told. subst (λ (n : ℕ). IfOk result (λ answer. IfOk answer (IsApart at n))) (counted told) reads.apart;
    }

-- The rows were read, and their areas are checked.
pub reads_areas : (at count size : ℕ) (old new : FlashState) (rows : List ℕ) (checked : Result Map MapFault) → size ≡ old.medium.size → length rows ≡ 42 * count
    → Reads {E = Failed} (at + 56) rows old new (Ok tt) → IfErr checked (λ (fault : MapFault). first_fault area_lines (record { size = size; at = at; rows = rows_in (length rows / 42) rows }) ≡ Some fault)
    → OnOk checked (first_fault area_lines (record { size = size; at = at; rows = rows_in (length rows / 42) rows }) ≡ None) → IfOk checked (λ (map : Map). areas_in (rows_in (length rows / 42) rows) ≡ Some map)
    → IfOk checked (FitsFlash size) → IfOk checked (IsApart at (length rows / 42)) → ReadsAreas at count old new (Ok checked)
reads_areas at count size old new rows checked sized long read fault none areas fits apart =
    let number : length rows / 42 ≡ count = omega (arith, long) in
    let same : IsTrue old.medium.told → rows_in (length rows / 42) rows ≡ (map_of_rows at count old.medium).rows = λ told.
    ap (λ (n : ℕ). rows_in n rows) number ∙ ap (rows_in count) (read.filled told ∙ ap (range old.medium.bytes (at + 56)) long) in
    let standing : IsTrue old.medium.told → record { size = size; at = at; rows = rows_in (length rows / 42) rows } ≡ map_of_rows at count old.medium = λ told.
    ap (λ (n : ℕ). record { size = n; at = at; rows = rows_in (length rows / 42) rows }) sized ∙ ap (λ (rows : List Row). record { size = old.medium.size; at = at; rows = rows }) (same told) in
    record {
      counters = read.counters;
      medium = read.medium;
      fault = λ told. subst (λ (standing : StandingMap). IfErr checked (λ (fault : MapFault). first_fault area_lines standing ≡ Some fault)) (standing told) fault;
      none = λ told. subst (λ (standing : StandingMap). OnOk checked (first_fault area_lines standing ≡ None)) (standing told) none;
      areas = λ told. subst (λ (rows : List Row). IfOk checked (λ (map : Map). areas_in rows ≡ Some map)) (same told) areas;
      fits = subst (λ (n : ℕ). IfOk checked (FitsFlash n)) sized fits;
      apart = subst (λ (n : ℕ). IfOk checked (IsApart at n)) number apart;
    }
