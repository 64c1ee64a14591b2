-- Ranges of bytes over which other ranges, or the records of whole sectors, were put.
use Rattle.std.proofs.Common.{◌≡◌, ℕ, ◌+◌, ◌-◌, ◌<◌, ◌≤◌, ◌⊎◌, inl, inr, List, [], ◌∷◌, length, get_or, take, drop, refl, sym, ap, ◌∙◌, arith, length-take, length-drop}
use Rattle.std.proofs.lemmas.List.{take-take, drop-take, drop-drop, ext_get_or, get_or-take, get_or-drop}
use Rattle.std.proofs.lemmas.List.Elements.{All-head, All-tail}
use Rattle.std.proofs.lemmas.Bool.{cases_lt}
use Rattle.std.specs.Prelude.{All}
use Rattle.board_core.specs.declared.torn.Torn.{Torn}
use Rattle.board_core.specs.Flash.{range, spliced}
use Rattle.board_core.specs.Disk.{overlaid, IsSectorOf}
use Rattle.board_core.proofs.Overlays.{length-spliced, spliced_inside, spliced_before, spliced_after, length-left_of, length-one}

-- ---- ranges and places

pub length-range : (bytes : List ℕ) (at n : ℕ) → at + n ≤ length bytes → length (range bytes at n) ≡ n
length-range bytes at n inside = omega (arith, length-take n (drop at bytes), length-drop at bytes)

-- a range of a range
pub range-range : (bytes : List ℕ) (at size from count : ℕ) → from + count ≤ size → range (range bytes at size) from count ≡ range bytes (at + from) count
range-range bytes at size from count within =
    let split : size ≡ from + (size - from) = omega arith in
    ap (λ (m : ℕ). take count (drop from (take m (drop at bytes)))) split
    ∙ ap (take count) (drop-take from (size - from) (drop at bytes))
    ∙ take-take count (size - from) (drop from (drop at bytes)) (omega arith)
    ∙ ap (take count) (drop-drop from at bytes)

get-range : (bytes : List ℕ) (at n i : ℕ) → i < n → get_or (range bytes at n) i 0 ≡ get_or bytes (at + i) 0
get-range bytes at n i lt = get_or-take n (drop at bytes) i 0 lt ∙ get_or-drop at bytes i 0

-- two ranges are the same where each place holds the same
pub range_from-places : (bytes other : List ℕ) (at n : ℕ) → at + n ≤ length bytes → at + n ≤ length other → ((i : ℕ) → at ≤ i → i < at + n → get_or bytes i 0 ≡ get_or other i 0) → range bytes at n ≡ range other at n
range_from-places bytes other at n inside inside' same =
    ext_get_or 0 (range bytes at n) (range other at n) (length-range bytes at n inside ∙ sym (length-range other at n inside'))
    (λ i lt.
    let within : i < n = omega (arith, length-range bytes at n inside) in
    get-range bytes at n i within ∙ same (at + i) (omega arith) (omega arith) ∙ sym (get-range other at n i within))

-- and each place of two ranges that are the same holds the same
pub places_from-range : (bytes other : List ℕ) (at n i : ℕ) → range bytes at n ≡ range other at n → at ≤ i → i < at + n → get_or bytes i 0 ≡ get_or other i 0
places_from-range bytes other at n i same from to =
    let place : at + (i - at) ≡ i = omega arith in
    let within : i - at < n = omega arith in
    ap (λ (k : ℕ). get_or bytes k 0) (sym place) ∙ sym (get-range bytes at n (i - at) within) ∙ ap (λ (l : List ℕ). get_or l (i - at) 0) same
    ∙ get-range other at n (i - at) within ∙ ap (λ (k : ℕ). get_or other k 0) place

-- a place before a range of n bytes, in it or after it
data Place (at n i : ℕ) : Type 0 where
  before : i < at → Place at n i
  in_it : at ≤ i → i < at + n → Place at n i
  after : at + n ≤ i → Place at n i

place : (at n i : ℕ) → Place at n i
place at n i = elim (cases_lt i at) as (λ _. Place at n i) [
  | inl lt ↦ before lt
  | inr le ↦ elim (cases_lt i (at + n)) as (λ _. Place at n i) [ inl lt ↦ in_it le lt | inr past ↦ after past ]
]

-- ---- one range put over

-- a range that does not meet the one that was put over stays
pub range-spliced_apart : (bytes : List ℕ) (at : ℕ) (new : List ℕ) (lo n : ℕ) → at + length new ≤ length bytes → lo + n ≤ length bytes → (at + length new ≤ lo) ⊎ (lo + n ≤ at) → range (spliced bytes at new) lo n ≡ range bytes lo n
range-spliced_apart bytes at new lo n inside within (inl past) =
    range_from-places (spliced bytes at new) bytes lo n (omega (arith, length-spliced bytes at new inside)) within (λ i from to. spliced_after bytes at new i inside (omega arith))
range-spliced_apart bytes at new lo n inside within (inr short) =
    range_from-places (spliced bytes at new) bytes lo n (omega (arith, length-spliced bytes at new inside)) within (λ i from to. spliced_before bytes at new i inside (omega arith))

-- the range that was put over stands
pub range-spliced_same : (bytes : List ℕ) (at : ℕ) (new : List ℕ) → at + length new ≤ length bytes → range (spliced bytes at new) at (length new) ≡ new
range-spliced_same bytes at new inside =
    let fits : length (range (spliced bytes at new) at (length new)) ≡ length new = length-range (spliced bytes at new) at (length new) (omega (arith, length-spliced bytes at new inside)) in
    ext_get_or 0 (range (spliced bytes at new) at (length new)) new fits
    (λ i lt.
    let short : i < length new = omega arith in
    let back : at + i - at ≡ i = omega arith in
    get-range (spliced bytes at new) at (length new) i short ∙ spliced_inside bytes at new (at + i) inside (omega arith) (omega arith) ∙ ap (λ (k : ℕ). get_or new k 0) back)

-- two lists that are the same in a range are so after one range was put over both
pub range-spliced_agree : (bytes other : List ℕ) (at : ℕ) (new : List ℕ) (lo n : ℕ) → at + length new ≤ length bytes → at + length new ≤ length other → lo + n ≤ length bytes → lo + n ≤ length other
    → range bytes lo n ≡ range other lo n → range (spliced bytes at new) lo n ≡ range (spliced other at new) lo n
range-spliced_agree bytes other at new lo n inside inside' within within' same =
    range_from-places (spliced bytes at new) (spliced other at new) lo n (omega (arith, length-spliced bytes at new inside)) (omega (arith, length-spliced other at new inside'))
    (λ i from to. elim (place at (length new) i) as (λ _. get_or (spliced bytes at new) i 0 ≡ get_or (spliced other at new) i 0) [
      | before lt ↦ spliced_before bytes at new i inside lt ∙ places_from-range bytes other lo n i same from to ∙ sym (spliced_before other at new i inside' lt)
      | in_it ge lt ↦ spliced_inside bytes at new i inside ge lt ∙ sym (spliced_inside other at new i inside' ge lt)
      | after past ↦ spliced_after bytes at new i inside past ∙ places_from-range bytes other lo n i same from to ∙ sym (spliced_after other at new i inside' past)
    ])

swap_low : (bytes : List ℕ) (p : ℕ) (x : List ℕ) (q : ℕ) (y : List ℕ) → p + length x ≤ q → q + length y ≤ length bytes → spliced (spliced bytes p x) q y ≡ spliced (spliced bytes q y) p x
swap_low bytes p x q y apart inside =
    let in_x : p + length x ≤ length bytes = omega arith in
    let one = spliced bytes p x in
    let two = spliced bytes q y in
    let in_y' : q + length y ≤ length one = omega (arith, length-spliced bytes p x in_x) in
    let in_x' : p + length x ≤ length two = omega (arith, length-spliced bytes q y inside) in
    ext_get_or 0 (spliced one q y) (spliced two p x)
    (length-spliced one q y in_y' ∙ length-spliced bytes p x in_x ∙ sym (length-spliced two p x in_x' ∙ length-spliced bytes q y inside))
    (λ i lt. elim (place p (length x) i) as (λ _. get_or (spliced one q y) i 0 ≡ get_or (spliced two p x) i 0) [
      | before b ↦ spliced_before one q y i in_y' (omega arith) ∙ spliced_before bytes p x i in_x b ∙ sym (spliced_before two p x i in_x' b ∙ spliced_before bytes q y i inside (omega arith))
      | in_it from to ↦ spliced_before one q y i in_y' (omega arith) ∙ spliced_inside bytes p x i in_x from to ∙ sym (spliced_inside two p x i in_x' from to)
      | after past ↦ elim (place q (length y) i) as (λ _. get_or (spliced one q y) i 0 ≡ get_or (spliced two p x) i 0) [
        | before b ↦ spliced_before one q y i in_y' b ∙ spliced_after bytes p x i in_x past ∙ sym (spliced_after two p x i in_x' past ∙ spliced_before bytes q y i inside b)
        | in_it from to ↦ spliced_inside one q y i in_y' from to ∙ sym (spliced_after two p x i in_x' past ∙ spliced_inside bytes q y i inside from to)
        | after behind ↦ spliced_after one q y i in_y' behind ∙ spliced_after bytes p x i in_x past ∙ sym (spliced_after two p x i in_x' past ∙ spliced_after bytes q y i inside behind)
      ]
    ])

-- two ranges that do not meet may be put over in either order
pub spliced_swap : (bytes : List ℕ) (p : ℕ) (x : List ℕ) (q : ℕ) (y : List ℕ) → p + length x ≤ length bytes → q + length y ≤ length bytes → (p + length x ≤ q) ⊎ (q + length y ≤ p) → spliced (spliced bytes p x) q y ≡ spliced (spliced bytes q y) p x
spliced_swap bytes p x q y in_x in_y (inl apart) = swap_low bytes p x q y apart in_y
spliced_swap bytes p x q y in_x in_y (inr apart) = sym (swap_low bytes q y p x apart in_x)

-- ---- records put over

-- a record of a sector that does not meet a range
abbrev pub IsApart : ℕ → ℕ → Torn → Type 0
IsApart lo n torn = (torn.at + 512 ≤ lo) ⊎ (lo + n ≤ torn.at)

apart_left : (at lo n count : ℕ) → count ≡ 512 → (at + 512 ≤ lo) ⊎ (lo + n ≤ at) → (at + count ≤ lo) ⊎ (lo + n ≤ at)
apart_left at lo n count fits (inl past) = inl (omega arith)
apart_left at lo n count fits (inr short) = inr short

-- records change no range that they do not meet
pub range-overlaid_apart : (size : ℕ) (bytes : List ℕ) (records : List Torn) (lo n : ℕ) → length bytes ≡ size → lo + n ≤ size → All (IsSectorOf size) records → All (IsApart lo n) records → range (overlaid bytes records) lo n ≡ range bytes lo n
range-overlaid_apart size bytes [] lo n whole within sectors apart = refl
range-overlaid_apart size bytes (torn ∷ rest) lo n whole within sectors apart =
    let sector = All-head (IsSectorOf size) torn rest sectors in
    let new = take torn.len torn.left in
    let fits : length new ≡ 512 = length-left_of size torn sector in
    range-overlaid_apart size (spliced bytes torn.at new) rest lo n (length-one size bytes torn whole sector) within (All-tail (IsSectorOf size) torn rest sectors) (All-tail (IsApart lo n) torn rest apart)
    ∙ range-spliced_apart bytes torn.at new lo n (omega (arith, sector.inside)) (omega arith) (apart_left torn.at lo n (length new) fits (All-head (IsApart lo n) torn rest apart))

-- two lists that are the same in a range are so after the same records were put over both
pub range-overlaid_agree : (size : ℕ) (bytes other : List ℕ) (records : List Torn) (lo n : ℕ) → length bytes ≡ size → length other ≡ size → lo + n ≤ size → All (IsSectorOf size) records
    → range bytes lo n ≡ range other lo n → range (overlaid bytes records) lo n ≡ range (overlaid other records) lo n
range-overlaid_agree size bytes other [] lo n whole whole' within sectors same = same
range-overlaid_agree size bytes other (torn ∷ rest) lo n whole whole' within sectors same =
    let sector = All-head (IsSectorOf size) torn rest sectors in
    let new = take torn.len torn.left in
    let fits : length new ≡ 512 = length-left_of size torn sector in
    range-overlaid_agree size (spliced bytes torn.at new) (spliced other torn.at new) rest lo n (length-one size bytes torn whole sector) (length-one size other torn whole' sector) within
    (All-tail (IsSectorOf size) torn rest sectors)
    (range-spliced_agree bytes other torn.at new lo n (omega (arith, sector.inside)) (omega (arith, sector.inside)) (omega arith) (omega arith) same)
