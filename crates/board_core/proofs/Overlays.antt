-- The records of whole sectors, and the bytes that they leave, put one over another.
use Rattle.std.proofs.Common.{◌≡◌, ℕ, zero, suc, ◌+◌, ◌-◌, ◌*◌, ◌/◌, ◌%◌, ◌<◌, ◌≤◌, ◌⊎◌, min, inl, inr, List, [], ◌∷◌, ◌++◌, length, get_or, take, drop, replicate, refl, sym, ap, ◌∙◌, arith, append_assoc, length-append, length-take, length-drop}
use Rattle.std.proofs.lemmas.List.{take_at, drop_at, drop-drop, take-append-drop, ext_get_or, get_or_append_left, get_or-append_right, get_or-take, get_or-drop, length-replicate, append-nil}
use Rattle.std.proofs.lemmas.List.Elements.{All-nil, All-cons, All-head, All-tail, All-append}
use Rattle.std.proofs.lemmas.Bool.{cases_lt}
use Rattle.std.specs.Prelude.{All}
use Rattle.board_core.specs.declared.torn.Torn.{Torn}
use Rattle.board_core.specs.Torn.{torn_records, torn_pieces, torn_piece, padded_piece}
use Rattle.board_core.specs.Flash.{spliced}
use Rattle.board_core.specs.Disk.{overlaid, IsSectorOf, IsRecordOf, AreRecordsOf}

-- ---- one range put over

pub length-spliced : (bytes : List ℕ) (at : ℕ) (new : List ℕ) → at + length new ≤ length bytes → length (spliced bytes at new) ≡ length bytes
length-spliced bytes at new inside = omega (arith, length-append (take at bytes ++ new) (drop (at + length new) bytes), length-append (take at bytes) new, length-take at bytes, length-drop (at + length new) bytes)

-- the bytes up to the end of the range
length-front : (bytes : List ℕ) (at : ℕ) (new : List ℕ) → at + length new ≤ length bytes → length (take at bytes ++ new) ≡ at + length new
length-front bytes at new inside = omega (arith, length-append (take at bytes) new, length-take at bytes)

pub spliced_inside : (bytes : List ℕ) (at : ℕ) (new : List ℕ) (i : ℕ) → at + length new ≤ length bytes → at ≤ i → i < at + length new → get_or (spliced bytes at new) i 0 ≡ get_or new (i - at) 0
spliced_inside bytes at new i inside from to =
    let front : length (take at bytes) ≡ at = omega (arith, length-take at bytes) in
    get_or_append_left (take at bytes ++ new) (drop (at + length new) bytes) 0 i (omega (arith, length-front bytes at new inside))
    ∙ get_or-append_right (take at bytes) new at i 0 front from

pub spliced_before : (bytes : List ℕ) (at : ℕ) (new : List ℕ) (i : ℕ) → at + length new ≤ length bytes → i < at → get_or (spliced bytes at new) i 0 ≡ get_or bytes i 0
spliced_before bytes at new i inside before =
    get_or_append_left (take at bytes ++ new) (drop (at + length new) bytes) 0 i (omega (arith, length-front bytes at new inside))
    ∙ get_or_append_left (take at bytes) new 0 i (omega (arith, length-take at bytes)) ∙ get_or-take at bytes i 0 before

pub spliced_after : (bytes : List ℕ) (at : ℕ) (new : List ℕ) (i : ℕ) → at + length new ≤ length bytes → at + length new ≤ i → get_or (spliced bytes at new) i 0 ≡ get_or bytes i 0
spliced_after bytes at new i inside after =
    let place : at + length new + (i - (at + length new)) ≡ i = omega arith in
    get_or-append_right (take at bytes ++ new) (drop (at + length new) bytes) (at + length new) i 0 (length-front bytes at new inside) after
    ∙ get_or-drop (at + length new) bytes (i - (at + length new)) 0
    ∙ ap (λ (k : ℕ). get_or bytes k 0) place

-- one range after another
pub spliced_then : (bytes : List ℕ) (at : ℕ) (one two : List ℕ) → at + length one ≤ length bytes → spliced (spliced bytes at one) (at + length one) two ≡ spliced bytes at (one ++ two)
spliced_then bytes at one two inside =
    let front : length (take at bytes ++ one) ≡ at + length one = length-front bytes at one inside in
    let rest = drop (at + length one) bytes in
    let begins : take (at + length one) (spliced bytes at one) ≡ take at bytes ++ one = take_at (take at bytes ++ one) rest (at + length one) front in
    let ends : drop (at + length one) (spliced bytes at one) ≡ rest = drop_at (take at bytes ++ one) rest (at + length one) front in
    let place : at + length one + length two ≡ at + length (one ++ two) = omega (arith, length-append one two) in
    let tail : drop (at + length one + length two) (spliced bytes at one) ≡ drop (at + length (one ++ two)) bytes =
    sym (drop-drop (length two) (at + length one) (spliced bytes at one)) ∙ ap (drop (length two)) ends ∙ drop-drop (length two) (at + length one) bytes ∙ ap (λ (k : ℕ). drop k bytes) place in
    ap (λ (l : List ℕ). l ++ two ++ drop (at + length one + length two) (spliced bytes at one)) begins
    ∙ ap (λ (l : List ℕ). (take at bytes ++ one) ++ two ++ l) tail
    ∙ ap (λ (l : List ℕ). l ++ drop (at + length (one ++ two)) bytes) (append_assoc (take at bytes) one two)

-- ---- several records put over

-- what a record of a sector leaves has its length
pub length-left_of : (size : ℕ) (torn : Torn) → IsSectorOf size torn → length (take torn.len torn.left) ≡ 512
length-left_of size torn sector = omega (arith, length-take torn.len torn.left, sector.len, sector.left)

pub length-one : (size : ℕ) (bytes : List ℕ) (torn : Torn) → length bytes ≡ size → IsSectorOf size torn → length (spliced bytes torn.at (take torn.len torn.left)) ≡ size
length-one size bytes torn whole sector =
    length-spliced bytes torn.at (take torn.len torn.left) (omega (arith, length-left_of size torn sector, sector.inside)) ∙ whole

pub length-overlaid : (size : ℕ) (bytes : List ℕ) (records : List Torn) → length bytes ≡ size → All (IsSectorOf size) records → length (overlaid bytes records) ≡ size
length-overlaid size bytes [] whole sectors = whole
length-overlaid size bytes (torn ∷ rest) whole sectors =
    length-overlaid size (spliced bytes torn.at (take torn.len torn.left)) rest (length-one size bytes torn whole (All-head (IsSectorOf size) torn rest sectors)) (All-tail (IsSectorOf size) torn rest sectors)

pub overlaid-append : (bytes : List ℕ) (one two : List Torn) → overlaid bytes (one ++ two) ≡ overlaid (overlaid bytes one) two
overlaid-append bytes [] two = refl
overlaid-append bytes (torn ∷ rest) two = overlaid-append (spliced bytes torn.at (take torn.len torn.left)) rest two

-- a place in the sector of one of the records
abbrev Covers : List Torn → ℕ → Type 0
Covers [] i = ⊥
Covers (torn ∷ rest) i = ((torn.at ≤ i) × (i < torn.at + 512)) ⊎ Covers rest i

-- a place in the sector of a record, before it or after it
data Side (at i : ℕ) : Type 0 where
  before : i < at → Side at i
  within : at ≤ i → i < at + 512 → Side at i
  after : at + 512 ≤ i → Side at i

side : (at i : ℕ) → Side at i
side at i = elim (cases_lt i at) as (λ _. Side at i) [
  | inl lt ↦ before lt
  | inr le ↦ elim (cases_lt i (at + 512)) as (λ _. Side at i) [ inl lt ↦ within le lt | inr past ↦ after past ]
]

-- where a place is covered or holds the same before, it holds the same after the records were put over
get-one : (size : ℕ) (bytes other : List ℕ) (torn : Torn) (rest : List Torn) (i : ℕ) → length bytes ≡ size → length other ≡ size → IsSectorOf size torn
    → Covers (torn ∷ rest) i ⊎ (get_or bytes i 0 ≡ get_or other i 0) → Covers rest i ⊎ (get_or (spliced bytes torn.at (take torn.len torn.left)) i 0 ≡ get_or (spliced other torn.at (take torn.len torn.left)) i 0)
get-one size bytes other torn rest i whole whole' sector known =
    let new = take torn.len torn.left in
    let fits : length new ≡ 512 = length-left_of size torn sector in
    let inside : torn.at + length new ≤ length bytes = omega (arith, sector.inside) in
    let inside' : torn.at + length new ≤ length other = omega (arith, sector.inside) in
    elim (side torn.at i) as (λ _. Covers rest i ⊎ (get_or (spliced bytes torn.at new) i 0 ≡ get_or (spliced other torn.at new) i 0)) [
      | within from to ↦ inr (spliced_inside bytes torn.at new i inside from (omega arith) ∙ sym (spliced_inside other torn.at new i inside' from (omega arith)))
      | before lt ↦ elim known as (λ _. Covers rest i ⊎ (get_or (spliced bytes torn.at new) i 0 ≡ get_or (spliced other torn.at new) i 0)) [
        | inl covered ↦ elim covered as (λ _. Covers rest i ⊎ (get_or (spliced bytes torn.at new) i 0 ≡ get_or (spliced other torn.at new) i 0)) [
          | inl here ↦ absurd (let from = here.0 in omega arith)
          | inr later ↦ inl later
        ]
        | inr same ↦ inr (spliced_before bytes torn.at new i inside lt ∙ same ∙ sym (spliced_before other torn.at new i inside' lt))
      ]
      | after past ↦ elim known as (λ _. Covers rest i ⊎ (get_or (spliced bytes torn.at new) i 0 ≡ get_or (spliced other torn.at new) i 0)) [
        | inl covered ↦ elim covered as (λ _. Covers rest i ⊎ (get_or (spliced bytes torn.at new) i 0 ≡ get_or (spliced other torn.at new) i 0)) [
          | inl here ↦ absurd (let to = here.1 in omega arith)
          | inr later ↦ inl later
        ]
        | inr same ↦ inr (spliced_after bytes torn.at new i inside (omega arith) ∙ same ∙ sym (spliced_after other torn.at new i inside' (omega arith)))
      ]
    ]

uncovered : (i : ℕ) (P : Type 0) → Covers [] i ⊎ P → P
uncovered i P (inl covered) = absurd covered
uncovered i P (inr p) = p

-- two lists of bytes that differ only in the sectors of the records are the same once the records are put over
overlaid-agree : (size : ℕ) (bytes other : List ℕ) (records : List Torn) → length bytes ≡ size → length other ≡ size → All (IsSectorOf size) records
    → ((i : ℕ) → i < size → Covers records i ⊎ (get_or bytes i 0 ≡ get_or other i 0)) → overlaid bytes records ≡ overlaid other records
overlaid-agree size bytes other [] whole whole' sectors known =
    ext_get_or 0 bytes other (whole ∙ sym whole') (λ i lt. uncovered i (get_or bytes i 0 ≡ get_or other i 0) (known i (omega arith)))
overlaid-agree size bytes other (torn ∷ rest) whole whole' sectors known =
    let sector = All-head (IsSectorOf size) torn rest sectors in
    overlaid-agree size (spliced bytes torn.at (take torn.len torn.left)) (spliced other torn.at (take torn.len torn.left)) rest
    (length-one size bytes torn whole sector) (length-one size other torn whole' sector) (All-tail (IsSectorOf size) torn rest sectors)
    (λ i lt. get-one size bytes other torn rest i whole whole' sector (known i lt))

-- a place outside one sector holds what it held
get-past : (size : ℕ) (bytes : List ℕ) (torn : Torn) (rest : List Torn) (i : ℕ) (then : List ℕ) → length bytes ≡ size → IsSectorOf size torn
    → Covers rest i ⊎ (get_or (spliced bytes torn.at (take torn.len torn.left)) i 0 ≡ get_or then i 0) → Covers (torn ∷ rest) i ⊎ (get_or bytes i 0 ≡ get_or then i 0)
get-past size bytes torn rest i then whole sector (inl later) = inl (inr later)
get-past size bytes torn rest i then whole sector (inr same) =
    let new = take torn.len torn.left in
    let fits : length new ≡ 512 = length-left_of size torn sector in
    let inside : torn.at + length new ≤ length bytes = omega (arith, sector.inside) in
    elim (side torn.at i) as (λ _. Covers (torn ∷ rest) i ⊎ (get_or bytes i 0 ≡ get_or then i 0)) [
      | within from to ↦ inl (inl (from, to))
      | before lt ↦ inr (sym (spliced_before bytes torn.at new i inside lt) ∙ same)
      | after past ↦ inr (sym (spliced_after bytes torn.at new i inside (omega arith)) ∙ same)
    ]

-- records change bytes only in their sectors
overlaid-outside : (size : ℕ) (bytes : List ℕ) (records : List Torn) (i : ℕ) → length bytes ≡ size → All (IsSectorOf size) records → Covers records i ⊎ (get_or bytes i 0 ≡ get_or (overlaid bytes records) i 0)
overlaid-outside size bytes [] i whole sectors = inr refl
overlaid-outside size bytes (torn ∷ rest) i whole sectors =
    let sector = All-head (IsSectorOf size) torn rest sectors in
    let new = spliced bytes torn.at (take torn.len torn.left) in
    get-past size bytes torn rest i (overlaid new rest) whole sector (overlaid-outside size new rest i (length-one size bytes torn whole sector) (All-tail (IsSectorOf size) torn rest sectors))

-- the records of a failed change are in the sectors of its writes
covers-records : (writes records : List Torn) (i : ℕ) → AreRecordsOf writes records → Covers writes i → Covers records i
covers-records [] [] i noted covered = covered
covers-records (write ∷ writes) (torn ∷ rest) i noted (inl here) = let at = noted.0.at in let from = here.0 in let to = here.1 in inl (omega arith, omega arith)
covers-records (write ∷ writes) (torn ∷ rest) i noted (inr later) = inr (covers-records writes rest i noted.1 later)
covers-records [] (torn ∷ rest) i noted covered = absurd noted
covers-records (write ∷ writes) [] i noted covered = absurd noted

covers_or : (writes records : List Torn) (i : ℕ) (P : Type 0) → AreRecordsOf writes records → Covers writes i ⊎ P → Covers records i ⊎ P
covers_or writes records i P noted (inl covered) = inl (covers-records writes records i noted covered)
covers_or writes records i P noted (inr p) = inr p

sector_of-record : (size : ℕ) (write torn : Torn) → IsSectorOf size write → IsRecordOf write torn → IsSectorOf size torn
sector_of-record size write torn sector noted = record {
  len = noted.len ∙ sector.len;
  inside = omega (arith, noted.at, sector.inside);
  was = ap length noted.was ∙ sector.was;
  meant = ap length noted.meant ∙ sector.meant;
  left = noted.size ∙ sector.left;
}

-- the records of a failed change are those of sectors, where its writes are
pub sectors_of-records : (size : ℕ) (writes records : List Torn) → AreRecordsOf writes records → All (IsSectorOf size) writes → All (IsSectorOf size) records
sectors_of-records size [] [] noted sectors = sectors
sectors_of-records size (write ∷ writes) (torn ∷ rest) noted sectors =
    All-cons (IsSectorOf size) torn rest (sector_of-record size write torn (All-head (IsSectorOf size) write writes sectors) noted.0)
    (sectors_of-records size writes rest noted.1 (All-tail (IsSectorOf size) write writes sectors))
sectors_of-records size [] (torn ∷ rest) noted sectors = absurd noted
sectors_of-records size (write ∷ writes) [] noted sectors = absurd noted

-- writes do not matter where a failed change leaves any bytes in all their sectors
pub overlaid-again : (size : ℕ) (bytes : List ℕ) (writes records : List Torn) → length bytes ≡ size → All (IsSectorOf size) writes → AreRecordsOf writes records → overlaid (overlaid bytes writes) records ≡ overlaid bytes records
overlaid-again size bytes writes records whole sectors noted =
    sym (overlaid-agree size bytes (overlaid bytes writes) records whole (length-overlaid size bytes writes whole sectors) (sectors_of-records size writes records noted sectors)
    (λ i lt. covers_or writes records i (get_or bytes i 0 ≡ get_or (overlaid bytes writes) i 0) noted (overlaid-outside size bytes writes i whole sectors)))

covers-front : (front rest : List Torn) (i : ℕ) → Covers front i → Covers (front ++ rest) i
covers-front [] rest i covered = absurd covered
covers-front (torn ∷ front) rest i (inl here) = inl here
covers-front (torn ∷ front) rest i (inr later) = inr (covers-front front rest i later)

covers_or-front : (front rest : List Torn) (i : ℕ) (P : Type 0) → Covers front i ⊎ P → Covers (front ++ rest) i ⊎ P
covers_or-front front rest i P (inl covered) = inl (covers-front front rest i covered)
covers_or-front front rest i P (inr p) = inr p

-- the same, where a failed change leaves any bytes in more sectors too
pub overlaid-front : (size : ℕ) (bytes : List ℕ) (writes more records : List Torn) → length bytes ≡ size → All (IsSectorOf size) writes → All (IsSectorOf size) more → AreRecordsOf (writes ++ more) records
    → overlaid (overlaid bytes writes) records ≡ overlaid bytes records
overlaid-front size bytes writes more records whole sectors others noted =
    sym (overlaid-agree size bytes (overlaid bytes writes) records whole (length-overlaid size bytes writes whole sectors)
    (sectors_of-records size (writes ++ more) records noted (All-append (IsSectorOf size) writes more sectors others))
    (λ i lt. covers_or (writes ++ more) records i (get_or bytes i 0 ≡ get_or (overlaid bytes writes) i 0) noted
    (covers_or-front writes more i (get_or bytes i 0 ≡ get_or (overlaid bytes writes) i 0) (overlaid-outside size bytes writes i whole sectors))))

pub records_of-append : (one two records others : List Torn) → AreRecordsOf one records → AreRecordsOf two others → AreRecordsOf (one ++ two) (records ++ others)
records_of-append [] two [] others h k = k
records_of-append (write ∷ one) two (torn ∷ records) others h k = (h.0, records_of-append one two records others h.1 k)
records_of-append [] two (torn ∷ records) others h k = absurd h
records_of-append (write ∷ one) two [] others h k = absurd h

-- writes that stand as they were meant
pub records_of-same : (writes : List Torn) → AreRecordsOf writes writes
records_of-same [] = tt
records_of-same (write ∷ writes) = (record { at = refl; len = refl; was = refl; meant = refl; size = refl }, records_of-same writes)

-- ---- the records of a range of whole sectors

length-padded : (bytes : List ℕ) → length (padded_piece bytes) ≡ 512
length-padded bytes = omega (arith, length-append (take 512 bytes) (replicate (512 - length bytes) 0), length-take 512 bytes, length-replicate {A = ℕ} (512 - length bytes) 0)

pieces_sectors : (size count at : ℕ) (was meant left : List ℕ) → length meant ≡ count * 512 → at + length meant ≤ size → All (IsSectorOf size) (torn_pieces count at was meant left)
pieces_sectors size zero at was meant left whole inside = All-nil (IsSectorOf size)
pieces_sectors size (suc count) at was meant left whole inside =
    All-cons (IsSectorOf size) (torn_piece at was meant left) (torn_pieces count (at + 512) (drop 512 was) (drop 512 meant) (drop 512 left))
    (record { len = omega arith; inside = omega arith; was = length-padded was; meant = length-padded meant; left = length-padded left })
    (pieces_sectors size count (at + 512) (drop 512 was) (drop 512 meant) (drop 512 left) (omega (arith, length-drop 512 meant)) (omega (arith, length-drop 512 meant)))

-- each is a record of a whole sector
pub sectors_of-range : (size at : ℕ) (was meant left : List ℕ) → length meant % 512 ≡ 0 → at + length meant ≤ size → All (IsSectorOf size) (torn_records at was meant left)
unfolding torn_records
sectors_of-range size at was meant left whole inside = pieces_sectors size ((length meant + 511) / 512) at was meant left (omega arith) inside

length-pieces : (count at : ℕ) (was meant left : List ℕ) → length (torn_pieces count at was meant left) ≡ count
length-pieces zero at was meant left = refl
length-pieces (suc count) at was meant left = omega (arith, length-pieces count (at + 512) (drop 512 was) (drop 512 meant) (drop 512 left))

-- there is one for each sector
pub length-torn_records : (at : ℕ) (was meant left : List ℕ) → length meant % 512 ≡ 0 → length (torn_records at was meant left) ≡ length meant / 512
unfolding torn_records
length-torn_records at was meant left whole = length-pieces ((length meant + 511) / 512) at was meant left ∙ omega arith

pieces_left : (count at : ℕ) (was meant left other : List ℕ) → AreRecordsOf (torn_pieces count at was meant left) (torn_pieces count at was meant other)
pieces_left zero at was meant left other = tt
pieces_left (suc count) at was meant left other =
    (record { at = refl; len = refl; was = refl; meant = refl; size = length-padded other ∙ sym (length-padded left) }, pieces_left count (at + 512) (drop 512 was) (drop 512 meant) (drop 512 left) (drop 512 other))

-- any bytes may be left in the range
pub records_of-range : (at : ℕ) (was meant left other : List ℕ) → AreRecordsOf (torn_records at was meant left) (torn_records at was meant other)
unfolding torn_records
records_of-range at was meant left other = pieces_left ((length meant + 511) / 512) at was meant left other

overlaid-pieces : (count at : ℕ) (bytes was meant left : List ℕ) → length meant ≡ count * 512 → length left ≡ count * 512 → at + length left ≤ length bytes → overlaid bytes (torn_pieces count at was meant left) ≡ spliced bytes at left
overlaid-pieces zero at bytes was [] [] whole fits inside = let e : at + 0 ≡ at = omega arith in rw (e, append-nil (take at bytes)) (sym (take-append-drop at bytes))
overlaid-pieces zero at bytes was (m ∷ ms) left whole fits inside = absurd (omega arith)
overlaid-pieces zero at bytes was [] (l ∷ ls) whole fits inside = absurd (omega arith)
overlaid-pieces (suc count) at bytes was meant left whole fits inside =
    let piece = take (min (length meant) 512) (padded_piece left) in
    let front : take 512 left ≡ piece =
    sym (ap (λ (n : ℕ). take n (padded_piece left)) (let e : min (length meant) 512 ≡ 512 = omega arith in e)
    ∙ take_at (take 512 left) (replicate (512 - length left) 0) 512 (omega (arith, length-take 512 left))) in
    let long : length (take 512 left) ≡ 512 = omega (arith, length-take 512 left) in
    let room : at + length (take 512 left) ≤ length bytes = omega arith in
    let rest : length (drop 512 left) ≡ count * 512 = omega (arith, length-drop 512 left) in
    ap (λ (l : List ℕ). overlaid (spliced bytes at l) (torn_pieces count (at + 512) (drop 512 was) (drop 512 meant) (drop 512 left))) (sym front)
    ∙ overlaid-pieces count (at + 512) (spliced bytes at (take 512 left)) (drop 512 was) (drop 512 meant) (drop 512 left) (omega (arith, length-drop 512 meant)) rest
    (omega (arith, length-spliced bytes at (take 512 left) room))
    ∙ ap (λ (n : ℕ). spliced (spliced bytes at (take 512 left)) (at + n) (drop 512 left)) (sym long)
    ∙ spliced_then bytes at (take 512 left) (drop 512 left) room
    ∙ ap (spliced bytes at) (take-append-drop 512 left)

-- the records of a range put over are the range put over
pub overlaid-range : (at : ℕ) (bytes was meant left : List ℕ) → length meant % 512 ≡ 0 → length left ≡ length meant → at + length left ≤ length bytes → overlaid bytes (torn_records at was meant left) ≡ spliced bytes at left
unfolding torn_records
overlaid-range at bytes was meant left whole fits inside = overlaid-pieces ((length meant + 511) / 512) at bytes was meant left (omega arith) (omega arith) inside
