-- Filled bytes: how many there are, and pieces of them.
use Rattle.std.proofs.Common.{◌≡◌, ℕ, ◌+◌, ◌*◌, ◌/◌, ◌%◌, ◌<◌, ◌≤◌, List, [], ◌++◌, length, get_or, take, drop, refl, sym, ap, ◌∙◌, arith, length-take, length-drop}
use Rattle.std.proofs.lemmas.List.{ext_get_or, get_or-take, get_or-drop, take_all, take-append-drop}
use Rattle.std.proofs.lemmas.List.FromFn.{length-map-range_with_len, get_or-map-range_with_len}
use Rattle.board_core.specs.Flash.{range}
use Rattle.make_core.specs.Fill.{fill_byte, fill_from}

-- the number counts only by its lowest byte
pub fill_byte-low : (number tag i : ℕ) → (31 * (number % 256) + 17 * tag + 7 * i + i / 256) % 256 ≡ fill_byte number tag i
fill_byte-low number tag i = omega arith

pub length-fill_from : (number tag first count : ℕ) → length (fill_from number tag first count) ≡ count
unfolding fill_from
length-fill_from number tag first count = length-map-range_with_len (fill_byte number tag) first count

pub get_or-fill_from : (number tag first count i : ℕ) → i < count → get_or (fill_from number tag first count) i 0 ≡ fill_byte number tag (first + i)
unfolding fill_from
get_or-fill_from number tag first count i lt = get_or-map-range_with_len (fill_byte number tag) first count i (first + i) 0 lt refl

-- bytes that are each as they are to be
pub fill_from-places : (number tag first : ℕ) (bytes : List ℕ) → ((i : ℕ) → i < length bytes → get_or bytes i 0 ≡ fill_byte number tag (first + i)) → bytes ≡ fill_from number tag first (length bytes)
fill_from-places number tag first bytes each =
    ext_get_or 0 bytes (fill_from number tag first (length bytes)) (sym (length-fill_from number tag first (length bytes)))
    (λ i lt. each i lt ∙ sym (get_or-fill_from number tag first (length bytes) i lt))

-- a range of filled bytes is filled from its first place
pub range-fill_from : (number tag first count at n : ℕ) → at + n ≤ count → range (fill_from number tag first count) at n ≡ fill_from number tag (first + at) n
range-fill_from number tag first count at n within =
    let whole = fill_from number tag first count in
    let full : length whole ≡ count = length-fill_from number tag first count in
    let size : length (range whole at n) ≡ n = omega (arith, full, length-take n (drop at whole), length-drop at whole) in
    ext_get_or 0 (range whole at n) (fill_from number tag (first + at) n) (size ∙ sym (length-fill_from number tag (first + at) n))
    (λ i lt.
    let short : i < n = omega (arith, size) in
    let place : first + (at + i) ≡ first + at + i = omega arith in
    get_or-take n (drop at whole) i 0 short ∙ get_or-drop at whole i 0 ∙ get_or-fill_from number tag first count (at + i) (omega arith)
    ∙ ap (fill_byte number tag) place ∙ sym (get_or-fill_from number tag (first + at) n i short))

-- no bytes
pub fill_from-none : (number tag first : ℕ) → fill_from number tag first 0 ≡ []
unfolding fill_from
fill_from-none number tag first = refl

-- one piece after another
pub fill_from-more : (number tag first count more : ℕ) → fill_from number tag first count ++ fill_from number tag (first + count) more ≡ fill_from number tag first (count + more)
fill_from-more number tag first count more =
    let whole = fill_from number tag first (count + more) in
    let full : length whole ≡ count + more = length-fill_from number tag first (count + more) in
    let front : take count whole ≡ fill_from number tag first count =
    range-fill_from number tag first (count + more) 0 count (omega arith) ∙ ap (λ (n : ℕ). fill_from number tag n count) (omega arith) in
    let rest : length (drop count whole) ≤ more = omega (arith, full, length-drop count whole) in
    let back : drop count whole ≡ fill_from number tag (first + count) more = sym (take_all more (drop count whole) rest) ∙ range-fill_from number tag first (count + more) count more (omega arith) in
    ap (λ (l : List ℕ). l ++ fill_from number tag (first + count) more) (sym front) ∙ ap (λ (l : List ℕ). take count whole ++ l) (sym back) ∙ take-append-drop count whole
