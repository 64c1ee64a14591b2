-- Ranges of bytes, and what stays of them where other bytes are put into a range.
use Rattle.std.proofs.Common.{◌≡◌, ℕ, ◌+◌, ◌-◌, ◌≤◌, List, ◌++◌, length, take, drop, refl, sym, ap, ◌∙◌, arith, append_assoc, length-append, length-take, length-drop}
use Rattle.std.proofs.lemmas.List.{take_at, drop_at, take_all, take-append-le, take-take, drop-drop, drop-append-le, drop-take, length-take-le}
use Rattle.std.proofs.Math.Seq.{take-append-add}
use Rattle.board_core.specs.Flash.{range, spliced}
use Rattle.nvstore_core.specs.Saving.{SameBut}

-- ---- ranges

-- a range within a front
range-take : (bytes : List ℕ) (at from count : ℕ) → from + count ≤ at → range (take at bytes) from count ≡ range bytes from count
range-take bytes at from count before =
    let long : at ≡ from + (at - from) = omega arith in
    ap (λ (k : ℕ). take count (drop from (take k bytes))) long
    ∙ ap (take count) (drop-take from (at - from) bytes)
    ∙ take-take count (at - from) (drop from bytes) (omega arith)

-- a range within a range
pub range-range : (bytes : List ℕ) (at size from count : ℕ) → from + count ≤ size → range (range bytes at size) from count ≡ range bytes (at + from) count
range-range bytes at size from count inside = range-take (drop at bytes) size from count inside ∙ ap (take count) (drop-drop from at bytes)

-- the bytes from a place on, after others were put there
drop-spliced : (bytes : List ℕ) (at : ℕ) (new : List ℕ) → at ≤ length bytes → drop at (spliced bytes at new) ≡ new ++ drop (at + length new) bytes
drop-spliced bytes at new inside =
    ap (drop at) (append_assoc (take at bytes) new (drop (at + length new) bytes))
    ∙ drop_at (take at bytes) (new ++ drop (at + length new) bytes) at (length-take-le at bytes inside)

-- the first bytes of those that were put
pub range-spliced_front : (bytes : List ℕ) (at : ℕ) (new : List ℕ) (count : ℕ) → at ≤ length bytes → count ≤ length new → range (spliced bytes at new) at count ≡ take count new
range-spliced_front bytes at new count inside few =
    ap (take count) (drop-spliced bytes at new inside) ∙ take-append-le count new (drop (at + length new) bytes) few

-- all of them
pub range-spliced_same : (bytes : List ℕ) (at : ℕ) (new : List ℕ) (count : ℕ) → at ≤ length bytes → length new ≡ count → range (spliced bytes at new) at count ≡ new
range-spliced_same bytes at new count inside fits =
    range-spliced_front bytes at new count inside (omega arith) ∙ take_all count new (omega arith)

-- a range of those that were put
pub range-spliced_within : (bytes : List ℕ) (place : ℕ) (page : List ℕ) (off count : ℕ) → place ≤ length bytes → off + count ≤ length page
    → range (spliced bytes place page) (place + off) count ≡ range page off count
range-spliced_within bytes place page off count inside within =
    let back = drop (place + length page) bytes in
    ap (take count)
    (sym (drop-drop off place (spliced bytes place page)) ∙ ap (drop off) (drop-spliced bytes place page inside) ∙ drop-append-le off page back (omega arith))
    ∙ take-append-le count (drop off page) back (omega (arith, length-drop off page))

-- ---- what stays

pub same_but_spliced : (bytes : List ℕ) (at : ℕ) (new : List ℕ) (count : ℕ) → at ≤ length bytes → length new ≤ count → SameBut at count bytes (spliced bytes at new)
same_but_spliced bytes at new count inside few =
    let front : length (take at bytes) ≡ at = length-take-le at bytes inside in
    let long : length (take at bytes ++ new) ≡ at + length new = omega (arith, length-append (take at bytes) new) in
    let rest : (at + length new) + (count - length new) ≡ at + count = omega arith in
    record {
      before = ap (take at) (append_assoc (take at bytes) new (drop (at + length new) bytes)) ∙ take_at (take at bytes) (new ++ drop (at + length new) bytes) at front;
      behind = ap (λ (k : ℕ). drop k (spliced bytes at new)) (sym rest)
          ∙ sym (drop-drop (count - length new) (at + length new) (spliced bytes at new))
          ∙ ap (drop (count - length new)) (drop_at (take at bytes ++ new) (drop (at + length new) bytes) (at + length new) long)
          ∙ drop-drop (count - length new) (at + length new) bytes
          ∙ ap (λ (k : ℕ). drop k bytes) rest;
    }

pub same_but_none : (at count : ℕ) (bytes : List ℕ) → SameBut at count bytes bytes
same_but_none at count bytes = record { before = refl; behind = refl }

-- a wider range
pub same_but_wider : (at count at' count' : ℕ) (old new : List ℕ) → at' ≤ at → at + count ≤ at' + count' → SameBut at count old new → SameBut at' count' old new
same_but_wider at count at' count' old new lower higher same =
    let rest : (at + count) + ((at' + count') - (at + count)) ≡ at' + count' = omega arith in
    record {
      before = sym (take-take at' at new lower) ∙ ap (take at') same.before ∙ take-take at' at old lower;
      behind = ap (λ (k : ℕ). drop k new) (sym rest)
          ∙ sym (drop-drop ((at' + count') - (at + count)) (at + count) new)
          ∙ ap (drop ((at' + count') - (at + count))) same.behind
          ∙ drop-drop ((at' + count') - (at + count)) (at + count) old
          ∙ ap (λ (k : ℕ). drop k old) rest;
    }

-- one change after another
pub same_but_then : (at count : ℕ) (one two three : List ℕ) → SameBut at count one two → SameBut at count two three → SameBut at count one three
same_but_then at count one two three first second = record { before = second.before ∙ first.before; behind = second.behind ∙ first.behind }

-- a range before
pub range_before : (at size from count : ℕ) (old new : List ℕ) → from + count ≤ at → SameBut at size old new → range new from count ≡ range old from count
range_before at size from count old new before same =
    sym (range-take new at from count before) ∙ ap (λ (xs : List ℕ). range xs from count) same.before ∙ range-take old at from count before

-- a range behind
pub range_behind : (at size from count : ℕ) (old new : List ℕ) → at + size ≤ from → SameBut at size old new → range new from count ≡ range old from count
range_behind at size from count old new behind same =
    let rest : (at + size) + (from - (at + size)) ≡ from = omega arith in
    ap (take count)
    (ap (λ (k : ℕ). drop k new) (sym rest)
    ∙ sym (drop-drop (from - (at + size)) (at + size) new)
    ∙ ap (drop (from - (at + size))) same.behind
    ∙ drop-drop (from - (at + size)) (at + size) old
    ∙ ap (λ (k : ℕ). drop k old) rest)

-- ---- bytes that are put into bytes that were put

five : (a b c d e : List ℕ) → ((a ++ b) ++ c) ++ (d ++ e) ≡ (a ++ ((b ++ c) ++ d)) ++ e
five a b c d e =
    sym (append_assoc ((a ++ b) ++ c) d e)
    ∙ ap (λ (l : List ℕ). (l ++ d) ++ e) (append_assoc a b c)
    ∙ ap (λ (l : List ℕ). l ++ e) (append_assoc a (b ++ c) d)

pub spliced_within : (bytes : List ℕ) (place : ℕ) (page : List ℕ) (off : ℕ) (new : List ℕ) → place ≤ length bytes → off + length new ≤ length page
    → spliced (spliced bytes place page) (place + off) new ≡ spliced bytes place (spliced page off new)
spliced_within bytes place page off new inside within =
    let front = take place bytes in
    let back = drop (place + length page) bytes in
    let whole = spliced bytes place page in
    let fits : length front ≡ place = length-take-le place bytes inside in
    let shape : whole ≡ front ++ (page ++ back) = append_assoc front page back in
    let begins : take (place + off) whole ≡ front ++ take off page =
    ap (take (place + off)) shape
    ∙ ap (λ (n : ℕ). take (n + off) (front ++ (page ++ back))) (sym fits)
    ∙ take-append-add front (page ++ back) off
    ∙ ap (λ (l : List ℕ). front ++ l) (take-append-le off page back (omega arith)) in
    let ends : drop ((place + off) + length new) whole ≡ drop (off + length new) page ++ back =
    (let sum : (place + off) + length new ≡ place + (off + length new) = omega arith in ap (λ (n : ℕ). drop n whole) sum)
    ∙ sym (drop-drop (off + length new) place whole)
    ∙ ap (drop (off + length new)) (drop-spliced bytes place page inside)
    ∙ drop-append-le (off + length new) page back within in
    let same_length : length (spliced page off new) ≡ length page =
    omega (arith, length-append (take off page ++ new) (drop (off + length new) page), length-append (take off page) new, length-take off page, length-drop (off + length new) page) in
    ap (λ (l : List ℕ). (l ++ new) ++ drop ((place + off) + length new) whole) begins
    ∙ ap (λ (l : List ℕ). ((front ++ take off page) ++ new) ++ l) ends
    ∙ five front (take off page) new (drop (off + length new) page) back
    ∙ ap (λ (n : ℕ). (front ++ spliced page off new) ++ drop (place + n) bytes) (sym same_length)
