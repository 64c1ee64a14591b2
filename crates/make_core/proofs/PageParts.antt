-- A page of an image: what a part leaves in it, where all other parts are apart from it.
use Rattle.std.proofs.Common.{◌≡◌, ◌⊎◌, inl, inr, ℕ, ◌+◌, ◌-◌, ◌≤◌, ◌<◌, List, [], ◌∷◌, ◌++◌, length, get_or, take, drop, refl, sym, ap, ◌∙◌, arith, length-append, length-take, length-drop}
use Rattle.std.proofs.lemmas.List.{ext_get_or, get_or-take, get_or-drop, get_or_append_left, get_or-append_right, length-replicate, get_or-replicate, drop-replicate, take-replicate}
use Rattle.std.proofs.lemmas.Bool.{cases_lt}
use Rattle.board_core.specs.Flash.{range, spliced, erased_page}
use Rattle.board_core.proofs.Overlays.{length-spliced, spliced_inside, spliced_after}
use Rattle.board_core.proofs.OverlaidRanges.{length-range, range-spliced_apart}
use Rattle.make_core.specs.Puts.{Puts}
use Rattle.make_core.specs.Layout.{Part, with_parts, erased, padded_page}

pub length-erased : (count : ℕ) → length (erased count) ≡ count
unfolding erased
length-erased count = length-replicate {A = ℕ} count 255

pub get_or-erased : (count i : ℕ) → i < count → get_or (erased count) i 0 ≡ 255
unfolding erased
get_or-erased count i lt = get_or-replicate {A = ℕ} count i 255 0 lt

pub range-erased : (count at n : ℕ) → at + n ≤ count → range (erased count) at n ≡ erased n
unfolding erased
range-erased count at n inside = ap (take n) (drop-replicate {X = ℕ} at count 255) ∙ take-replicate {X = ℕ} n (count - at) 255 (omega arith)

pub drop-erased : (count k : ℕ) → drop k (erased count) ≡ erased (count - k)
unfolding erased
drop-erased count k = drop-replicate {X = ℕ} k count 255

pub erased_page-is : erased_page ≡ erased 4096
unfolding erased_page erased
erased_page-is = refl

-- bytes that are put first in an erased page
pub padded_front : (bytes old new : List ℕ) → old ≡ erased_page → Puts 0 bytes old new → new ≡ padded_page bytes
padded_front bytes old new blank puts =
    let from_start : 0 + length bytes ≡ length bytes = omega arith in
    puts.put ∙ ap (λ (k : ℕ). bytes ++ drop k old) from_start ∙ ap (λ (l : List ℕ). bytes ++ drop (length bytes) l) (blank ∙ erased_page-is) ∙ ap (λ (l : List ℕ). bytes ++ l) (drop-erased 4096 (length bytes))

-- A part lies in an image of this size, and has no byte in this range.
pub record IsApart (size at n : ℕ) (p : Part) : Type 0 where
  pub inside : p.at + length p.bytes ≤ size
  pub apart : (p.at + length p.bytes ≤ at) ⊎ (at + n ≤ p.at)

-- all parts are so
abbrev pub AreApart : ℕ → ℕ → ℕ → List Part → Type 0
AreApart size at n [] = Unit {0}
AreApart size at n (p ∷ parts) = IsApart size at n p × AreApart size at n parts

pub length-apart : (size at n : ℕ) (parts : List Part) (bytes : List ℕ) → length bytes ≡ size → AreApart size at n parts → length (with_parts parts bytes) ≡ size
length-apart size at n [] bytes long apart = long
length-apart size at n (p ∷ parts) bytes long apart =
    let rest : length (with_parts parts bytes) ≡ size = length-apart size at n parts bytes long apart.1 in
    length-spliced (with_parts parts bytes) p.at p.bytes (omega (arith, rest, apart.0.inside)) ∙ rest

-- where no part has a byte the image is as before
pub range-apart : (size at n : ℕ) (parts : List Part) (bytes : List ℕ) → length bytes ≡ size → at + n ≤ size → AreApart size at n parts → range (with_parts parts bytes) at n ≡ range bytes at n
range-apart size at n [] bytes long within apart = refl
range-apart size at n (p ∷ parts) bytes long within apart =
    let rest : length (with_parts parts bytes) ≡ size = length-apart size at n parts bytes long apart.1 in
    range-spliced_apart (with_parts parts bytes) p.at p.bytes at n (omega (arith, rest, apart.0.inside)) (omega (arith, rest)) apart.0.apart
    ∙ range-apart size at n parts bytes long within apart.1

-- one part put over bytes of which the range was erased
own : (size at n : ℕ) (bytes : List ℕ) (p : Part) → length bytes ≡ size → at + n ≤ size → p.at ≤ at → p.at + length p.bytes ≤ size → range bytes at n ≡ erased n
    → range (spliced bytes p.at p.bytes) at n ≡ range p.bytes (at - p.at) n ++ erased (n - length (range p.bytes (at - p.at) n))
own size at n bytes p long within from inside blank =
    let whole = spliced bytes p.at p.bytes in
    let piece = range p.bytes (at - p.at) n in
    let here = range whole at n in
    let whole_size : length whole ≡ size = length-spliced bytes p.at p.bytes (omega (arith, long)) ∙ long in
    let here_size : length here ≡ n = length-range whole at n (omega (arith, whole_size)) in
    let piece_size : length piece ≤ n = omega (arith, length-take n (drop (at - p.at) p.bytes)) in
    let right_size : length (piece ++ erased (n - length piece)) ≡ n = omega (arith, length-append piece (erased (n - length piece)), length-erased (n - length piece)) in
    ext_get_or 0 here (piece ++ erased (n - length piece)) (here_size ∙ sym right_size)
    (λ i lt.
    let short : i < n = omega (arith, here_size) in
    let place : get_or here i 0 ≡ get_or whole (at + i) 0 = get_or-take n (drop at whole) i 0 short ∙ get_or-drop at whole i 0 in
    elim (cases_lt i (length piece)) as (λ _. get_or here i 0 ≡ get_or (piece ++ erased (n - length piece)) i 0) [
      | inl in_piece ↦
          let within_part : at + i < p.at + length p.bytes = omega (arith, length-take n (drop (at - p.at) p.bytes), length-drop (at - p.at) p.bytes) in
          let same_place : at + i - p.at ≡ at - p.at + i = omega arith in
          place ∙ spliced_inside bytes p.at p.bytes (at + i) (omega (arith, long)) (omega arith) within_part
          ∙ ap (λ (k : ℕ). get_or p.bytes k 0) same_place
          ∙ sym (get_or_append_left piece (erased (n - length piece)) 0 i in_piece ∙ get_or-take n (drop (at - p.at) p.bytes) i 0 short ∙ get_or-drop (at - p.at) p.bytes i 0)
      | inr behind ↦
          let past_part : p.at + length p.bytes ≤ at + i = omega (arith, length-take n (drop (at - p.at) p.bytes), length-drop (at - p.at) p.bytes) in
          place ∙ spliced_after bytes p.at p.bytes (at + i) (omega (arith, long)) past_part
          ∙ sym (get_or-take n (drop at bytes) i 0 short ∙ get_or-drop at bytes i 0)
          ∙ ap (λ (l : List ℕ). get_or l i 0) blank ∙ get_or-erased n i short
          ∙ sym (get_or-append_right piece (erased (n - length piece)) (length piece) i 0 refl behind ∙ get_or-erased (n - length piece) (i - length piece) (omega arith))
    ])

length-part : (size at n : ℕ) (before : List Part) (p : Part) (after : List Part) → at + n ≤ size → p.at + length p.bytes ≤ size → AreApart size at n before → AreApart size at n after
    → length (with_parts (before ++ p ∷ after) (erased size)) ≡ size
length-part size at n [] p after within inside apart_before apart_after =
    let rest : length (with_parts after (erased size)) ≡ size = length-apart size at n after (erased size) (length-erased size) apart_after in
    length-spliced (with_parts after (erased size)) p.at p.bytes (omega (arith, rest)) ∙ rest
length-part size at n (q ∷ before) p after within inside apart_before apart_after =
    let rest : length (with_parts (before ++ p ∷ after) (erased size)) ≡ size = length-part size at n before p after within inside apart_before.1 apart_after in
    length-spliced (with_parts (before ++ p ∷ after) (erased size)) q.at q.bytes (omega (arith, rest, apart_before.0.inside)) ∙ rest

-- the part that has bytes in the range, or ends before it
pub range-part : (size at n : ℕ) (before : List Part) (p : Part) (after : List Part) → at + n ≤ size → p.at ≤ at → p.at + length p.bytes ≤ size → AreApart size at n before → AreApart size at n after
    → range (with_parts (before ++ p ∷ after) (erased size)) at n ≡ range p.bytes (at - p.at) n ++ erased (n - length (range p.bytes (at - p.at) n))
range-part size at n [] p after within from inside apart_before apart_after =
    own size at n (with_parts after (erased size)) p (length-apart size at n after (erased size) (length-erased size) apart_after) within from inside
    (range-apart size at n after (erased size) (length-erased size) within apart_after ∙ range-erased size at n within)
range-part size at n (q ∷ before) p after within from inside apart_before apart_after =
    let rest = with_parts (before ++ p ∷ after) (erased size) in
    let long : length rest ≡ size = length-part size at n before p after within inside apart_before.1 apart_after in
    range-spliced_apart rest q.at q.bytes at n (omega (arith, long, apart_before.0.inside)) (omega (arith, long)) apart_before.0.apart
    ∙ range-part size at n before p after within from inside apart_before.1 apart_after
