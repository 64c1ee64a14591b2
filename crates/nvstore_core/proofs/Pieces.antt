-- What a failed change leaves at the front of its range, where torn bytes do not pass their checks.
use Rattle.std.proofs.Common.{◌≡◌, ◌⊎◌, ℕ, zero, suc, ◌+◌, ◌-◌, ◌/◌, ◌<◌, ◌≤◌, min, List, [], ◌∷◌, ◌++◌, length, take, drop, refl, sym, ap, subst, ◌∙◌, arith, inl, inr, append_assoc, length-take, length-drop}
use Rattle.std.specs.Prelude.{All, replicate}
use Rattle.std.proofs.lemmas.Bool.{cases_lt}
use Rattle.std.proofs.lemmas.List.{take_at, take_all, take-take, take-append-le, take-append-drop, drop-drop, drop-take, length-take-le}
use Rattle.std.proofs.lemmas.List.Elements.{All-nil, All-cons, All-head}
use Rattle.board_core.specs.declared.torn.Torn.{Torn}
use Rattle.board_core.specs.Torn.{torn_piece, torn_pieces, torn_records, padded_piece, added}
use Rattle.board_core.specs.Flash.{FlashMedium, LeftTorn, range, spliced}
use Rattle.board_core.specs.Disk.{overlaid}
use Rattle.board_core.proofs.TornRecords.{torn_records-more}
use Rattle.board_core.proofs.Overlays.{length-spliced, spliced_then}
use Rattle.nvstore_core.specs.Saving.{SameBut}
use Rattle.nvstore_core.specs.Fair.{IsFairAt, IsFairlyLeft, IsNothing}
use Rattle.nvstore_core.proofs.Frames.{same_but_spliced, range-spliced_same}

-- a failed change leaves all bytes outside its range
pub left_frame : (at : ℕ) (meant : List ℕ) (old new : FlashMedium) → at ≤ length old.bytes → LeftTorn at meant old new → SameBut at (length meant) old.bytes new.bytes
left_frame at meant old new inside left =
    subst (λ (bytes : List ℕ). SameBut at (length meant) old.bytes bytes) (sym left.bytes)
    (same_but_spliced old.bytes at left.left (length meant) inside (omega (arith, left.fits, left.within)))

-- the first bytes of a record's piece
pub padded_front : (count : ℕ) (bytes : List ℕ) → count ≤ length bytes → count ≤ 512 → take count (padded_piece bytes) ≡ take count bytes
padded_front count bytes within few =
    take-append-le count (take 512 bytes) (replicate (512 - length bytes) 0) (omega (arith, length-take 512 bytes)) ∙ take-take count 512 bytes few

empty_of : (xs : List ℕ) → length xs ≡ 0 → xs ≡ []
empty_of [] none = refl
empty_of (x ∷ xs) none = absurd (omega arith)

spliced_none : (bytes : List ℕ) (at : ℕ) → spliced bytes at [] ≡ bytes
spliced_none bytes at =
    let none : at + 0 ≡ at = omega arith in
    append_assoc (take at bytes) [] (drop (at + 0) bytes) ∙ ap (λ (n : ℕ). take at bytes ++ drop n bytes) none ∙ take-append-drop at bytes

-- ---- the records of a range

-- what the first piece left
piece_left_bytes : (meant left : List ℕ) → length left ≡ length meant → take (min (length meant) 512) (padded_piece left) ≡ take 512 left
piece_left_bytes meant left fits = take_at (take 512 left) (replicate (512 - length left) 0) (min (length meant) 512) (omega (arith, length-take 512 left))

overlaid-pieces : (count at : ℕ) (bytes was meant left : List ℕ) → count ≡ (length meant + 511) / 512 → length left ≡ length meant → at + length left ≤ length bytes
    → overlaid bytes (torn_pieces count at was meant left) ≡ spliced bytes at left
overlaid-pieces zero at bytes was meant left all fits inside =
    sym (ap (spliced bytes at) (empty_of left (omega (arith, all))) ∙ spliced_none bytes at)
overlaid-pieces (suc zero) at bytes was meant left all fits inside =
    let few : length left ≤ 512 = omega (arith, all) in
    ap (spliced bytes at) (piece_left_bytes meant left fits ∙ take_all 512 left few)
overlaid-pieces (suc (suc count)) at bytes was meant left all fits inside =
    let front : take 512 left ≡ take (min (length meant) 512) (padded_piece left) = sym (piece_left_bytes meant left fits) in
    let more : 512 < length left = omega (arith, all) in
    let long : length (take 512 left) ≡ 512 = omega (arith, length-take 512 left) in
    let room : at + length (take 512 left) ≤ length bytes = omega arith in
    let same = length-spliced bytes at (take 512 left) room in
    let rest : length (drop 512 left) ≡ length (drop 512 meant) = omega (arith, length-drop 512 left, length-drop 512 meant) in
    ap (λ (l : List ℕ). overlaid (spliced bytes at l) (torn_pieces (suc count) (at + 512) (drop 512 was) (drop 512 meant) (drop 512 left))) (sym front)
    ∙ overlaid-pieces (suc count) (at + 512) (spliced bytes at (take 512 left)) (drop 512 was) (drop 512 meant) (drop 512 left)
    (omega (arith, all, length-drop 512 meant)) rest (omega (arith, length-drop 512 left, same))
    ∙ ap (λ (n : ℕ). spliced (spliced bytes at (take 512 left)) (at + n) (drop 512 left)) (sym long)
    ∙ spliced_then bytes at (take 512 left) (drop 512 left) room
    ∙ ap (spliced bytes at) (take-append-drop 512 left)

-- the records of a range put over are the range put over
pub overlaid-range : (at : ℕ) (bytes was meant left : List ℕ) → length left ≡ length meant → at + length left ≤ length bytes → overlaid bytes (torn_records at was meant left) ≡ spliced bytes at left
unfolding torn_records
overlaid-range at bytes was meant left fits inside = overlaid-pieces ((length meant + 511) / 512) at bytes was meant left refl fits inside

-- and what each of them left stands there
pieces_stand : (count at : ℕ) (bytes was meant left : List ℕ) → length left ≡ length meant → range bytes at (length left) ≡ left
    → All (λ torn. range bytes torn.at torn.len ≡ take torn.len torn.left) (torn_pieces count at was meant left)
pieces_stand zero at bytes was meant left fits here = All-nil (λ torn. range bytes torn.at torn.len ≡ take torn.len torn.left)
pieces_stand (suc count) at bytes was meant left fits here =
    let n = min (length meant) 512 in
    let first : range bytes at n ≡ take n (padded_piece left) =
    sym (take-take n (length left) (drop at bytes) (omega arith)) ∙ ap (take n) here ∙ sym (padded_front n left (omega arith) (omega arith)) in
    let rest : range bytes (at + 512) (length (drop 512 left)) ≡ drop 512 left =
    elim (cases_lt 512 (length left)) [
      | inl more ↦
          let whole : 512 + (length left - 512) ≡ length left = omega arith in
          ap (λ (k : ℕ). take k (drop (at + 512) bytes)) (length-drop 512 left)
          ∙ ap (take (length left - 512)) (sym (drop-drop 512 at bytes))
          ∙ sym (drop-take 512 (length left - 512) (drop at bytes))
          ∙ ap (λ (k : ℕ). drop 512 (take k (drop at bytes))) whole
          ∙ ap (drop 512) here
      | inr few ↦
          let none : drop 512 left ≡ [] = empty_of (drop 512 left) (omega (arith, length-drop 512 left)) in
          ap (λ (l : List ℕ). range bytes (at + 512) (length l)) none ∙ sym none
    ] in
    All-cons (λ torn. range bytes torn.at torn.len ≡ take torn.len torn.left) (torn_piece at was meant left) _ first
    (pieces_stand count (at + 512) bytes (drop 512 was) (drop 512 meant) (drop 512 left) (omega (arith, length-drop 512 left, length-drop 512 meant)) rest)

-- ---- a change that failed

-- what its records left, put over bytes
left_over : (at : ℕ) (meant before : List ℕ) (mid new : FlashMedium) (left : LeftTorn at meant mid new) → at + length meant ≤ length before
    → overlaid before (added mid.torn new.torn) ≡ spliced before at left.left
left_over at meant before mid new left inside =
    let fits : length left.left ≡ length (take left.count meant) = left.fits ∙ sym (length-take-le left.count meant left.within) in
    ap (overlaid before) left.noted
    ∙ overlaid-range at before (range mid.bytes at left.count) (take left.count meant) left.left fits (omega (arith, left.fits, left.within))

-- each of its records tells what stands
pub left_stands : (at : ℕ) (meant : List ℕ) (old new : FlashMedium) → at + length meant ≤ length old.bytes → LeftTorn at meant old new
    → All (λ torn. range new.bytes torn.at torn.len ≡ take torn.len torn.left) (added old.torn new.torn)
unfolding torn_records
left_stands at meant old new inside left =
    let fits : length left.left ≡ length (take left.count meant) = left.fits ∙ sym (length-take-le left.count meant left.within) in
    let here : range new.bytes at (length left.left) ≡ left.left =
    ap (λ (b : List ℕ). range b at (length left.left)) left.bytes
    ∙ range-spliced_same old.bytes at left.left (length left.left) (omega (arith, left.fits, left.within)) refl in
    subst (All (λ torn. range new.bytes torn.at torn.len ≡ take torn.len torn.left)) (sym left.noted)
    (pieces_stand ((length (take left.count meant) + 511) / 512) at new.bytes (range old.bytes at left.count) (take left.count meant) left.left fits here)

-- what fairness says of the first bytes of its range, where it began
first_fair : (at size : ℕ) (meant before : List ℕ) (mid new : FlashMedium) (left : LeftTorn at meant mid new) → 0 < left.count → 0 < size
    → at + length meant ≤ length before → IsFairlyLeft before (added mid.torn new.torn) at size
    → IsFairAt before (spliced before at left.left) (torn_piece at (range mid.bytes at left.count) (take left.count meant) left.left) at size
first_fair at size meant before mid new left some wide inside fair =
    let long : length (take left.count meant) ≡ left.count = length-take-le left.count meant left.within in
    let was = range mid.bytes at left.count in
    let piece = torn_piece at was (take left.count meant) left.left in
    let n = min left.count 512 in
    let P = λ (torn : Torn). torn.at < at + size → at < torn.at + torn.len → IsFairAt before (overlaid before (added mid.torn new.torn)) torn at size in
    let noted = left.noted ∙ torn_records-more at n was (take left.count meant) left.left (ap (λ (k : ℕ). min k 512) (sym long)) (omega arith) in
    subst (λ (l : List ℕ). IsFairAt before l piece at size) (left_over at meant before mid new left inside)
    (All-head P piece _ (subst (All P) noted fair) (omega arith) (omega (arith, long)))

-- The first bytes of its range, put over the bytes from before: they are those, or what was meant, or nothing.
pub front_fair : (at size : ℕ) (meant before : List ℕ) (mid new : FlashMedium) (left : LeftTorn at meant mid new) → 0 < left.count → 0 < size → size ≤ 512
    → at + length meant ≤ length before → IsFairlyLeft before (added mid.torn new.torn) at size
    → let l = spliced before at left.left in
    (range l at size ≡ range before at size) ⊎ ((size ≤ left.count) × (range l at size ≡ take size meant)) ⊎ IsNothing (range l at size)
front_fair at size meant before mid new left some wide few inside fair =
    let long : length (take left.count meant) ≡ left.count = length-take-le left.count meant left.within in
    elim (first_fair at size meant before mid new left some wide inside fair) [
      | inl kept ↦ inl kept
      | inr more ↦ elim more [
        | inl full ↦
            let covered : size ≤ left.count = omega (arith, full.1, long) in
            let first : at - at ≡ 0 = omega arith in
            inr (inl (
              covered,
              full.2
                  ∙ ap (λ (k : ℕ). take size (drop k (padded_piece (take left.count meant)))) first
                  ∙ padded_front size (take left.count meant) (omega (arith, long)) few
                  ∙ take-take size left.count meant covered,
            ))
        | inr nothing ↦ inr (inr nothing)
      ]
    ]

-- So they stand where it is the only call.
pub piece_left : (at size : ℕ) (meant : List ℕ) (old new : FlashMedium) → 0 < size → size ≤ 512 → at + length meant ≤ length old.bytes
    → LeftTorn at meant old new → IsFairlyLeft old.bytes (added old.torn new.torn) at size
    → (range new.bytes at size ≡ range old.bytes at size) ⊎ (range new.bytes at size ≡ take size meant) ⊎ IsNothing (range new.bytes at size)
piece_left at size meant old new wide few inside left fair =
    elim (cases_lt 0 left.count) [
      | inr none ↦
          let nothing : left.left ≡ [] = empty_of left.left (omega (arith, left.fits)) in
          inl (ap (λ (l : List ℕ). range l at size) (left.bytes ∙ ap (spliced old.bytes at) nothing ∙ spliced_none old.bytes at))
      | inl some ↦
          elim (front_fair at size meant old.bytes old new left some wide few inside fair) [
            | inl kept ↦ inl (ap (λ (l : List ℕ). range l at size) left.bytes ∙ kept)
            | inr more ↦ elim more [
              | inl full ↦ inr (inl (ap (λ (l : List ℕ). range l at size) left.bytes ∙ full.1))
              | inr nothing ↦ inr (inr (subst (λ (l : List ℕ). IsNothing (range l at size)) (sym left.bytes) nothing))
            ]
          ]
    ]
