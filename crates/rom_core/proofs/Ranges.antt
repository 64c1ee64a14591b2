-- Ranges of a range.
use Rattle.std.proofs.Common.{◌≡◌, ℕ, ◌+◌, ◌-◌, ◌≤◌, List, length, take, drop, ap, sym, ◌∙◌, arith}
use Rattle.std.proofs.lemmas.List.{take-take, drop-drop, drop-take, length-take-le, length-drop}
use Rattle.board_core.specs.Flash.{range}

pub range-range : (bytes : List ℕ) (at size from count : ℕ) → from + count ≤ size → range (range bytes at size) from count ≡ range bytes (at + from) count
range-range bytes at size from count within =
    let split : size ≡ from + (size - from) = omega arith in
    ap (λ (m : ℕ). take count (drop from (take m (drop at bytes)))) split
    ∙ ap (take count) (drop-take from (size - from) (drop at bytes))
    ∙ take-take count (size - from) (drop from (drop at bytes)) (omega arith)
    ∙ ap (take count) (drop-drop from at bytes)

pub range-front : (bytes : List ℕ) (at size count : ℕ) → count ≤ size → range bytes at count ≡ take count (range bytes at size)
range-front bytes at size count within = sym (take-take count size (drop at bytes) within)

pub length-range : (bytes : List ℕ) (at size : ℕ) → at + size ≤ length bytes → length (range bytes at size) ≡ size
length-range bytes at size inside = length-take-le size (drop at bytes) (omega (arith, length-drop at bytes))
