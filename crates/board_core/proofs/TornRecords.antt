-- The pieces of a torn range, one after another.
use Rattle.std.proofs.Common.{◌≡◌, ℕ, suc, ◌+◌, ◌-◌, ◌/◌, ◌<◌, min, List, [], ◌∷◌, ◌++◌, length, take, drop, replicate, refl, arith, ⊎_elim, length-drop}
use Rattle.std.proofs.lemmas.List.{take_all, take_rest, drop-replicate, append_assoc}
use Rattle.std.proofs.lemmas.Bool.{cases_lt}
use Rattle.board_core.specs.declared.torn.Torn.{Torn}
use Rattle.board_core.specs.Torn.{torn_piece, torn_records}

-- the first bytes of a list, with zeros up to n
pub padded_front : (n count : ℕ) (bytes : List ℕ) → count ≡ min (length bytes) n → take count bytes ++ drop count (replicate n 0) ≡ take n bytes ++ replicate (n - length bytes) 0
padded_front n count bytes h =
    rw (drop-replicate {X = ℕ} count n 0)
    (⊎_elim
    (λ short.
    let e : count ≡ length bytes = omega arith in
    rw (e, take_all (length bytes) bytes (omega arith), take_all n bytes (omega arith)) refl)
    (λ long.
    let e : count ≡ n = omega arith in
    let k : n - n ≡ n - length bytes = omega arith in
    rw (e, k) refl)
    (cases_lt (length bytes) n))

-- an empty range has no records
pub torn_records-none : (at : ℕ) (was meant left : List ℕ) → length meant ≡ 0 → torn_records at was meant left ≡ []
unfolding torn_records
torn_records-none at was meant left h =
    let e : (length meant + 511) / 512 ≡ 0 = omega arith in rw e refl

-- the first piece, and the records of the rest
pub torn_records-more : (at count : ℕ) (was meant left : List ℕ) → count ≡ min (length meant) 512 → 0 < count
    → torn_records at was meant left ≡ torn_piece at was meant left ∷ torn_records (at + count) (drop count was) (drop count meant) (drop count left)
unfolding torn_records
torn_records-more at count was meant left h some =
    ⊎_elim
    (λ short.
    let e : (length meant + 511) / 512 ≡ 1 = omega arith in
    let k : (length (drop count meant) + 511) / 512 ≡ 0 = omega (arith, length-drop count meant) in
    rw (e, k) refl)
    (λ long.
    let c : count ≡ 512 = omega arith in
    let e : (length meant + 511) / 512 ≡ suc ((length (drop 512 meant) + 511) / 512) = omega (arith, length-drop 512 meant) in
    rw (c, e) refl)
    (cases_lt (length meant) 512)

-- the same, with the rest as the code cuts it off
pub torn_records-step : (at count : ℕ) (was meant left : List ℕ) → count ≡ min (length meant) 512 → 0 < count
    → torn_records at was meant left ≡ torn_piece at was meant left ∷ torn_records (at + count) (take (length was - count) (drop count was)) (take (length meant - count) (drop count meant)) (take (length left - count) (drop count left))
torn_records-step at count was meant left h some = rw (take_rest was count, take_rest meant count, take_rest left count) (torn_records-more at count was meant left h some)

-- one record pushed, and then the rest
pub noted_more : (items pushed noted : List Torn) (piece : Torn) (rest whole : List Torn) → pushed ≡ items ++ piece ∷ [] → noted ≡ pushed ++ rest → whole ≡ piece ∷ rest → noted ≡ items ++ whole
noted_more items pushed noted piece rest whole p n w = rw (n, p, w) (append_assoc items (piece ∷ []) rest)
