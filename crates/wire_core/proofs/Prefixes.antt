-- What stands in the first bytes of a list is read from these alone.
use Rattle.std.proofs.Common.{◌≡◌, ℕ, zero, suc, ◌+◌, ◌-◌, ◌<◌, ◌≤◌, List, get_or, take, drop, refl, ap, sym, ◌∙◌, arith}
use Rattle.std.specs.Prelude.{slice_range}
use Rattle.std.proofs.lemmas.List.{drop-take, take-take, get_or-take, get_or-drop}
use Rattle.byteorder.specs.Endian.{little_from}
use Rattle.wire_core.specs.Fields.{number_at}

-- bytes that agree from place i on write the same number there
little_from-agree : (i size : ℕ) (xs ys : List ℕ) → ((k : ℕ) → k < i + size → get_or xs k 0 ≡ get_or ys k 0) → little_from i size xs ≡ little_from i size ys
little_from-agree i zero xs ys same = refl
little_from-agree i (suc size) xs ys same =
    let here : i < i + suc size = omega arith in
    let first : get_or xs i 0 ≡ get_or ys i 0 = same i here in
    let rest : little_from (suc i) size xs ≡ little_from (suc i) size ys = little_from-agree (suc i) size xs ys (λ k below. same k (omega arith)) in
    cc

-- a number in the first n bytes
pub number_at-take : (size at n : ℕ) (bytes : List ℕ) → at + size ≤ n → number_at size (take n bytes) at ≡ number_at size bytes at
number_at-take size at n bytes within =
    little_from-agree 0 size (drop at (take n bytes)) (drop at bytes) (λ k below.
    let lt : at + k < n = omega arith in
    get_or-drop at (take n bytes) k 0 ∙ get_or-take n bytes (at + k) 0 lt ∙ sym (get_or-drop at bytes k 0))

-- a range in the first n bytes
pub slice_range-take : (start end n : ℕ) (bytes : List ℕ) → start ≤ end → end ≤ n → slice_range (take n bytes) start end ≡ slice_range bytes start end
slice_range-take start end n bytes ordered within =
    let split : n ≡ start + (n - start) = omega arith in
    let shorter : end - start ≤ n - start = omega arith in
    ap (λ m. take (end - start) (drop start (take m bytes))) split
    ∙ ap (take (end - start)) (drop-take start (n - start) bytes)
    ∙ take-take (end - start) (n - start) (drop start bytes) shorter
