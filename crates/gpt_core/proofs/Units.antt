-- Numbers of two bytes each, and zeros.
use Rattle.std.proofs.Common.{◌≡◌, ℕ, zero, suc, ◌+◌, ◌*◌, ◌<◌, List, get_or, length, drop, replicate, refl, ap, sym, ◌∙◌, arith}
use Rattle.std.proofs.lemmas.List.{drop-drop, length-replicate}
use Rattle.std.proofs.lemmas.Grind.{same_number_lists}
use Rattle.byteorder.specs.Endian.{little_number, IsRead}
use Rattle.gpt_core.specs.Entries.{units_in, zeros}

length-units : (count : ℕ) (bytes : List ℕ) → length (units_in count bytes) ≡ count
unfolding units_in
length-units zero bytes = refl
length-units (suc count) bytes = ap (λ n. suc n) (length-units count (drop 2 bytes))

unit_at : (count k : ℕ) (bytes : List ℕ) → k < count → get_or (units_in count bytes) k 0 ≡ little_number 2 (drop (2 * k) bytes)
unfolding units_in
unit_at zero k bytes below = absurd (omega arith)
unit_at (suc count) zero bytes below = refl
unit_at (suc count) (suc k) bytes below =
    let twice : 2 + 2 * k ≡ 2 * suc k = omega arith in
    unit_at count k (drop 2 bytes) (omega arith) ∙ ap (little_number 2) (drop-drop (2 * k) 2 bytes ∙ ap (λ n. drop n bytes) twice)

-- what is read of so many is all of them
pub units_read : (count : ℕ) (bytes units : List ℕ) → length units ≡ count → IsRead little_number 2 bytes units → units ≡ units_in count bytes
units_read count bytes units size read =
    same_number_lists units (units_in count bytes) (size ∙ sym (length-units count bytes)) (λ k below. read k below ∙ sym (unit_at count k bytes (omega (arith, size))))

pub length-zeros : (count : ℕ) → length (zeros count) ≡ count
unfolding zeros
length-zeros count = length-replicate {A = ℕ} count 0

pub zeros_are : (count : ℕ) → replicate count 0 ≡ zeros count
unfolding zeros
zeros_are count = refl
