-- The attributes of all entries, one after the other.
use Rattle.std.proofs.Common.{◌≡◌, ◌∙◌, ℕ, zero, suc, ◌+◌, ◌*◌, ◌<◌, ◌≤◌, List, length, refl, ap, arith}
use Rattle.byteorder.specs.Endian.{little_bytes}
use Rattle.byteorder.specs.Numbers.{length-bytes_low_first}
use Rattle.board_core.proofs.Overlays.{length-spliced}
use Rattle.gpt_core.specs.Entries.{with_attributes}
use Rattle.gpt_core.specs.Format.{PartitionTable, IsValidTable}
use Rattle.gpt_core.specs.Placing.{with_each}
use Rattle.gpt_core.proofs.Validity.{attributes_valid}

pub each_none : (f : ℕ → ℕ) (entries : List ℕ) → with_each 0 f entries ≡ entries
unfolding with_each
each_none f entries = refl

-- one more
pub each_more : (k : ℕ) (f : ℕ → ℕ) (entries : List ℕ) → with_each (k + 1) f entries ≡ with_attributes (with_each k f entries) k (f k)
unfolding with_each
each_more k f entries =
    let next : k + 1 ≡ suc k = omega arith in
    ap (λ (n : ℕ). with_each n f entries) next

pub set_length : (entries : List ℕ) (k value : ℕ) → 128 * k + 56 ≤ length entries → length (with_attributes entries k value) ≡ length entries
set_length entries k value within =
    let wide = length-bytes_low_first 0 8 value in
    length-spliced entries (128 * k + 48) (little_bytes 8 value) (omega (arith, wide))

pub each_length : (count : ℕ) (f : ℕ → ℕ) (entries : List ℕ) → length entries ≡ 16384 → count ≤ 128 → length (with_each count f entries) ≡ 16384
unfolding with_each
each_length zero f entries size within = size
each_length (suc k) f entries size within =
    let before = each_length k f entries size (omega arith) in
    set_length (with_each k f entries) k (f k) (omega (arith, before)) ∙ before

-- the table can stand on the disk
pub each_valid : (sectors count : ℕ) (table : PartitionTable) (f : ℕ → ℕ) → IsValidTable sectors table → count ≤ 128
    → IsValidTable sectors (record table { entries = with_each count f table.entries })
unfolding with_each
each_valid sectors zero table f valid within = valid
each_valid sectors (suc k) table f valid within =
    let before = each_valid sectors k table f valid (omega arith) in
    let size = each_length k f table.entries valid.entries (omega arith) in
    attributes_valid sectors (record table { entries = with_each k f table.entries }) k (f k) (omega arith) before
    (set_length (with_each k f table.entries) k (f k) (omega (arith, size)) ∙ size)

-- the same attributes give the same entries
pub each_same : (count : ℕ) (one two : ℕ → ℕ) (entries : List ℕ) → ((k : ℕ) → k < count → one k ≡ two k) → with_each count one entries ≡ with_each count two entries
unfolding with_each
each_same zero one two entries same = refl
each_same (suc k) one two entries same =
    ap (λ (x : List ℕ). with_attributes x k (one k)) (each_same k one two entries (λ j below. same j (omega arith)))
    ∙ ap (with_attributes (with_each k two entries) k) (same k (omega arith))
