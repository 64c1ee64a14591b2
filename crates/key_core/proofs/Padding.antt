-- Bytes that are written over the first of some zeros.
use Rattle.std.proofs.Common.{◌≡◌, ℕ, ◌-◌, ◌≤◌, ◌<◌, cond, List, ◌++◌, length, replicate, take, refl, ap, sym, ◌∙◌}
use Rattle.std.proofs.lemmas.Bool.{le-leb, lt-leb}
use Rattle.std.proofs.lemmas.List.{drop-replicate, take_at}
use Rattle.key_core.specs.Algorithms.{padded}
use borrow.Rule.Slice.PartMut.{put_mid}

pub padded-fits : (size : ℕ) (bytes : List ℕ) → length bytes ≤ size → padded size bytes ≡ bytes ++ replicate (size - length bytes) 0
unfolding padded
padded-fits size bytes fits = ap (λ b. cond b (bytes ++ replicate (size - length bytes) 0) (replicate size 0)) (le-leb _ _ fits)

pub put_mid-padded : (size count : ℕ) (bytes part : List ℕ) → length bytes ≤ size → part ≡ bytes → count ≡ length bytes → put_mid 0 count (replicate size 0) part ≡ padded size bytes
put_mid-padded size count bytes part fits same counted =
    ap (λ t. part ++ t) (drop-replicate count size 0) ∙ ap (λ t. t ++ replicate (size - count) 0) same ∙ ap (λ n. bytes ++ replicate (size - n) 0) counted ∙ sym (padded-fits size bytes fits)

pub zeros-padded : (size : ℕ) (bytes : List ℕ) → size < length bytes → replicate size 0 ≡ padded size bytes
unfolding padded
zeros-padded size bytes over = ap (λ b. cond b (bytes ++ replicate (size - length bytes) 0) (replicate size 0)) (sym (lt-leb _ _ over))

-- the bytes are the first of what they are padded to
pub take-padded : (size : ℕ) (bytes : List ℕ) → length bytes ≤ size → take (length bytes) (padded size bytes) ≡ bytes
take-padded size bytes fits = ap (take (length bytes)) (padded-fits size bytes fits) ∙ take_at bytes (replicate (size - length bytes) 0) (length bytes) refl
