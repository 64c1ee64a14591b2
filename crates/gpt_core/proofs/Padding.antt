-- Bytes with zeros behind them.
use Rattle.std.proofs.Common.{◌≡◌, ℕ, zero, suc, ◌+◌, ◌-◌, ◌≤◌, List, ◌++◌, length, take, drop, replicate, ap, sym, ◌∙◌, arith, length-append}
use Rattle.std.proofs.lemmas.List.{drop_at, length-take-le, append_assoc}
use Rattle.gpt_core.specs.Room.{IsPadded}
use borrow.Rule.Slice.PartMut.{put_mid}

pub drop-zeros : (k n : ℕ) → drop {A = ℕ} k (replicate n 0) ≡ replicate (n - k) 0
drop-zeros zero n =
    let whole : n - zero ≡ n = omega arith in
    ap (λ m. replicate m 0) (sym whole)
drop-zeros (suc k) zero =
    let none : zero - suc k ≡ zero = omega arith in
    ap (λ m. replicate m 0) (sym none)
drop-zeros (suc k) (suc n) =
    let less : suc n - suc k ≡ n - k = omega arith in
    drop-zeros k n ∙ ap (λ m. replicate m 0) (sym less)

-- some more bytes in the place of as many of the zeros
pub padded_after : (len : ℕ) (bytes more : List ℕ) (count : ℕ) → length more ≡ count → IsPadded len bytes → len + count ≤ 512 → length bytes ≡ 512 → IsPadded (len + count) (put_mid len (len + count - len) bytes more)
padded_after len bytes more count is padded fits size =
    let front : length (take len bytes ++ more) ≡ len + count = omega (arith, length-append (take len bytes) more, length-take-le len bytes (omega arith)) in
    let count_is : len + count - len ≡ count = omega arith in
    let rest : 512 - len - count ≡ 512 - (len + count) = omega arith in
    record {
      fits = fits;
      zeros = ap (drop (len + count)) (sym (append_assoc (take len bytes) more (drop (len + count - len) (drop len bytes))))
          ∙ drop_at (take len bytes ++ more) (drop (len + count - len) (drop len bytes)) (len + count) front
          ∙ ap (λ n. drop n (drop len bytes)) count_is
          ∙ ap (drop count) padded.zeros ∙ drop-zeros count (512 - len) ∙ ap (λ n. replicate n 0) rest;
    }
