-- A body is what of it lies in the head's bytes, and then the rest.
use Rattle.std.proofs.Common.{◌≡◌, ℕ, zero, suc, ◌+◌, ◌*◌, ◌-◌, ◌/◌, ◌≤◌, ◌<◌, min, false, List, [], ◌++◌, Ok, length, refl, ap, sym, subst}
use Rattle.std.proofs.Common.{◌∙◌, arith, length-append}
use Rattle.std.specs.Prelude.{IsTrue}
use Rattle.board_core.specs.Disk.{DiskState}
use Rattle.board_core.specs.Flash.{range}
use Rattle.rom_core.proofs.Ranges.{range-range, length-range}
use Rattle.chain_core.specs.Hashing.{HoldsMessage}
use Rattle.chain_core.specs.declared.hasher.Hasher.{Hasher}
use Rattle.kernel_core.specs.KernelBodies.{LooksAtDisk, DiskPiece, TakesFront, ReadsKernelBody}
use Rattle.kernel_core.proofs.DiskLooks.{range-add}

rest_range : (bytes : List ℕ) (a b k : ℕ) → (0 < k → a ≡ b) → range bytes a k ≡ range bytes b k
rest_range bytes a b zero h = refl
rest_range bytes a b (suc k) h = ap (λ (n : ℕ). range bytes n (suc k)) (h (omega arith))

pub body_read : {E : Type 0} (first at len front algorithm : ℕ) (disk disk' : DiskState) (vblock : List ℕ)
    (hasher hasher' hasher'' : Hasher) (body body' body'' : List ℕ)
    → at ≤ 65536 → length vblock ≡ 65536 → front ≡ min len (65536 - at) → HoldsMessage algorithm hasher [] → body ≡ []
    → TakesFront at front vblock hasher hasher' body body'
    → (IsTrue disk.medium.told → vblock ≡ range disk.medium.bytes (first * 512) 65536)
    → LooksAtDisk ((len - front + 511) / 512) disk disk' false
    → DiskPiece ((first + 128) * 512) (len - front) disk hasher' hasher'' body' body''
    → ReadsKernelBody {E = E} first at len algorithm disk disk' body'' (Ok hasher'')
body_read first at len front algorithm disk disk' vblock hasher hasher' hasher'' body body' body'' before long count holds empty taken head looks rest =
    let within : at + front ≤ length vblock = omega (arith, before, long, count) in
    let left : len - front ≡ at + len - 65536 = omega (arith, before, count) in
    let all : front + (len - front) ≡ len = omega (arith, count) in
    let start : body' ≡ range vblock at front = taken.behind ∙ ap (λ (xs : List ℕ). xs ++ range vblock at front) empty in
    let whole : body'' ≡ range vblock at front ++ rest.bytes = rest.behind ∙ ap (λ (xs : List ℕ). xs ++ rest.bytes) start in
    record {
      looks = subst (λ (n : ℕ). LooksAtDisk ((n + 511) / 512) disk disk' false) left looks;
      hashed = subst (HoldsMessage algorithm hasher'') (sym whole)
          (rest.taken algorithm (range vblock at front) (taken.taken algorithm [] holds));
      many =
          ap (λ (xs : List ℕ). length xs) whole
          ∙ length-append (range vblock at front) rest.bytes
          ∙ ap (λ (n : ℕ). n + length rest.bytes) (length-range vblock at front within)
          ∙ ap (λ (n : ℕ). front + n) rest.many
          ∙ all;
      filled = λ told.
          whole
          ∙ ap (λ (xs : List ℕ). range xs at front ++ rest.bytes) (head told)
          ∙ ap (λ (xs : List ℕ). xs ++ rest.bytes) (range-range disk.medium.bytes (first * 512) 65536 at front
          (omega (arith, within, long)))
          ∙ ap (λ (xs : List ℕ). range disk.medium.bytes (first * 512 + at) front ++ xs)
          (rest.filled told ∙ rest_range disk.medium.bytes ((first + 128) * 512) (first * 512 + at + front) (len - front)
          (λ some. omega (arith, some, count, before)))
          ∙ sym (range-add disk.medium.bytes (first * 512 + at) front (len - front))
          ∙ ap (range disk.medium.bytes (first * 512 + at)) all;
    }
