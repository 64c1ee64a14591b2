-- How calls that read a disk compose, and pieces of a body.
use Rattle.std.proofs.Common.{◌≡◌, ℕ, ◌+◌, ◌*◌, ◌/◌, ◌%◌, ◌-◌, ◌≤◌, ◌<◌, min, Bool, false, Result, Ok, Err, List, [], ◌++◌, length, take}
use Rattle.std.proofs.Common.{drop, refl, ap, sym, subst, ◌∙◌, arith, append_assoc, append-nil, length-append}
use Rattle.std.specs.Prelude.{IsTrue, OnOk}
use Rattle.std.proofs.lemmas.Bool.{false≢true}
use Rattle.std.proofs.lemmas.List.{drop-drop}
use Rattle.std.proofs.Math.Seq.{take-add}
use Rattle.board_core.specs.Counters.{Observed}
use Rattle.board_core.specs.declared.counters.Counters.{Counters}
use Rattle.board_core.specs.Disk.{DiskMedium, DiskState, LeftDiskTorn, ReadsDisk}
use Rattle.board_core.specs.Flash.{range}
use Rattle.board_core.proofs.Stops.{observed_then}
use Rattle.chain_core.specs.Hashing.{HoldsMessage}
use Rattle.chain_core.specs.declared.hasher.Hasher.{Hasher}
use Rattle.kernel_core.specs.KernelBodies.{LooksAtDisk, DiskPiece}

-- ---- calls in turn

observed_none : (a : Counters) → Observed a a false
observed_none a = record {
  later = omega arith;
  cause = λ f. absurd
      (false≢true f);
  no_fault = λ f. refl;
  failed_changes = refl;
  stop = refl;
  settings = refl;
}

pub looks_none : (n : ℕ) (a : DiskState) → LooksAtDisk n a a false
looks_none n a = record {
  counters = observed_none a.counters;
  sectors = refl;
  told = refl;
  bytes = λ told. refl;
  kept = λ e. refl;
  none_pending = λ f. absurd (false≢true f);
  err = λ told f. absurd (false≢true f);
  no_fewer = λ told. omega arith;
  no_more = λ told. omega arith;
}

torn_again : (sectors_read : ℕ) (a c : DiskMedium)
    → LeftDiskTorn (record a { sectors_read = sectors_read }).writes [] (record a { sectors_read = sectors_read }) c
    → LeftDiskTorn a.writes [] a c
torn_again sectors_read a c left = record { count = left.count; within = left.within; bytes = left.bytes; kept = left.kept; noted = left.noted; writes_end = left.writes_end }

pub looks_then : (m n : ℕ) (a b c : DiskState) (failed : Bool) → LooksAtDisk m a b false → LooksAtDisk n b c failed
    → LooksAtDisk (m + n) a c failed
looks_then m n a b c failed first second =
    let medium : b.medium ≡ record a.medium { sectors_read = b.medium.sectors_read } = first.kept refl in
    let told : IsTrue a.medium.told → IsTrue b.medium.told = λ t. first.told ∙ t in
    record {
      counters = observed_then a.counters b.counters c.counters failed first.counters second.counters;
      sectors = second.sectors ∙ first.sectors;
      told = second.told ∙ first.told;
      bytes = λ t. second.bytes (told t) ∙ first.bytes t;
      kept = λ e. second.kept e ∙ ap (λ (d : DiskMedium). record d { sectors_read = c.medium.sectors_read }) medium;
      none_pending = second.none_pending;
      err = λ t f. torn_again b.medium.sectors_read a.medium c.medium
          (subst (λ (d : DiskMedium). LeftDiskTorn d.writes [] d c.medium) medium (second.err (told t) f));
      no_fewer = λ t. let one = first.no_fewer t in let two = second.no_fewer (told t) in omega (arith, one, two);
      no_more = λ t. let one = first.no_more t in let two = second.no_more (told t) in omega (arith, one, two);
    }

pub looks_more : (m n : ℕ) (a b : DiskState) (failed : Bool) → m ≤ n → LooksAtDisk m a b failed → LooksAtDisk n a b failed
looks_more m n a b failed less looks = record {
  counters = looks.counters;
  sectors = looks.sectors;
  told = looks.told;
  bytes = looks.bytes;
  kept = looks.kept;
  none_pending = looks.none_pending;
  err = looks.err;
  no_fewer = looks.no_fewer;
  no_more = λ t. let one = looks.no_more t in omega (arith, one, less);
}

-- ---- pieces

pub piece_none : (at : ℕ) (disk : DiskState) (hasher : Hasher) (body : List ℕ) → DiskPiece at 0 disk hasher hasher body body
piece_none at disk hasher body = record {
  bytes = [];
  many = refl;
  behind = sym (append-nil body);
  filled = λ told. refl;
  taken = λ algorithm message holds. subst (HoldsMessage algorithm hasher) (sym (append-nil message)) holds;
}

pub range-add : (xs : List ℕ) (at m n : ℕ) → range xs at (m + n) ≡ range xs at m ++ range xs (at + m) n
range-add xs at m n = take-add m n (drop at xs) ∙ ap (λ (rest : List ℕ). take m (drop at xs) ++ take n rest) (drop-drop m at xs)

pub piece_then : (at m n from : ℕ) (disk disk' : DiskState) (hasher hasher' hasher'' : Hasher) (body body' body'' : List ℕ) (looked : ℕ)
    → LooksAtDisk looked disk disk' false → from ≡ at + m
    → DiskPiece at m disk hasher hasher' body body' → DiskPiece from n disk' hasher' hasher'' body' body''
    → DiskPiece at (m + n) disk hasher hasher'' body body''
piece_then at m n from disk disk' hasher hasher' hasher'' body body' body'' looked looks place one two = record {
  bytes = one.bytes ++ two.bytes;
  many = length-append one.bytes two.bytes ∙ ap (λ (k : ℕ). k + length two.bytes) one.many ∙ ap (λ (k : ℕ). m + k) two.many;
  behind = two.behind ∙ ap (λ (xs : List ℕ). xs ++ two.bytes) one.behind ∙ append_assoc body one.bytes two.bytes;
  filled = λ told.
      ap (λ (xs : List ℕ). xs ++ two.bytes) (one.filled told)
      ∙ ap (λ (xs : List ℕ). range disk.medium.bytes at m ++ xs)
      (two.filled (looks.told ∙ told) ∙ ap (λ (xs : List ℕ). range xs from n) (looks.bytes told) ∙ ap
      (λ (k : ℕ). range disk.medium.bytes k n) place)
      ∙ sym (range-add disk.medium.bytes at m n);
  taken = λ algorithm message holds. subst (HoldsMessage algorithm hasher'') (append_assoc message one.bytes two.bytes)
      (two.taken algorithm (message ++ one.bytes) (one.taken algorithm message holds));
}

-- ---- places

-- so many whole pieces, and then a piece
pub sectors_then : (done count : ℕ) → done % 512 ≡ 0 → (done + 511) / 512 + (count + 511) / 512 ≡ (done + count + 511) / 512
sectors_then done count aligned = grind arith

pub place_is : (lba done : ℕ) → done % 512 ≡ 0 → (lba + done / 512) * 512 ≡ lba * 512 + done
place_is lba done aligned = grind arith

aligned_more : (done count : ℕ) → done % 512 ≡ 0 → count ≡ 65536 → (done + count) % 512 ≡ 0
aligned_more done count aligned whole = grind arith

pub aligned_then : (done len count : ℕ) → count ≡ min (len - done) 65536 → done < len → done % 512 ≡ 0 → done + count < len
    → (done + count) % 512 ≡ 0
aligned_then done len count is before aligned after =
    let whole : count ≡ 65536 = omega (arith, is, before, after) in
    aligned_more done count aligned whole

-- ---- one read

-- bytes that were read are those that the disk holds after it
pub read_after : {E : Type 0} (lba size : ℕ) (buf : List ℕ) (old new : DiskState) (result : Result Unit E)
    → ReadsDisk lba buf old new result → length buf ≡ size → IsTrue new.medium.told
    → OnOk result (buf ≡ range new.medium.bytes (lba * 512) size)
read_after lba size buf old new (Ok x) reads long told =
    let before : IsTrue old.medium.told = sym reads.told ∙ told in
    reads.filled before
    ∙ ap (λ (bytes : List ℕ). range bytes (lba * 512) (length buf)) (sym (reads.bytes before))
    ∙ ap (λ (n : ℕ). range new.medium.bytes (lba * 512) n) long
read_after lba size buf old new (Err e) reads long told = tt
