-- The pieces of a drive, one after another.
use Rattle.std.proofs.Common.{◌≡◌, ℕ, ◌+◌, ◌*◌, ◌≤◌, ◌<◌, List, [], ◌++◌, length, drop, refl, sym, ap, subst, ◌∙◌, arith, Bool, true, false, IsTrue}
use Rattle.std.proofs.lemmas.List.{take_all, drop_all, append-nil}
use Rattle.std.specs.Prelude.{◌%◌, Result, is_err}
use Rattle.std.proofs.lemmas.List.Elements.{All-nil}
use Rattle.std.proofs.lemmas.Bool.{false≢true}
use Rattle.board_core.specs.declared.torn.Torn.{Torn}
use Rattle.board_core.specs.Counters.{MadeChanges}
use Rattle.board_core.specs.Flash.{range, spliced}
use Rattle.board_core.specs.Disk.{DiskState, LeftDiskTorn, IsSectorOf, write_records, WritesDisk, Flushes}
use Rattle.board_core.proofs.DiskTorn.{left_disk_torn_from, left_disk_torn_run}
use Rattle.board_core.proofs.FuseLemmas.{on_ok_at, on_err_at}
use Rattle.board_core.proofs.FuseDiskLemmas.{settled_writes}
use Rattle.board_core.proofs.Stops.{made_none, made_then}
use Rattle.board_core.proofs.WriteRecords.{made_within, same_records, over_range, sectors_of-write}
use Rattle.make_core.specs.Writing.{begun}
use Rattle.make_core.specs.DriveWrites.{with_bytes, WritesPiece, WritesDrive, WritesStick}
use Rattle.make_core.proofs.FlashWrites.{begun-more}
use Rattle.make_core.proofs.PageWrites.{not_both}

-- ---- one piece

-- the write failed
pub piece_unwritten : {E : Type 0} (lba : ℕ) (meant : List ℕ) (old new : DiskState) (result : Result Unit E) → (IsTrue old.medium.told → length old.medium.writes ≡ old.medium.pending) → old.medium.pending ≡ 0
    → WritesDisk lba meant old new result → is_err result ≡ true → WritesPiece lba meant old new true
piece_unwritten lba meant old new result listed settled writes failed = record {
  counters = made_within _ _ 1 2 (omega arith) (subst (λ (f : Bool). MadeChanges old.counters new.counters 1 f) failed writes.counters.made);
  sectors = writes.sectors;
  told = writes.told;
  sectors_read = writes.sectors_read;
  none_pending = on_err_at result failed writes.none_pending;
  bytes = λ told fine. not_both fine;
  torn = λ told fine. not_both fine;
  err = λ told e.
      subst (λ (l : List Torn). LeftDiskTorn l (write_records lba meant old.medium) old.medium new.medium) (settled_writes old.medium settled listed told)
      (on_err_at result failed (writes.err told));
}

-- the write was made, and the flush failed
pub piece_unflushed : {E E' : Type 0} (lba : ℕ) (meant : List ℕ) (old mid new : DiskState) (one : Result Unit E) (two : Result Unit E') → length meant % 512 ≡ 0 → lba * 512 + length meant ≤ old.medium.sectors * 512
    → (IsTrue old.medium.told → length old.medium.bytes ≡ old.medium.sectors * 512) → (IsTrue old.medium.told → length old.medium.writes ≡ old.medium.pending) → old.medium.pending ≡ 0
    → WritesDisk lba meant old mid one → Flushes mid new two → is_err one ≡ false → is_err two ≡ true → WritesPiece lba meant old new true
piece_unflushed lba meant old mid new one two whole inside full listed settled writes flushes fine failed =
    let records = write_records lba meant old.medium in
    let size = old.medium.sectors * 512 in
    record {
      counters = made_then _ _ _ 1 1 true (subst (λ (f : Bool). MadeChanges old.counters mid.counters 1 f) fine writes.counters.made) (subst (λ (f : Bool). MadeChanges mid.counters new.counters 1 f) failed flushes.counters.made);
      sectors = flushes.sectors ∙ writes.sectors;
      told = flushes.told ∙ writes.told;
      sectors_read = flushes.sectors_read ∙ writes.sectors_read;
      none_pending = flushes.none_pending;
      bytes = λ told f. not_both f;
      torn = λ told f. not_both f;
      err = λ told e.
          let told' = subst IsTrue (sym writes.told) told in
          let pending : mid.medium.writes ≡ records =
          on_ok_at one fine (writes.writes told) ∙ ap (λ (l : List Torn). l ++ records) (settled_writes old.medium settled listed told) in
          let run = left_disk_torn_run size records [] old.medium mid.medium new.medium (full told) (sectors_of-write lba size meant old.medium whole inside) (All-nil (IsSectorOf size))
          (over_range lba meant old.medium mid.medium whole (omega (arith, full told, inside)) (on_ok_at one fine (writes.bytes told))) (on_ok_at one fine (writes.torn told)) pending
          (on_err_at two failed (flushes.err told')) in
          subst (λ (l : List Torn). LeftDiskTorn [] l old.medium new.medium) (append-nil records) run;
    }

-- both were made
pub piece_written : {E E' : Type 0} (lba : ℕ) (meant : List ℕ) (old mid new : DiskState) (one : Result Unit E) (two : Result Unit E')
    → WritesDisk lba meant old mid one → Flushes mid new two → is_err one ≡ false → is_err two ≡ false → WritesPiece lba meant old new false
piece_written lba meant old mid new one two writes flushes fine fine' = record {
  counters = made_then _ _ _ 1 1 false (subst (λ (f : Bool). MadeChanges old.counters mid.counters 1 f) fine writes.counters.made) (subst (λ (f : Bool). MadeChanges mid.counters new.counters 1 f) fine' flushes.counters.made);
  sectors = flushes.sectors ∙ writes.sectors;
  told = flushes.told ∙ writes.told;
  sectors_read = flushes.sectors_read ∙ writes.sectors_read;
  none_pending = flushes.none_pending;
  bytes = λ told f. (on_ok_at two fine' (flushes.ok (subst IsTrue (sym writes.told) told))).bytes ∙ on_ok_at one fine (writes.bytes told);
  torn = λ told f. (on_ok_at two fine' (flushes.ok (subst IsTrue (sym writes.told) told))).torn ∙ on_ok_at one fine (writes.torn told);
  err = λ told e. absurd (false≢true e);
}

-- ---- all of them

-- So many pieces of a drive were made those of an image.
pub record WrittenPieces (image : List ℕ) (pieces : ℕ) (old new : DiskState) : Type 0 where
  pub counters : MadeChanges old.counters new.counters (pieces * 2) false
  pub sectors : new.medium.sectors ≡ old.medium.sectors
  pub told : new.medium.told ≡ old.medium.told
  pub sectors_read : new.medium.sectors_read ≡ old.medium.sectors_read
  pub none_pending : new.medium.pending ≡ 0
  pub bytes : IsTrue old.medium.told → new.medium.bytes ≡ begun (pieces * 32768) image old.medium.bytes
  pub torn : IsTrue old.medium.told → new.medium.torn ≡ old.medium.torn

pub pieces_none : (image : List ℕ) (state : DiskState) → state.medium.pending ≡ 0 → WrittenPieces image 0 state state
pieces_none image state settled = record {
  counters = made_none state.counters;
  sectors = refl;
  told = refl;
  sectors_read = refl;
  none_pending = settled;
  bytes = λ told. refl;
  torn = λ told. refl;
}

pub pieces_more : (image : List ℕ) (pieces : ℕ) (old mid new : DiskState) → pieces < 256 → length image ≡ 8388608 → (IsTrue old.medium.told → length old.medium.bytes ≡ 8388608)
    → WrittenPieces image pieces old mid → WritesPiece (pieces * 64) (range image (pieces * 32768) 32768) mid new false → WrittenPieces image (pieces + 1) old new
pieces_more image pieces old mid new under long full so_far writes =
    let at = pieces * 32768 in
    let piece = range image at 32768 in
    let twice : pieces * 2 + 2 ≡ (pieces + 1) * 2 = omega arith in
    let told_mid : IsTrue old.medium.told → IsTrue mid.medium.told = λ told. subst IsTrue (sym so_far.told) told in
    record {
      counters = subst (λ (n : ℕ). MadeChanges old.counters new.counters n false) twice (made_then _ _ _ (pieces * 2) 2 false so_far.counters writes.counters);
      sectors = writes.sectors ∙ so_far.sectors;
      told = writes.told ∙ so_far.told;
      sectors_read = writes.sectors_read ∙ so_far.sectors_read;
      none_pending = writes.none_pending;
      bytes = λ told.
          let place : pieces * 64 * 512 ≡ at = omega arith in
          let next : at + 32768 ≡ (pieces + 1) * 32768 = omega arith in
          writes.bytes (told_mid told) refl
          ∙ ap (λ (k : ℕ). spliced mid.medium.bytes k piece) place
          ∙ ap (λ (b : List ℕ). spliced b at piece) (so_far.bytes told)
          ∙ begun-more at 32768 image old.medium.bytes (omega (arith, under, long)) (omega (arith, under, full told))
          ∙ ap (λ (n : ℕ). begun n image old.medium.bytes) next;
      torn = λ told. writes.torn (told_mid told) refl ∙ so_far.torn told;
    }

pub pieces_stopped : (image : List ℕ) (pieces : ℕ) (old mid new : DiskState) → pieces < 256 → WrittenPieces image pieces old mid → WritesPiece (pieces * 64) (range image (pieces * 32768) 32768) mid new true → WritesDrive image old new true
pieces_stopped image pieces old mid new under so_far writes =
    let lba = pieces * 64 in
    let piece = range image (pieces * 32768) 32768 in
    let base = with_bytes (begun (pieces * 32768) image old.medium.bytes) old.medium in
    let told_mid : IsTrue old.medium.told → IsTrue mid.medium.told = λ told. subst IsTrue (sym so_far.told) told in
    record {
      counters = made_within _ _ (pieces * 2 + 2) 512 (omega (arith, under)) (made_then _ _ _ (pieces * 2) 2 true so_far.counters writes.counters);
      sectors = writes.sectors ∙ so_far.sectors;
      told = writes.told ∙ so_far.told;
      sectors_read = writes.sectors_read ∙ so_far.sectors_read;
      none_pending = writes.none_pending;
      bytes = λ told fine. not_both fine;
      torn = λ told fine. not_both fine;
      err = λ told failed. record {
        piece = pieces;
        among = under;
        left = subst (λ (own : List Torn). LeftDiskTorn [] own base new.medium) (same_records lba piece mid.medium base (so_far.bytes told))
            (left_disk_torn_from [] (write_records lba piece mid.medium) mid.medium base new.medium (sym (so_far.bytes told)) (sym (so_far.torn told)) (writes.err (told_mid told) failed));
      };
    }

pub pieces_all : (image : List ℕ) (old new : DiskState) → length image ≡ 8388608 → (IsTrue old.medium.told → length old.medium.bytes ≡ 8388608) → WrittenPieces image 256 old new → WritesDrive image old new false
pieces_all image old new long full so_far = record {
  counters = so_far.counters;
  sectors = so_far.sectors;
  told = so_far.told;
  sectors_read = so_far.sectors_read;
  none_pending = so_far.none_pending;
  bytes = λ told fine.
      so_far.bytes told
      ∙ ap (λ (l : List ℕ). l ++ drop 8388608 old.medium.bytes) (take_all 8388608 image (omega (arith, long)))
      ∙ ap (λ (l : List ℕ). image ++ l) (drop_all 8388608 old.medium.bytes (omega (arith, full told))) ∙ append-nil image;
  torn = λ told fine. so_far.torn told;
  err = λ told failed. absurd (false≢true failed);
}

-- a stick of no sectors
pub stick_absent : (image : List ℕ) (n : ℕ) (state : DiskState) → n ≡ 0 → WritesStick image n state state false
stick_absent image n state none = subst (λ (k : ℕ). WritesStick image k state state false) (sym none) (refl, refl)

-- and one that has some
pub stick_there : (old new : DiskState) (image : List ℕ) (n : ℕ) (failed : Bool) → n ≡ 16384 → WritesDrive image old new failed → WritesStick image n old new failed
stick_there old new image n failed some writes = subst (λ (k : ℕ). WritesStick image k old new failed) (sym some) writes

-- the same image by another name
pub drive_as : (image meant : List ℕ) (old new : DiskState) (failed : Bool) → image ≡ meant → WritesDrive image old new failed → WritesDrive meant old new failed
drive_as image meant old new failed same writes = subst (λ (l : List ℕ). WritesDrive l old new failed) same writes
