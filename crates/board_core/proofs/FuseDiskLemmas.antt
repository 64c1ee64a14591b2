-- What the parts of a fuse's calls make of the disk below and of the fuse's list and log.
use Rattle.std.proofs.Common.{◌≡◌, ℕ, ◌+◌, ◌*◌, ◌/◌, ◌%◌, ◌≤◌, List, [], ◌∷◌, ◌++◌, length, take, drop, IsTrue, refl, sym, ap, ◌∙◌, subst, arith, append_assoc, length-append, length-take, length-drop}
use Rattle.std.proofs.lemmas.List.{take_all}
use Rattle.std.proofs.lemmas.List.Elements.{All-nil, All-append}
use Rattle.std.proofs.lemmas.Result.{on_ok_weaker, on_err_weaker}
use Rattle.std.specs.Prelude.{All, Result, Ok, Err, is_err, false, OnOk, ◌^◌, ◌-◌}
use Rattle.board_core.specs.declared.torn.Torn.{Torn}
use Rattle.board_core.specs.Counters.{Observed, Changed}
use Rattle.board_core.specs.declared.counters.Counters.{Counters}
use Rattle.board_core.specs.declared.device.Failed.{Failed}
use Rattle.board_core.specs.declared.disk.Disk.{Ghosts}
use Rattle.board_core.specs.declared.fuse_disk.FuseDisk.{FuseDisk}
use Rattle.board_core.specs.declared.counters.FuseState.{FuseState}
use Rattle.board_core.specs.declared.counters.FuseState.TheVariants.{Unarmed}
use Rattle.board_core.specs.FuseDisk.{state_below, PassesWrite}
use Rattle.board_core.specs.Torn.{Logs, torn_records}
use Rattle.board_core.specs.Flash.{range, spliced}
use Rattle.board_core.specs.Disk.{DiskMedium, DiskState, LeftDiskTorn, ReadsDisk, WritesDisk, Flushes, Flushed, advanced, overlaid, IsSectorOf, AreRecordsOf, write_records}
use Rattle.board_core.specs.FuseDiskParts.{with_disk_log, Mirrors, WritesContent, WritesAfterRead}
use Rattle.board_core.proofs.TornRange.{spliced_tail}
use Rattle.board_core.proofs.Overlays.{overlaid-append, overlaid-again, overlaid-range, records_of-same, records_of-range, records_of-append, sectors_of-range, length-torn_records}
use Rattle.board_core.proofs.DiskTorn.{left_disk_torn_noted, left_disk_torn_counted, left_disk_torn_uncounted, left_disk_torn_with_log, left_disk_torn_front, left_disk_torn_refused, records-front}

-- a failure carries no more than that it is one
same_answer : (a b : Result Unit Failed) → is_err a ≡ is_err b → a ≡ b
same_answer (Ok done) (Ok done') same = refl
same_answer (Ok done) (Err failure) same = absurd (cc)
same_answer (Err failure) (Ok done) same = absurd (cc)
same_answer (Err failure) (Err failure') same = refl

-- the disk read the old bytes, and then it did and answered what its write does
pub writes_after_read : (lba : ℕ) (was meant : List ℕ) (old mid new : DiskState) (read answer result : Result Unit Failed) → length was ≡ length meant → is_err read ≡ false → is_err answer ≡ is_err result
    → ReadsDisk lba was old mid read → WritesDisk lba meant mid new answer → WritesAfterRead lba meant old new result
writes_after_read lba was meant old mid new read answer result fits good same reads writes = record {
  was = was;
  fits = fits;
  mid = mid;
  read = subst (λ (r : Result Unit Failed). ReadsDisk lba was old mid r) (same_answer read (Ok tt) good) reads;
  written = subst (λ (r : Result Unit Failed). WritesDisk lba meant mid new r) (same_answer answer result same) writes;
}

-- the sectors of a list and of one more write
pub sectors_more : (lba size : ℕ) (was meant : List ℕ) (writes : List Torn) → All (IsSectorOf (size * 512)) writes → length meant % 512 ≡ 0 → lba + length meant / 512 ≤ size → All (IsSectorOf (size * 512)) (writes ++ torn_records (lba * 512) was meant meant)
sectors_more lba size was meant writes sectors whole inside =
    All-append (IsSectorOf (size * 512)) writes (torn_records (lba * 512) was meant meant) sectors (sectors_of-range (size * 512) (lba * 512) was meant meant whole (omega arith))

-- a write put over is its records put over, and the pending ones before it
written_over : (lba : ℕ) (was meant bytes : List ℕ) (writes : List Torn) → length meant % 512 ≡ 0 → lba * 512 + length meant ≤ length bytes → overlaid bytes writes ≡ bytes
    → spliced bytes (lba * 512) meant ≡ overlaid bytes (writes ++ torn_records (lba * 512) was meant meant)
written_over lba was meant bytes writes whole inside stand =
    sym (overlaid-range (lba * 512) bytes was meant meant whole refl inside)
    ∙ ap (λ (b : List ℕ). overlaid b (torn_records (lba * 512) was meant meant)) (sym stand)
    ∙ sym (overlaid-append bytes writes (torn_records (lba * 512) was meant meant))

-- one more write is in the list
pub mirrors_more : (lba : ℕ) (was meant : List ℕ) (old new : DiskMedium) (writes noted : List Torn) → Mirrors old writes → length meant % 512 ≡ 0 → lba + length meant / 512 ≤ old.sectors
    → (IsTrue old.told → length old.bytes ≡ old.sectors * 512) → new.sectors ≡ old.sectors → new.told ≡ old.told → new.pending ≡ old.pending + length meant / 512 → old.pending + length meant / 512 ≤ 64
    → (IsTrue old.told → was ≡ range old.bytes (lba * 512) (length meant)) → (IsTrue old.told → new.bytes ≡ spliced old.bytes (lba * 512) meant) → (IsTrue old.told → new.writes ≡ old.writes ++ write_records lba meant old)
    → noted ≡ writes ++ torn_records (lba * 512) was meant meant → Mirrors new noted
mirrors_more lba was meant old new writes noted mirrors whole inside size sectors told pending fit is bytes written same =
    let own = torn_records (lba * 512) was meant meant in
    let all : All (IsSectorOf (old.sectors * 512)) (writes ++ own) = sectors_more lba old.sectors was meant writes mirrors.in_sectors whole inside in
    record {
      as_many = ap length same ∙ omega (arith, length-append writes own, length-torn_records (lba * 512) was meant meant whole, mirrors.as_many);
      few = rw same (omega (arith, length-append writes own, length-torn_records (lba * 512) was meant meant whole, mirrors.as_many));
      in_sectors = rw (sectors, same) all;
      known = λ tells.
          let tells' : IsTrue old.told = subst IsTrue told tells in
          written tells' ∙ ap (λ (l : List Torn). l ++ write_records lba meant old) (mirrors.known tells')
          ∙ ap (λ (w : List ℕ). writes ++ torn_records (lba * 512) w meant meant) (sym (is tells')) ∙ sym same;
      stand = λ tells.
          let tells' : IsTrue old.told = subst IsTrue told tells in
          let over : new.bytes ≡ overlaid old.bytes (writes ++ own) = bytes tells' ∙ written_over lba was meant old.bytes writes whole (omega (arith, size tells')) (mirrors.stand tells') in
          ap (overlaid new.bytes) same ∙ ap (λ (b : List ℕ). overlaid b (writes ++ own)) over
          ∙ overlaid-again (old.sectors * 512) old.bytes (writes ++ own) (writes ++ own) (size tells') all (records_of-same (writes ++ own)) ∙ sym over;
    }

-- a list is also that of a disk from which sectors were read
pub mirrors_read : (old mid : DiskMedium) (n : ℕ) (writes : List Torn) → mid ≡ record old { sectors_read = n } → Mirrors old writes → Mirrors mid writes
mirrors_read old mid n writes same mirrors = subst (λ (m : DiskMedium). Mirrors m writes) (sym same) (record {
  as_many = mirrors.as_many;
  few = mirrors.few;
  in_sectors = mirrors.in_sectors;
  known = mirrors.known;
  stand = mirrors.stand;
})

-- the chosen write kept its first sectors, and the fuse noted each pending sector and the whole range
pub left_disk_torn_kept : (lba kept : ℕ) (was meant left : List ℕ) (old new : DiskMedium) (writes log log' : List Torn) → length meant % 512 ≡ 0 → lba * 512 + length meant ≤ length old.bytes → kept ≤ length meant
    → old.writes ≡ writes → overlaid old.bytes writes ≡ old.bytes → was ≡ range old.bytes (lba * 512) (length meant) → left ≡ take kept meant ++ drop kept was
    → new.bytes ≡ spliced old.bytes (lba * 512) (take kept meant) → new.torn ≡ old.torn → new.writes ≡ [] → log' ≡ (log ++ writes) ++ torn_records (lba * 512) was meant left
    → LeftDiskTorn old.writes (write_records lba meant old) (with_disk_log old log) (with_disk_log new log')
left_disk_torn_kept lba kept was meant left old new writes log log' whole inside within known stand is parts bytes torn settled noted =
    let at = lba * 512 in
    let own = torn_records at was meant left in
    let was_fits : length was ≡ length meant = omega (arith, ap length is, length-take (length meant) (drop at old.bytes), length-drop at old.bytes) in
    let front_fits : length (take kept meant) ≡ kept = omega (arith, length-take kept meant) in
    let fits : length left ≡ length meant = omega (arith, ap length parts, length-append (take kept meant) (drop kept was), length-drop kept was) in
    let over : new.bytes ≡ overlaid old.bytes (writes ++ own) =
    bytes ∙ sym (spliced_tail old.bytes at (length meant) kept (take kept meant) inside within front_fits)
    ∙ ap (λ (w : List ℕ). spliced old.bytes at (take kept meant ++ drop kept w)) (sym is) ∙ ap (spliced old.bytes at) (sym parts)
    ∙ sym (overlaid-range at old.bytes was meant left whole fits (omega arith))
    ∙ ap (λ (b : List ℕ). overlaid b own) (sym stand) ∙ sym (overlaid-append old.bytes writes own) in
    let mine : AreRecordsOf (write_records lba meant old) own = subst (λ (w : List ℕ). AreRecordsOf (torn_records at w meant meant) own) is (records_of-range at was meant meant left) in
    let all : AreRecordsOf (old.writes ++ take (length (write_records lba meant old)) (write_records lba meant old)) (writes ++ own) =
    rw (known, take_all (length (write_records lba meant old)) (write_records lba meant old) (omega arith)) (records_of-append writes (write_records lba meant old) writes own (records_of-same writes) mine) in
    left_disk_torn_noted old.writes (write_records lba meant old) (writes ++ own) (length (write_records lba meant old)) old new log log' (omega arith) torn
    (noted ∙ append_assoc log writes own) all over settled

-- what a change left after a read, which changed only the number of sectors read
pub left_disk_torn_read : (lba : ℕ) (meant : List ℕ) (old mid new : DiskMedium) (n : ℕ) (log log' : List Torn) → mid ≡ record old { sectors_read = n }
    → LeftDiskTorn mid.writes (write_records lba meant mid) (with_disk_log mid log) (with_disk_log new log') → LeftDiskTorn old.writes (write_records lba meant old) (with_disk_log old log) (with_disk_log new log')
left_disk_torn_read lba meant old mid new n log log' same left_torn =
    left_disk_torn_uncounted old.writes (write_records lba meant old) (with_disk_log old log) (with_disk_log new log') n new.sectors_read
    (subst (λ (m : DiskMedium). LeftDiskTorn m.writes (write_records lba meant m) (with_disk_log m log) (with_disk_log new log')) same left_torn)

-- the same of the disk below, which notes it
pub left_disk_torn_read_below : (lba : ℕ) (meant : List ℕ) (old mid new : DiskMedium) (n : ℕ) → mid ≡ record old { sectors_read = n }
    → LeftDiskTorn mid.writes (write_records lba meant mid) mid new → LeftDiskTorn old.writes (write_records lba meant old) old new
left_disk_torn_read_below lba meant old mid new n same left_torn =
    left_disk_torn_uncounted old.writes (write_records lba meant old) old new n new.sectors_read (subst (λ (m : DiskMedium). LeftDiskTorn m.writes (write_records lba meant m) m new) same left_torn)

-- the disk failed in the first sectors of the chosen write, or in the flush after them
pub left_disk_torn_part : (lba kept : ℕ) (meant : List ℕ) (old new : DiskMedium) → kept % 512 ≡ 0 → kept ≤ length meant → length meant % 512 ≡ 0 → lba * 512 + length meant ≤ length old.bytes
    → LeftDiskTorn old.writes (write_records lba (take kept meant) old) old new → LeftDiskTorn old.writes (write_records lba meant old) old new
left_disk_torn_part lba kept meant old new sectors within whole inside left_torn =
    left_disk_torn_front old.writes (write_records lba meant old) (kept / 512) old new
    (subst (λ (own : List Torn). LeftDiskTorn old.writes own old new) (records-front lba kept meant old sectors within whole inside) left_torn)

none_left : (writes : List Torn) → length writes ≡ 0 → writes ≡ []
none_left [] none = refl
none_left (write ∷ writes) none = absurd (omega arith)

-- nothing is pending in a disk, so it tells no pending writes
pub settled_writes : (medium : DiskMedium) → medium.pending ≡ 0 → (IsTrue medium.told → length medium.writes ≡ medium.pending) → IsTrue medium.told → medium.writes ≡ []
settled_writes medium none many told = none_left medium.writes (many told ∙ none)

-- the empty list is that of a disk in which nothing is pending
pub mirrors_none : (medium : DiskMedium) → medium.pending ≡ 0 → (IsTrue medium.told → length medium.writes ≡ medium.pending) → Mirrors medium []
mirrors_none medium none many = record {
  as_many = sym none;
  few = omega arith;
  in_sectors = All-nil (IsSectorOf (medium.sectors * 512));
  known = settled_writes medium none many;
  stand = λ told. refl;
}

-- ---- the calls of a fuse

-- the state of a fuse, by its parts
abbrev pub disk_state_over : DiskMedium → List Torn → ℕ → Counters → DiskState
disk_state_over medium log sectors_read counters = record { medium = record (with_disk_log medium log) { sectors_read = sectors_read }; counters = counters }

-- a read that passed on
pub reads_disk_passed : {E : Type 0} (lba : ℕ) (buf : List ℕ) (below below' : DiskState) (log : List Torn) (n n' : ℕ) (old new : Counters) (answer result : Result Unit E) → ReadsDisk lba buf below below' answer → result ≡ answer
    → Observed old new (is_err result) → n ≤ n' → n' ≤ advanced n (length buf / 512) → OnOk answer (n' ≡ advanced n (length buf / 512)) → ReadsDisk lba buf (disk_state_over below.medium log n old) (disk_state_over below'.medium log n' new) result
reads_disk_passed lba buf below below' log n n' old new answer result reads same observed no_fewer no_more all = record {
  counters = observed;
  sectors = reads.sectors;
  told = reads.told;
  ok = rw same (on_ok_weaker answer (ap (λ (m : DiskMedium). record (with_disk_log m log) { sectors_read = n' })) reads.ok);
  none_pending = rw same reads.none_pending;
  bytes = reads.bytes;
  err = λ told. rw same (on_err_weaker answer (λ (torn : LeftDiskTorn below.medium.writes [] below.medium below'.medium). left_disk_torn_counted below.medium.writes [] (with_disk_log below.medium log) (with_disk_log below'.medium log) n n'
      (left_disk_torn_with_log below.medium.writes [] below.medium below'.medium log torn)) (reads.err told));
  no_fewer = λ told. no_fewer;
  no_more = λ told. no_more;
  all_read = λ told. rw same all;
  filled = λ told. rw same (reads.filled told);
}

-- a read that a dead fuse refused, below which nothing is pending
pub reads_disk_failed : {E : Type 0} (lba : ℕ) (buf : List ℕ) (medium : DiskMedium) (log : List Torn) (n : ℕ) (old new : Counters) (failure : E) (result : Result Unit E) → result ≡ Err failure → Observed old new (is_err result)
    → n ≤ 2 ^ 64 - 1 → medium.pending ≡ 0 → (IsTrue medium.told → medium.writes ≡ []) → ReadsDisk lba buf (disk_state_over medium log n old) (disk_state_over medium log n new) result
reads_disk_failed lba buf medium log n old new failure result failed observed fits none settled = record {
  counters = observed;
  sectors = refl;
  told = refl;
  ok = rw failed tt;
  none_pending = rw failed none;
  bytes = λ told. refl;
  err = λ told. rw failed (left_disk_torn_counted medium.writes [] (with_disk_log medium log) (with_disk_log medium log) n n (left_disk_torn_refused [] medium log (settled told)));
  no_fewer = λ told. omega arith;
  no_more = λ told. omega arith;
  all_read = λ told. rw failed tt;
  filled = λ told. rw failed tt;
}

-- a write that passed on from an unarmed fuse
pub content_passed : {E : Type 0} (lba : ℕ) (meant : List ℕ) (below below' : DiskState) (answer : Result Unit E) → WritesDisk lba meant below below' answer → WritesContent lba meant below.medium below'.medium answer
content_passed lba meant below below' answer writes = record {
  sectors = writes.sectors;
  told = writes.told;
  pending = writes.pending;
  none_pending = writes.none_pending;
  bytes = writes.bytes;
  writes = writes.writes;
  torn = writes.torn;
  err = writes.err;
}

-- a write of which the content is known
pub writes_disk_content : {E : Type 0} (lba : ℕ) (meant : List ℕ) (old new : DiskMedium) (log : List Torn) (n : ℕ) (before after : Counters) (answer result : Result Unit E) → WritesContent lba meant old new answer
    → result ≡ answer → Changed before after (is_err result) → WritesDisk lba meant (disk_state_over old log n before) (disk_state_over new log n after) result
writes_disk_content lba meant old new log n before after answer result content same changed = record {
  counters = changed;
  sectors = content.sectors;
  told = content.told;
  sectors_read = refl;
  pending = rw same content.pending;
  none_pending = rw same content.none_pending;
  bytes = λ told. rw same (content.bytes told);
  writes = λ told. rw same (content.writes told);
  torn = λ told. rw same (on_ok_weaker answer (ap (λ (t : Logs). t ++ log ∷ [])) (content.torn told));
  err = λ told. rw same (on_err_weaker answer (λ (left_torn : LeftDiskTorn old.writes (write_records lba meant old) old new). left_disk_torn_counted old.writes (write_records lba meant old) (with_disk_log old log) (with_disk_log new log) n n
      (left_disk_torn_with_log old.writes (write_records lba meant old) old new log left_torn)) (content.err told));
}

-- a write that the fuse refused or cut short
pub writes_disk_failed : {E : Type 0} (lba : ℕ) (meant : List ℕ) (old new : DiskMedium) (log log' : List Torn) (n : ℕ) (before after : Counters) (failure : E) (result : Result Unit E) → result ≡ Err failure → Changed before after (is_err result)
    → new.sectors ≡ old.sectors → new.told ≡ old.told → new.pending ≡ 0 → (IsTrue old.told → LeftDiskTorn old.writes (write_records lba meant old) (with_disk_log old log) (with_disk_log new log'))
    → WritesDisk lba meant (disk_state_over old log n before) (disk_state_over new log' n after) result
writes_disk_failed lba meant old new log log' n before after failure result failed changed sectors told none left_torn = record {
  counters = changed;
  sectors = sectors;
  told = told;
  sectors_read = refl;
  pending = rw failed tt;
  none_pending = rw failed none;
  bytes = λ tells. rw failed tt;
  writes = λ tells. rw failed tt;
  torn = λ tells. rw failed tt;
  err = λ tells. rw failed (left_disk_torn_counted old.writes (write_records lba meant old) (with_disk_log old log) (with_disk_log new log') n n (left_torn tells));
}

-- a flush that answered Ok, seen through a fuse
flushed_with_log : (old new : DiskMedium) (log : List Torn) (n : ℕ) → Flushed old new → Flushed (record (with_disk_log old log) { sectors_read = n }) (record (with_disk_log new log) { sectors_read = n })
flushed_with_log old new log n flushed = record { bytes = flushed.bytes; writes = flushed.writes; torn = ap (λ (t : Logs). t ++ log ∷ []) flushed.torn }

-- a flush that passed on
pub flushes_passed : {E : Type 0} (below below' : DiskState) (log : List Torn) (n : ℕ) (old new : Counters) (answer result : Result Unit E) → Flushes below below' answer → result ≡ answer → Changed old new (is_err result)
    → Flushes (disk_state_over below.medium log n old) (disk_state_over below'.medium log n new) result
flushes_passed below below' log n old new answer result flushes same changed = record {
  counters = changed;
  sectors = flushes.sectors;
  told = flushes.told;
  sectors_read = refl;
  none_pending = flushes.none_pending;
  ok = λ told. rw same (on_ok_weaker answer (flushed_with_log below.medium below'.medium log n) (flushes.ok told));
  err = λ told. rw same (on_err_weaker answer (λ (torn : LeftDiskTorn below.medium.writes [] below.medium below'.medium). left_disk_torn_counted below.medium.writes [] (with_disk_log below.medium log) (with_disk_log below'.medium log) n n
      (left_disk_torn_with_log below.medium.writes [] below.medium below'.medium log torn)) (flushes.err told));
}

-- a flush that the fuse refused, or that is the chosen one
pub flushes_failed : {E : Type 0} (old new : DiskMedium) (log log' : List Torn) (n : ℕ) (before after : Counters) (failure : E) (result : Result Unit E) → result ≡ Err failure → Changed before after (is_err result)
    → new.sectors ≡ old.sectors → new.told ≡ old.told → new.pending ≡ 0 → (IsTrue old.told → LeftDiskTorn old.writes [] (with_disk_log old log) (with_disk_log new log'))
    → Flushes (disk_state_over old log n before) (disk_state_over new log' n after) result
flushes_failed old new log log' n before after failure result failed changed sectors told none left_torn = record {
  counters = changed;
  sectors = sectors;
  told = told;
  sectors_read = refl;
  none_pending = none;
  ok = λ tells. rw failed tt;
  err = λ tells. rw failed (left_disk_torn_counted old.writes [] (with_disk_log old log) (with_disk_log new log') n n (left_torn tells));
}

-- a write that passed on from an unarmed fuse, as the fuse's own clause says it
pub passes_unarmed : {D : Type 0} {disk : Ghosts D} (stop : FuseState) (lba : ℕ) (meant : List ℕ) (old new : FuseDisk D disk) (result : Result Unit Failed) → stop ≡ Unarmed → WritesDisk lba meant (state_below old) (state_below new) result
    → PassesWrite stop lba meant old new result
passes_unarmed stop lba meant old new result unarmed written = rw unarmed written
