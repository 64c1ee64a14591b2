-- What a failed change of a disk left torn, as the log of the disk or the log of a fuse over it notes it.
use Rattle.std.proofs.Common.{◌≡◌, ℕ, zero, suc, ◌+◌, ◌-◌, ◌*◌, ◌/◌, ◌%◌, ◌≤◌, min, List, [], ◌∷◌, ◌++◌, length, take, drop, refl, sym, ap, ◌∙◌, subst, arith, length-append, length-take, length-drop}
use Rattle.std.proofs.lemmas.List.{take_all, take-take, take-append-le, take_at, drop_at, drop_all, drop-take, append-nil}
use Rattle.std.proofs.lemmas.List.Elements.{All-take}
use Rattle.std.proofs.Math.Seq.{take-append-add}
use Rattle.std.specs.Prelude.{All}
use Rattle.board_core.specs.declared.torn.Torn.{Torn}
use Rattle.board_core.specs.Torn.{Logs, Grown, added, torn_piece, torn_pieces, torn_records}
use Rattle.board_core.specs.Flash.{range}
use Rattle.board_core.specs.Disk.{DiskMedium, LeftDiskTorn, overlaid, IsSectorOf, AreRecordsOf, write_records}
use Rattle.board_core.specs.FuseDiskParts.{with_disk_log}
use Rattle.board_core.proofs.Overlays.{overlaid-append, overlaid-again, overlaid-front}
use Rattle.board_core.proofs.TornRange.{grown_same, added_same, grown_one, added_one}

-- a disk that has no other below it noted all pending sectors and all of its own
pub left_disk_torn_alone : (pending own records : List Torn) (old new : DiskMedium) (log log' : List Torn) → old.torn ≡ log ∷ [] → new.torn ≡ log' ∷ [] → log' ≡ log ++ records
    → AreRecordsOf (pending ++ own) records → new.bytes ≡ overlaid old.bytes records → new.writes ≡ [] → LeftDiskTorn pending own old new
left_disk_torn_alone pending own records old new log log' before after noted all bytes settled =
    let longer : take (length log) log' ≡ log = rw noted (take_at log records (length log) refl) in
    let more : drop (length log) log' ≡ records = rw noted (drop_at log records (length log) refl) in
    let new_records : added old.torn new.torn ≡ records = rw (before, after) (append-nil (drop (length log) log') ∙ more) in
    record {
      count = length own;
      within = omega arith;
      bytes = bytes ∙ ap (overlaid old.bytes) (sym new_records);
      kept = rw (before, after) (longer, tt);
      noted = subst (λ (own' : List Torn). AreRecordsOf (pending ++ own') (added old.torn new.torn)) (sym (take_all (length own) own (omega arith)))
          (subst (AreRecordsOf (pending ++ own)) (sym new_records) all);
      writes_end = settled;
    }

-- a change that had no write of its own is like one that had touched none of its own
pub left_disk_torn_none : (pending own : List Torn) (old new : DiskMedium) → LeftDiskTorn pending [] old new → LeftDiskTorn pending own old new
left_disk_torn_none pending own old new left_torn = record {
  count = 0;
  within = omega arith;
  bytes = left_torn.bytes;
  kept = left_torn.kept;
  noted = subst (λ (l : List Torn). AreRecordsOf (pending ++ l) (added old.torn new.torn)) (take_all left_torn.count [] (omega arith)) left_torn.noted;
  writes_end = left_torn.writes_end;
}

-- the disk below noted it
pub left_disk_torn_with_log : (pending own : List Torn) (old new : DiskMedium) (log : List Torn) → LeftDiskTorn pending own old new → LeftDiskTorn pending own (with_disk_log old log) (with_disk_log new log)
left_disk_torn_with_log pending own old new log left_torn =
    let longer : take (length log) log ≡ log = take_all (length log) log (omega arith) in
    let same : added (old.torn ++ log ∷ []) (new.torn ++ log ∷ []) ≡ added old.torn new.torn =
    added_one old.torn new.torn log log left_torn.kept ∙ ap (λ (l : List Torn). added old.torn new.torn ++ l) (drop_all (length log) log (omega arith)) ∙ append-nil (added old.torn new.torn) in
    record {
      count = left_torn.count;
      within = left_torn.within;
      bytes = left_torn.bytes ∙ ap (overlaid old.bytes) (sym same);
      kept = grown_one old.torn new.torn log log left_torn.kept longer;
      noted = subst (AreRecordsOf (pending ++ take left_torn.count own)) (sym same) left_torn.noted;
      writes_end = left_torn.writes_end;
    }

-- the fuse noted it
pub left_disk_torn_noted : (pending own records : List Torn) (count : ℕ) (old new : DiskMedium) (log log' : List Torn) → count ≤ length own → new.torn ≡ old.torn → log' ≡ log ++ records
    → AreRecordsOf (pending ++ take count own) records → new.bytes ≡ overlaid old.bytes records → new.writes ≡ [] → LeftDiskTorn pending own (with_disk_log old log) (with_disk_log new log')
left_disk_torn_noted pending own records count old new log log' within same noted all bytes settled =
    let longer : take (length log) log' ≡ log = rw noted (take_at log records (length log) refl) in
    let more : drop (length log) log' ≡ records = rw noted (drop_at log records (length log) refl) in
    let new_records : added (old.torn ++ log ∷ []) (new.torn ++ log' ∷ []) ≡ records =
    subst (λ (torn : Logs). added (old.torn ++ log ∷ []) (torn ++ log' ∷ []) ≡ records) (sym same)
    (added_one old.torn old.torn log log' (grown_same old.torn) ∙ ap (λ (l : List Torn). l ++ drop (length log) log') (added_same old.torn) ∙ more) in
    record {
      count = count;
      within = within;
      bytes = bytes ∙ ap (overlaid old.bytes) (sym new_records);
      kept = rw same (grown_one old.torn old.torn log log' (grown_same old.torn) longer);
      noted = subst (AreRecordsOf (pending ++ take count own)) (sym new_records) all;
      writes_end = settled;
    }

-- the number of sectors read before the change and after it does not matter
pub left_disk_torn_counted : (pending own : List Torn) (old new : DiskMedium) (before after : ℕ) → LeftDiskTorn pending own old new → LeftDiskTorn pending own (record old { sectors_read = before }) (record new { sectors_read = after })
left_disk_torn_counted pending own old new before after left_torn = record {
  count = left_torn.count;
  within = left_torn.within;
  bytes = left_torn.bytes;
  kept = left_torn.kept;
  noted = left_torn.noted;
  writes_end = left_torn.writes_end;
}

-- the same, the other way
pub left_disk_torn_uncounted : (pending own : List Torn) (old new : DiskMedium) (before after : ℕ) → LeftDiskTorn pending own (record old { sectors_read = before }) (record new { sectors_read = after }) → LeftDiskTorn pending own old new
left_disk_torn_uncounted pending own old new before after left_torn = record {
  count = left_torn.count;
  within = left_torn.within;
  bytes = left_torn.bytes;
  kept = left_torn.kept;
  noted = left_torn.noted;
  writes_end = left_torn.writes_end;
}

-- a dead fuse refused the change, while nothing was pending
pub left_disk_torn_refused : (own : List Torn) (medium : DiskMedium) (log : List Torn) → medium.writes ≡ [] → LeftDiskTorn medium.writes own (with_disk_log medium log) (with_disk_log medium log)
left_disk_torn_refused own medium log settled =
    left_disk_torn_noted medium.writes own [] 0 medium medium log log (omega arith) refl (sym (append-nil log)) (subst (λ (writes : List Torn). AreRecordsOf (writes ++ []) []) (sym settled) tt) refl settled

-- ---- the parts of a chosen write

same_piece : (at : ℕ) (was was' meant meant' : List ℕ) → take 512 was' ≡ take 512 was → take 512 meant' ≡ take 512 meant → 512 ≤ length was → 512 ≤ length was' → 512 ≤ length meant → 512 ≤ length meant'
    → torn_piece at was' meant' meant' ≡ torn_piece at was meant meant
same_piece at was was' meant meant' same_was same_meant w w' m m' =
    let no_was : 512 - length was ≡ 0 = omega arith in let no_was' : 512 - length was' ≡ 0 = omega arith in
    let no_meant : 512 - length meant ≡ 0 = omega arith in let no_meant' : 512 - length meant' ≡ 0 = omega arith in
    let len : min (length meant) 512 ≡ 512 = omega arith in let len' : min (length meant') 512 ≡ 512 = omega arith in
    rw (no_was, no_was', no_meant, no_meant', len, len', same_was, same_meant) refl

rest_of-front : (count : ℕ) (bytes : List ℕ) → drop 512 (take (suc count * 512) bytes) ≡ take (count * 512) (drop 512 bytes)
rest_of-front count bytes = let e : suc count * 512 ≡ 512 + count * 512 = omega arith in rw e (drop-take 512 (count * 512) bytes)

-- the records of the first sectors of a range are the first records of it
take-pieces : (count total at : ℕ) (was meant : List ℕ) → count ≤ total → length meant ≡ total * 512 → length was ≡ total * 512
    → torn_pieces count at (take (count * 512) was) (take (count * 512) meant) (take (count * 512) meant) ≡ take count (torn_pieces total at was meant meant)
take-pieces zero total at was meant within fits fits' = refl
take-pieces (suc count) zero at was meant within fits fits' = absurd (omega arith)
take-pieces (suc count) (suc total) at was meant within fits fits' =
    let n = suc count * 512 in
    let head = same_piece at was (take n was) meant (take n meant) (take-take 512 n was (omega arith)) (take-take 512 n meant (omega arith)) (omega arith)
    (omega (arith, length-take n was)) (omega arith) (omega (arith, length-take n meant)) in
    ap (λ (piece : Torn). piece ∷ torn_pieces count (at + 512) (drop 512 (take n was)) (drop 512 (take n meant)) (drop 512 (take n meant))) head
    ∙ ap (λ (w : List ℕ). torn_piece at was meant meant ∷ torn_pieces count (at + 512) w (drop 512 (take n meant)) (drop 512 (take n meant))) (rest_of-front count was)
    ∙ ap (λ (m : List ℕ). torn_piece at was meant meant ∷ torn_pieces count (at + 512) (take (count * 512) (drop 512 was)) m m) (rest_of-front count meant)
    ∙ ap (λ (l : List Torn). torn_piece at was meant meant ∷ l) (take-pieces count total (at + 512) (drop 512 was) (drop 512 meant) (omega arith) (omega (arith, length-drop 512 meant)) (omega (arith, length-drop 512 was)))

take-torn_records : (at kept : ℕ) (was meant : List ℕ) → kept % 512 ≡ 0 → kept ≤ length meant → length meant % 512 ≡ 0 → length was ≡ length meant
    → torn_records at (take kept was) (take kept meant) (take kept meant) ≡ take (kept / 512) (torn_records at was meant meant)
unfolding torn_records
take-torn_records at kept was meant sectors within whole fits =
    let n : (length (take kept meant) + 511) / 512 ≡ kept / 512 = omega (arith, length-take kept meant) in
    let k : kept ≡ kept / 512 * 512 = omega arith in
    ap (λ (count : ℕ). torn_pieces count at (take kept was) (take kept meant) (take kept meant)) n
    ∙ ap (λ (m : ℕ). torn_pieces (kept / 512) at (take m was) (take m meant) (take m meant)) k
    ∙ take-pieces (kept / 512) ((length meant + 511) / 512) at was meant (omega arith) (omega arith) (omega arith)

-- the write of the first sectors of a write
pub records-front : (lba kept : ℕ) (meant : List ℕ) (medium : DiskMedium) → kept % 512 ≡ 0 → kept ≤ length meant → length meant % 512 ≡ 0 → lba * 512 + length meant ≤ length medium.bytes
    → write_records lba (take kept meant) medium ≡ take (kept / 512) (write_records lba meant medium)
records-front lba kept meant medium sectors within whole inside =
    let rest = drop (lba * 512) medium.bytes in
    let fits : length (take kept meant) ≡ kept = omega (arith, length-take kept meant) in
    let was : range medium.bytes (lba * 512) (length (take kept meant)) ≡ take kept (range medium.bytes (lba * 512) (length meant)) =
    ap (λ (n : ℕ). take n rest) fits ∙ sym (take-take kept (length meant) rest within) in
    ap (λ (w : List ℕ). torn_records (lba * 512) w (take kept meant) (take kept meant)) was
    ∙ take-torn_records (lba * 512) kept (range medium.bytes (lba * 512) (length meant)) meant sectors within whole (omega (arith, length-take (length meant) rest, length-drop (lba * 512) medium.bytes))

-- the disk below failed in the write of the first sectors
pub left_disk_torn_front : (pending own : List Torn) (kept : ℕ) (old new : DiskMedium) → LeftDiskTorn pending (take kept own) old new → LeftDiskTorn pending own old new
left_disk_torn_front pending own kept old new left_torn =
    let fewer : left_torn.count ≤ kept = omega (arith, left_torn.within, length-take kept own) in
    record {
      count = left_torn.count;
      within = omega (arith, left_torn.within, length-take kept own);
      bytes = left_torn.bytes;
      kept = left_torn.kept;
      noted = subst (λ (l : List Torn). AreRecordsOf (pending ++ l) (added old.torn new.torn)) (take-take left_torn.count kept own fewer) left_torn.noted;
      writes_end = left_torn.writes_end;
    }

-- the first sectors were written, and the disk below failed in the flush after it
pub left_disk_torn_after : (size : ℕ) (pending own : List Torn) (kept : ℕ) (old mid new : DiskMedium) → length old.bytes ≡ size → All (IsSectorOf size) (pending ++ take kept own) → kept ≤ length own
    → overlaid old.bytes pending ≡ old.bytes → mid.bytes ≡ overlaid old.bytes (take kept own) → mid.torn ≡ old.torn → mid.writes ≡ pending ++ take kept own
    → LeftDiskTorn mid.writes [] mid new → LeftDiskTorn pending own old new
left_disk_torn_after size pending own kept old mid new whole sectors within stand bytes torn writes left_torn =
    let records = added old.torn new.torn in
    let same : added mid.torn new.torn ≡ records = ap (λ (t : Logs). added t new.torn) torn in
    let none : take left_torn.count [] ≡ [] = take_all {A = Torn} left_torn.count [] (omega arith) in
    let noted : AreRecordsOf (pending ++ take kept own) records =
    subst (AreRecordsOf (pending ++ take kept own)) same
    (subst (λ (l : List Torn). AreRecordsOf l (added mid.torn new.torn)) (ap (λ (l : List Torn). mid.writes ++ l) none ∙ append-nil mid.writes ∙ writes) left_torn.noted) in
    let again : mid.bytes ≡ overlaid old.bytes (pending ++ take kept own) =
    bytes ∙ ap (λ (b : List ℕ). overlaid b (take kept own)) (sym stand) ∙ sym (overlaid-append old.bytes pending (take kept own)) in
    record {
      count = kept;
      within = within;
      bytes = left_torn.bytes ∙ ap (overlaid mid.bytes) same ∙ ap (λ (b : List ℕ). overlaid b records) again ∙ overlaid-again size old.bytes (pending ++ take kept own) records whole sectors noted;
      kept = subst (λ (t : Logs). Grown t new.torn) torn left_torn.kept;
      noted = noted;
      writes_end = left_torn.writes_end;
    }

-- ---- several calls

-- a change after writes that were pending is one change over them all
pub left_disk_torn_run : (size : ℕ) (writes own : List Torn) (old mid new : DiskMedium) → length old.bytes ≡ size → All (IsSectorOf size) writes → All (IsSectorOf size) own → mid.bytes ≡ overlaid old.bytes writes → mid.torn ≡ old.torn → mid.writes ≡ writes
    → LeftDiskTorn mid.writes own mid new → LeftDiskTorn [] (writes ++ own) old new
left_disk_torn_run size writes own old mid new whole sectors others bytes torn pending left_torn =
    let records = added old.torn new.torn in
    let count = left_torn.count in
    let same : added mid.torn new.torn ≡ records = ap (λ (t : Logs). added t new.torn) torn in
    let noted : AreRecordsOf (writes ++ take count own) records =
    subst (AreRecordsOf (writes ++ take count own)) same (subst (λ (l : List Torn). AreRecordsOf (l ++ take count own) (added mid.torn new.torn)) pending left_torn.noted) in
    record {
      count = length writes + count;
      within = omega (arith, left_torn.within, length-append writes own);
      bytes = left_torn.bytes ∙ ap (overlaid mid.bytes) same ∙ ap (λ (b : List ℕ). overlaid b records) bytes
          ∙ overlaid-front size old.bytes writes (take count own) records whole sectors (All-take (IsSectorOf size) count own others) noted;
      kept = subst (λ (t : Logs). Grown t new.torn) torn left_torn.kept;
      noted = subst (λ (l : List Torn). AreRecordsOf l records) (sym (take-append-add writes own count)) noted;
      writes_end = left_torn.writes_end;
    }

-- a change that had more writes to make, and touched none of them
pub left_disk_torn_more : (own more : List Torn) (old new : DiskMedium) → LeftDiskTorn [] own old new → LeftDiskTorn [] (own ++ more) old new
left_disk_torn_more own more old new left_torn = record {
  count = left_torn.count;
  within = omega (arith, left_torn.within, length-append own more);
  bytes = left_torn.bytes;
  kept = left_torn.kept;
  noted = subst (λ (l : List Torn). AreRecordsOf l (added old.torn new.torn)) (sym (take-append-le left_torn.count own more left_torn.within)) left_torn.noted;
  writes_end = left_torn.writes_end;
}

-- what is left depends only on the bytes and the records before
pub left_disk_torn_from : (pending own : List Torn) (old old' new : DiskMedium) → old'.bytes ≡ old.bytes → old'.torn ≡ old.torn → LeftDiskTorn pending own old new → LeftDiskTorn pending own old' new
left_disk_torn_from pending own old old' new bytes torn left_torn = record {
  count = left_torn.count;
  within = left_torn.within;
  bytes = left_torn.bytes ∙ ap (λ (b : List ℕ). overlaid b (added old.torn new.torn)) (sym bytes) ∙ ap (λ (t : Logs). overlaid old'.bytes (added t new.torn)) (sym torn);
  kept = subst (λ (t : Logs). Grown t new.torn) (sym torn) left_torn.kept;
  noted = subst (λ (t : Logs). AreRecordsOf (pending ++ take left_torn.count own) (added t new.torn)) (sym torn) left_torn.noted;
  writes_end = left_torn.writes_end;
}
