-- Each end of a commit: what was left, from what each of its halves did.
use Rattle.std.proofs.Common.{◌≡◌, ℕ, ◌*◌, List, [], length, IsTrue, sym, ap, ◌∙◌, subst, arith}
use Rattle.std.proofs.lemmas.Result.{err_from_is_err_and}
use Rattle.board_core.specs.Disk.{LeftDiskTorn, Flushed}
use Rattle.board_core.specs.OrderedWrites.{with_range, records_of_both}
use Rattle.board_core.proofs.WriteRecords.{made_within}
use Rattle.gpt_core.specs.Copies.{content_with, copy_at, entries_lba, header_lba, with_copy, committed}
use Rattle.gpt_core.proofs.CopyPlaces.{FitsContent, length-with_copy}
use Rattle.gpt_core.proofs.CommitSteps.{side_written, side_torn, left_first, left_second, left_none, both_tried, bytes_both, order_first, order_second, both_made, table_first, table_second}
use Rattle.gpt_core.proofs.TornParts.{TornIn}
use Rattle.gpt_core.proofs.committing.write_both.Given.{Over}
use Rattle.gpt_core.proofs.committing.write_both.Goals as goal
use Rattle.gpt_core.proofs.committing.write_both.Goals.{In_err-write_side, In_ok-write_side, In_err-write_side-2, In_ok-write_side-2}

-- ---- what each half did

fits_of : (entries primary backup : List ℕ) → length entries ≡ 16384 → length primary ≡ 512 → length backup ≡ 512 → FitsContent (content_with entries primary backup)
fits_of entries primary backup e p b = record { entries = e; primary = p; backup = b }

-- the first copy was torn
first_torn : (g : Over) (c : In_err-write_side g) → let old = (g.D.Disk.state c.args.disk.now).medium in IsTrue old.told
    → TornIn (old.sectors * 512) (copy_at c.first_of-first.result old.sectors) 16896 (committed old.sectors (content_with c.args.entries.now c.args.primary.now c.args.backup.now) old.bytes) old (g.D.Disk.state c.write_side.new.disk).medium
first_torn g c told =
    let old = (g.D.Disk.state c.args.disk.now).medium in
    let fits = fits_of _ _ _ c.requires.entries_size c.requires.primary_size c.requires.backup_size in
    side_torn c.first_of-first.result old.sectors _ c.header_from.result.now old.bytes old _ c.requires.enough fits (g.met.D.Disk.told_size c.args.disk.now told) c.header_from.ensures (c.in_err-write_side.ensures.err told)

-- or stands
first_stands : (g : Over) (c : In_ok-write_side g) → let old = (g.D.Disk.state c.args.disk.now).medium in IsTrue old.told
    → (g.D.Disk.state c.write_side.new.disk).medium.bytes ≡ with_copy c.first_of-first.result old.sectors (content_with c.args.entries.now c.args.primary.now c.args.backup.now) old.bytes
first_stands g c told =
    let old = (g.D.Disk.state c.args.disk.now).medium in
    let fits = fits_of _ _ _ c.requires.entries_size c.requires.primary_size c.requires.backup_size in
    side_written c.first_of-first.result old.sectors _ c.header_from.result.now old _ c.requires.enough fits (g.met.D.Disk.told_size c.args.disk.now told) c.header_from.ensures (c.in_ok-write_side.ensures.ok told)

-- then the second copy was torn
second_torn : (g : Over) (c : In_err-write_side-2 g) → let old = (g.D.Disk.state c.args.disk.now).medium in IsTrue old.told
    → TornIn (old.sectors * 512) (copy_at c.other_of-second.result old.sectors) 16896 (committed old.sectors (content_with c.args.entries.now c.args.primary.now c.args.backup.now) old.bytes) (g.D.Disk.state c.write_side.new.disk).medium (g.D.Disk.state c.write_side-2.new.disk).medium
second_torn g c told =
    let old = (g.D.Disk.state c.args.disk.now).medium in
    let mid = (g.D.Disk.state c.write_side.new.disk).medium in
    let new = (g.D.Disk.state c.write_side-2.new.disk).medium in
    let second = c.other_of-second.result in
    let one = c.in_ok-write_side.ensures in
    let fits = fits_of _ _ _ c.requires.entries_size c.requires.primary_size c.requires.backup_size in
    let torn = subst (λ (n : ℕ). LeftDiskTorn [] (records_of_both (entries_lba second n) c.args.entries.now (header_lba second n) c.header_from-2.result.now mid) mid new) one.sectors (c.in_err-write_side-2.ensures.err (subst IsTrue (sym one.told) told)) in
    side_torn second old.sectors _ c.header_from-2.result.now old.bytes mid new c.requires.enough fits (g.met.D.Disk.told_size c.args.disk.now told) c.header_from-2.ensures torn

-- or stands too
second_stands : (g : Over) (c : In_ok-write_side-2 g) → let old = (g.D.Disk.state c.args.disk.now).medium in IsTrue old.told
    → (g.D.Disk.state c.write_side.new.disk).medium.bytes ≡ with_copy c.first_of-first.result old.sectors (content_with c.args.entries.now c.args.primary.now c.args.backup.now) old.bytes
    → (g.D.Disk.state c.write_side-2.new.disk).medium.bytes ≡ with_copy c.other_of-second.result old.sectors (content_with c.args.entries.now c.args.primary.now c.args.backup.now) (g.D.Disk.state c.write_side.new.disk).medium.bytes
second_stands g c told first =
    let old = (g.D.Disk.state c.args.disk.now).medium in
    let mid = (g.D.Disk.state c.write_side.new.disk).medium in
    let new = (g.D.Disk.state c.write_side-2.new.disk).medium in
    let second = c.other_of-second.result in
    let one = c.in_ok-write_side.ensures in
    let fits = fits_of _ _ _ c.requires.entries_size c.requires.primary_size c.requires.backup_size in
    let half : length mid.bytes ≡ old.sectors * 512 = ap length first ∙ length-with_copy c.first_of-first.result old.sectors _ old.bytes c.requires.enough fits (g.met.D.Disk.told_size c.args.disk.now told) in
    let flushed = subst (λ (n : ℕ). Flushed (with_range (header_lba second n) c.header_from-2.result.now (with_range (entries_lba second n) c.args.entries.now mid)) new) one.sectors (c.in_ok-write_side-2.ensures.ok (subst IsTrue (sym one.told) told)) in
    side_written second old.sectors _ c.header_from-2.result.now mid new c.requires.enough fits half c.header_from-2.ensures flushed

-- ---- the first half failed

pub returns-in_err-write_side-clause-meets : goal.returns-in_err-write_side-clause-meets
returns-in_err-write_side-clause-meets g c =
    let content = content_with c.args.entries.now c.args.primary.now c.args.backup.now in
    let old = (g.D.Disk.state c.args.disk.now).medium in
    let new = (g.D.Disk.state c.write_side.new.disk).medium in
    let torn = first_torn g (goal.at.returns-in_err-write_side-clause-meets g c).In_err-write_side in
    let error = err_from_is_err_and c.from_residual.result c.from_residual.ensures.1 in
    let wrote = c.in_err-write_side.ensures in
    let left = λ (told : IsTrue old.told). left_first c.first_of-first.result content old new c.requires.enough (g.met.D.Disk.told_size c.args.disk.now told) (torn told) in
    rw error.1 (record {
      counters = made_within _ _ 3 6 (omega arith) wrote.counters;
      broke = wrote.broke;
      sectors = wrote.sectors;
      told = wrote.told;
      sectors_read = wrote.sectors_read;
      none_pending = wrote.none_pending;
      frame = λ told. (left told).frame;
      ok = λ told. tt;
      kept = λ told. (left told).kept;
      noted = λ told. (left told).noted;
    })

pub returns-in_err-write_side-clause-order : goal.returns-in_err-write_side-clause-order
returns-in_err-write_side-clause-order g c = λ told.
    let torn = first_torn g (goal.at.returns-in_err-write_side-clause-order g c).In_err-write_side told in
    let error = err_from_is_err_and c.from_residual.result c.from_residual.ensures.1 in
    rw error.1 (order_first c.args.source c.first_of-first.result _ _ _ _ c.requires.enough (g.met.D.Disk.told_size c.args.disk.now told) c.first_of-first.ensures torn)

pub returns-in_err-write_side-clause-fails : goal.returns-in_err-write_side-clause-fails
returns-in_err-write_side-clause-fails g c = λ table gives told.
    let torn = first_torn g (goal.at.returns-in_err-write_side-clause-fails g c).In_err-write_side told in
    let error = err_from_is_err_and c.from_residual.result c.from_residual.ensures.1 in
    rw error.1 (λ is_source fair. table_first c.args.source table c.first_of-first.result _ _ _ c.requires.enough (g.met.D.Disk.told_size c.args.disk.now told) c.in_err-write_side.ensures.sectors c.first_of-first.ensures torn is_source fair)

-- ---- the second half failed

pub returns-in_err-write_side-2-clause-meets : goal.returns-in_err-write_side-2-clause-meets
returns-in_err-write_side-2-clause-meets g c =
    let at = goal.at.returns-in_err-write_side-2-clause-meets g c in
    let content = content_with c.args.entries.now c.args.primary.now c.args.backup.now in
    let old = (g.D.Disk.state c.args.disk.now).medium in
    let mid = (g.D.Disk.state c.write_side.new.disk).medium in
    let new = (g.D.Disk.state c.write_side-2.new.disk).medium in
    let fits = fits_of _ _ _ c.requires.entries_size c.requires.primary_size c.requires.backup_size in
    let error = err_from_is_err_and c.from_residual-in_err-write_side-2.result c.from_residual-in_err-write_side-2.ensures.1 in
    let one = c.in_ok-write_side.ensures in
    let left = λ (told : IsTrue old.told).
    left_second c.first_of-first.result c.other_of-second.result content old mid new c.requires.enough fits (g.met.D.Disk.told_size c.args.disk.now told) (first_stands g at.In_ok-write_side told) (one.ok told).torn (second_torn g at.In_err-write_side-2 told) in
    rw error.1 (both_tried content _ _ _ _ _ _ _ _ _ _ _ _ _ one c.in_err-write_side-2.ensures left (λ told. tt))

pub returns-in_err-write_side-2-clause-order : goal.returns-in_err-write_side-2-clause-order
returns-in_err-write_side-2-clause-order g c = λ told.
    let at = goal.at.returns-in_err-write_side-2-clause-order g c in
    let old = (g.D.Disk.state c.args.disk.now).medium in
    let mid = (g.D.Disk.state c.write_side.new.disk).medium in
    let new = (g.D.Disk.state c.write_side-2.new.disk).medium in
    let fits = fits_of _ _ _ c.requires.entries_size c.requires.primary_size c.requires.backup_size in
    let error = err_from_is_err_and c.from_residual-in_err-write_side-2.result c.from_residual-in_err-write_side-2.ensures.1 in
    rw error.1 (order_second c.args.source c.first_of-first.result c.other_of-second.result _ _ old mid new c.requires.enough fits (g.met.D.Disk.told_size c.args.disk.now told) c.first_of-first.ensures c.other_of-second.ensures
    (first_stands g at.In_ok-write_side told) (second_torn g at.In_err-write_side-2 told))

pub returns-in_err-write_side-2-clause-fails : goal.returns-in_err-write_side-2-clause-fails
returns-in_err-write_side-2-clause-fails g c = λ table gives told.
    let at = goal.at.returns-in_err-write_side-2-clause-fails g c in
    let fits = fits_of _ _ _ c.requires.entries_size c.requires.primary_size c.requires.backup_size in
    let error = err_from_is_err_and c.from_residual-in_err-write_side-2.result c.from_residual-in_err-write_side-2.ensures.1 in
    let one = c.in_ok-write_side.ensures in
    rw error.1 (λ is_source fair. table_second c.args.source table c.first_of-first.result c.other_of-second.result _ _ _ _ _ c.requires.enough fits (g.met.D.Disk.told_size c.args.disk.now told)
    (c.in_err-write_side-2.ensures.sectors ∙ one.sectors) c.first_of-first.ensures c.other_of-second.ensures gives (first_stands g at.In_ok-write_side told) (one.ok told).torn (second_torn g at.In_err-write_side-2 told) is_source fair)

-- ---- both stand

pub returns-clause-meets : goal.returns-clause-meets
returns-clause-meets g c =
    let at = goal.at.returns-clause-meets g c in
    let content = content_with c.args.entries.now c.args.primary.now c.args.backup.now in
    let old = (g.D.Disk.state c.args.disk.now).medium in
    let mid = (g.D.Disk.state c.write_side.new.disk).medium in
    let new = (g.D.Disk.state c.write_side-2.new.disk).medium in
    let side = c.first_of-first.result in
    let second = c.other_of-second.result in
    let fits = fits_of _ _ _ c.requires.entries_size c.requires.primary_size c.requires.backup_size in
    let one = c.in_ok-write_side.ensures in
    let two = c.in_ok-write_side-2.ensures in
    let whole = λ (told : IsTrue old.told). g.met.D.Disk.told_size c.args.disk.now told in
    let first = λ (told : IsTrue old.told). first_stands g at.In_ok-write_side told in
    let both = λ (told : IsTrue old.told). second_stands g at.In_ok-write_side-2 told (first told) in
    let flushed = λ (told : IsTrue old.told). two.ok (subst IsTrue (sym one.told) told) in
    let left = λ (told : IsTrue old.told). left_none side second content old mid new c.other_of-second.ensures c.requires.enough fits (whole told) (first told) (one.ok told).torn (both told) (flushed told).torn in
    both_tried content _ _ _ _ _ _ _ _ _ _ _ _ _ one two left (λ told. record {
      bytes = bytes_both side second old.sectors content old.bytes mid.bytes new.bytes c.other_of-second.ensures c.requires.enough fits (whole told) (first told) (both told);
      writes = (flushed told).writes;
      torn = (flushed told).torn ∙ (one.ok told).torn;
    })

pub returns-clause-made : goal.returns-clause-made
returns-clause-made g c = λ table gives told.
    let at = goal.at.returns-clause-made g c in
    let fits = fits_of _ _ _ c.requires.entries_size c.requires.primary_size c.requires.backup_size in
    let size = g.met.D.Disk.told_size c.args.disk.now told in
    let first = first_stands g at.In_ok-write_side told in
    both_made table _ _ _ _ c.requires.enough fits size gives
    (bytes_both c.first_of-first.result c.other_of-second.result _ _ _ _ _ c.other_of-second.ensures c.requires.enough fits size first (second_stands g at.In_ok-write_side-2 told first))
