-- The chosen write: at each exit, what is left torn.
use Rattle.std.proofs.Common.{◌≡◌, true, false, ◌+◌, ◌*◌, ◌%◌, ◌≤◌, ◌++◌, Bool, IsTrue, List, ℕ, inl, inr, refl, sym, ap, ◌∙◌, subst, arith, rules, length, take, drop}
use Rattle.board_core.specs.Disk.{DiskMedium, write_records}
use Rattle.board_core.specs.declared.torn.Torn.{Torn}
use Rattle.board_core.specs.Torn.{torn_records}
use Rattle.board_core.specs.Flash.{range, spliced}
use Rattle.board_core.specs.FuseDiskParts.{WritesFront}
use Rattle.board_core.proofs.FuseLemmas.{on_ok_at, on_err_at}
use Rattle.board_core.proofs.TornRange.{filled_is}
use Rattle.board_core.proofs.DiskTorn.{left_disk_torn_with_log, left_disk_torn_none}
use Rattle.board_core.proofs.FuseDiskLemmas.{left_disk_torn_read, left_disk_torn_kept, left_disk_torn_read_below, left_disk_torn_part, mirrors_read}
use Rattle.board_core.proofs.fuse_disk_parts.cut_write.Goals as goal

pub returns-then-is_err-clause-none_pending : goal.returns-then-is_err-clause-none_pending
returns-then-is_err-clause-none_pending g c = on_err_at c.read.result (sym c.is_err.ensures.value ∙ c.if-is_err.true) c.read.ensures.meets.none_pending

pub returns-then-is_err-clause-left_torn : goal.returns-then-is_err-clause-left_torn
returns-then-is_err-clause-left_torn g c = λ told.
    let old = (g.D.Disk.state c.args.inner.now).medium in
    let new = (g.D.Disk.state c.read.new.self).medium in
    let own = write_records c.args.lba c.args.bytes.now old in
    left_disk_torn_with_log old.writes own old new c.args.torn.now.items
    (left_disk_torn_none old.writes own old new (on_err_at c.read.result (sym c.is_err.ensures.value ∙ c.if-is_err.true) (c.read.ensures.meets.err told)))

pub returns-then-is_err-2-clause-left_torn : goal.returns-then-is_err-2-clause-left_torn
returns-then-is_err-2-clause-left_torn g c = λ told.
    let old = (g.D.Disk.state c.args.inner.now).medium in
    let mid = (g.D.Disk.state c.read.new.self).medium in
    let new = (g.D.Disk.state c.write_and_flush.new.inner).medium in
    let same = on_ok_at c.read.result (sym c.is_err.ensures.value ∙ c.if-is_err.false) c.read.ensures.meets.ok in
    let told_mid = subst (λ (m : DiskMedium). IsTrue m.told) (sym same) told in
    let kept = c.min-kept.result in
    let sectors : kept % 512 ≡ 0 = omega (arith, c.min-kept.ensures, c.requires.whole) in
    let within : kept ≤ length c.args.bytes.now = omega (arith, c.min-kept.ensures) in
    let inside : c.args.lba * 512 + length c.args.bytes.now ≤ length mid.bytes = omega (arith, c.requires.inside, c.requires.whole, g.met.D.Disk.told_size c.read.new.self told_mid, ap (λ (m : DiskMedium). m.sectors) same) in
    left_disk_torn_with_log old.writes (write_records c.args.lba c.args.bytes.now old) old new c.args.torn.now.items
    (left_disk_torn_read_below c.args.lba c.args.bytes.now old mid new _ same
    (left_disk_torn_part c.args.lba kept c.args.bytes.now mid new sectors within c.requires.whole inside
    (on_err_at c.write_and_flush.result (sym c.is_err-2.ensures.value ∙ c.if-is_err-2.true) (c.write_and_flush.ensures.err told_mid))))

pub returns-clause-left_torn : goal.returns-clause-left_torn
returns-clause-left_torn g c = λ told.
    let old = (g.D.Disk.state c.args.inner.now).medium in
    let mid = (g.D.Disk.state c.read.new.self).medium in
    let new = (g.D.Disk.state c.write_and_flush.new.inner).medium in
    let same = on_ok_at c.read.result (sym c.is_err.ensures.value ∙ c.if-is_err.false) c.read.ensures.meets.ok in
    let told_mid = subst (λ (m : DiskMedium). IsTrue m.told) (sym same) told in
    let writes = c.args.writes.now.items in
    let kept = c.min-kept.result in
    let within : kept ≤ length c.args.bytes.now = omega (arith, c.min-kept.ensures) in
    let inside : c.args.lba * 512 + length c.args.bytes.now ≤ length mid.bytes = omega (arith, c.requires.inside, c.requires.whole, g.met.D.Disk.told_size c.read.new.self told_mid, ap (λ (m : DiskMedium). m.sectors) same) in
    let read = on_ok_at c.read.result (sym c.is_err.ensures.value ∙ c.if-is_err.false) (c.read.ensures.meets.filled told) in
    let was = filled_is c.read.new.buf old.bytes (c.args.lba * 512) (length c.args.bytes.now) (c.read.auto.buf ∙ c.requires.was) read in
    let wrote = on_ok_at c.write_and_flush.result (sym c.is_err-2.ensures.value ∙ c.if-is_err-2.false) (c.write_and_flush.ensures.ok told_mid) in
    let mirrors = mirrors_read old mid _ writes same c.requires.mirrors in
    let left : c.copy_from_slice-2.new.self ++ drop kept c.copy_from_slice.new.self ≡ take kept c.args.bytes.now ++ drop kept c.read.new.buf =
    ap (λ (l : List ℕ). l ++ drop kept c.copy_from_slice.new.self) c.copy_from_slice-2.ensures.after
    ∙ ap (λ (l : List ℕ). take kept c.args.bytes.now ++ drop kept l) c.copy_from_slice.ensures.after in
    let appended : c.append.new.self.items ≡ c.args.torn.now.items ++ writes = search rules in
    left_disk_torn_read c.args.lba c.args.bytes.now old mid new _ c.args.torn.now.items c.note.new.torn.items same
    (left_disk_torn_kept c.args.lba kept c.read.new.buf c.args.bytes.now _ mid new writes c.args.torn.now.items c.note.new.torn.items c.requires.whole inside within (mirrors.known told_mid) (mirrors.stand told_mid)
    (rw same was) left wrote.bytes wrote.torn wrote.writes (c.note.ensures.noted ∙ ap (λ (l : _). l ++ torn_records (c.args.lba * 512) c.read.new.buf c.args.bytes.now (c.copy_from_slice-2.new.self ++ drop kept c.copy_from_slice.new.self)) appended))

pub returns-then-is_err-clause-cut : goal.returns-then-is_err-clause-cut
returns-then-is_err-clause-cut g c =
    inl (record {
      read = record { buf = c.read.new.buf; fits = c.read.auto.buf ∙ c.requires.was; answer = c.read.result; answered = sym c.is_err.ensures.value ∙ c.if-is_err.true; read = c.read.ensures.meets };
      unnoted = refl;
    })

pub returns-then-is_err-2-clause-cut : goal.returns-then-is_err-2-clause-cut
returns-then-is_err-2-clause-cut g c =
    let mid = g.D.Disk.state c.read.new.self in
    let new = g.D.Disk.state c.write_and_flush.new.inner in
    let answered = sym c.is_err-2.ensures.value ∙ c.if-is_err-2.true in
    let calls = subst (λ (f : Bool). WritesFront c.args.lba (take c.min-kept.result c.args.bytes.now) mid new f) answered c.write_and_flush.ensures.calls in
    let front = subst (λ (n : ℕ). WritesFront c.args.lba (take n c.args.bytes.now) mid new true) c.min-kept.ensures calls in
    inr (inl (record {
      mid = mid;
      read = record { buf = c.read.new.buf; fits = c.read.auto.buf ∙ c.requires.was; answer = c.read.result; answered = sym c.is_err.ensures.value ∙ c.if-is_err.false; read = c.read.ensures.meets };
      calls = front;
      unnoted = refl;
    }))

pub returns-clause-cut : goal.returns-clause-cut
returns-clause-cut g c =
    let mid = g.D.Disk.state c.read.new.self in
    let new = g.D.Disk.state c.write_and_flush.new.inner in
    let answered = sym c.is_err-2.ensures.value ∙ c.if-is_err-2.false in
    let calls = subst (λ (f : Bool). WritesFront c.args.lba (take c.min-kept.result c.args.bytes.now) mid new f) answered c.write_and_flush.ensures.calls in
    let front = subst (λ (n : ℕ). WritesFront c.args.lba (take n c.args.bytes.now) mid new false) c.min-kept.ensures calls in
    inr (inr (record {
      mid = mid;
      read = record { buf = c.read.new.buf; fits = c.read.auto.buf ∙ c.requires.was; answer = c.read.result; answered = sym c.is_err.ensures.value ∙ c.if-is_err.false; read = c.read.ensures.meets };
      calls = front;
      part = λ told.
          let old = (g.D.Disk.state c.args.inner.now).medium in
          let at = c.args.lba * 512 in
          let meant = c.args.bytes.now in
          let log = c.args.torn.now.items in
          let writes = c.args.writes.now.items in
          let kept = c.min-kept.result in
          let good = sym c.is_err.ensures.value ∙ c.if-is_err.false in
          let same = on_ok_at c.read.result good c.read.ensures.meets.ok in
          let told_mid = subst (λ (m : DiskMedium). IsTrue m.told) (sym same) told in
          let was = filled_is c.read.new.buf old.bytes at (length meant) (c.read.auto.buf ∙ c.requires.was) (on_ok_at c.read.result good (c.read.ensures.meets.filled told)) in
          let wrote = on_ok_at c.write_and_flush.result answered (c.write_and_flush.ensures.ok told_mid) in
          let left : c.copy_from_slice-2.new.self ++ drop kept c.copy_from_slice.new.self ≡ take kept meant ++ drop kept c.read.new.buf =
          ap (λ (l : List ℕ). l ++ drop kept c.copy_from_slice.new.self) c.copy_from_slice-2.ensures.after
          ∙ ap (λ (l : List ℕ). take kept meant ++ drop kept l) c.copy_from_slice.ensures.after in
          let appended : c.append.new.self.items ≡ log ++ writes = search rules in
          record {
            kept = kept;
            exact = c.min-kept.ensures;
            bytes = wrote.bytes ∙ ap (λ (m : DiskMedium). spliced m.bytes at (take kept meant)) same;
            torn = wrote.torn ∙ ap (λ (m : DiskMedium). m.torn) same;
            noted = c.note.ensures.noted ∙ ap (λ (l : List Torn). l ++ torn_records at c.read.new.buf meant (c.copy_from_slice-2.new.self ++ drop kept c.copy_from_slice.new.self)) appended
                ∙ ap (λ (l : List ℕ). (log ++ writes) ++ torn_records at c.read.new.buf meant l) left
                ∙ ap (λ (w : List ℕ). (log ++ writes) ++ torn_records at w meant (take kept meant ++ drop kept w)) was
                ∙ ap (λ (l : List Torn). (log ++ l) ++ torn_records at (range old.bytes at (length meant)) meant (take kept meant ++ drop kept (range old.bytes at (length meant)))) (sym (c.requires.mirrors.known told));
          };
    }))
