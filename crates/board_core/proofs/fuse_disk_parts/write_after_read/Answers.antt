-- A write of an armed fuse, where the read of the old bytes fails, where the write fails, and where both answer Ok.
use Rattle.std.proofs.Common.{◌*◌, ◌++◌, List, IsTrue, inl, inr, sym, ap, ◌∙◌, subst, length}
use Rattle.std.proofs.lemmas.Result.{on_err_weaker}
use Rattle.board_core.specs.declared.torn.Torn.{Torn}
use Rattle.board_core.specs.Torn.{torn_records}
use Rattle.board_core.specs.Disk.{DiskMedium, write_records}
use Rattle.board_core.proofs.FuseLemmas.{on_ok_at, on_err_at, on_ok_of}
use Rattle.board_core.proofs.TornRange.{filled_is}
use Rattle.board_core.proofs.DiskTorn.{left_disk_torn_none}
use Rattle.board_core.proofs.FuseDiskLemmas.{mirrors_more, mirrors_none, mirrors_read, left_disk_torn_read_below, writes_after_read}
use Rattle.board_core.proofs.fuse_disk_parts.write_after_read.Goals as goal

pub returns-then-is_err-clause-mirrors : goal.returns-then-is_err-clause-mirrors
returns-then-is_err-clause-mirrors g c =
    let failed = sym c.is_err.ensures.value ∙ c.if-is_err.true in
    let none = on_err_at c.read_below-answer.result failed c.read_below-answer.ensures.meets.none_pending in
    rw (on_err_at c.read_below-answer.result failed c.read_below-answer.ensures.none_listed)
    (mirrors_none (g.D.Disk.state c.read_below-answer.new.inner).medium none (g.met.D.Disk.told_pending c.read_below-answer.new.inner))

pub returns-then-is_err-clause-content : goal.returns-then-is_err-clause-content
returns-then-is_err-clause-content g c =
    let old = (g.D.Disk.state c.args.inner.now).medium in
    let new = (g.D.Disk.state c.read_below-answer.new.inner).medium in
    let meets = c.read_below-answer.ensures.meets in
    let failed = sym c.is_err.ensures.value ∙ c.if-is_err.true in
    record {
      sectors = meets.sectors;
      told = meets.told;
      pending = on_ok_of _ c.read_below-answer.result failed;
      none_pending = meets.none_pending;
      bytes = λ told. on_ok_of _ c.read_below-answer.result failed;
      writes = λ told. on_ok_of _ c.read_below-answer.result failed;
      torn = λ told. on_ok_of _ c.read_below-answer.result failed;
      err = λ told. on_err_weaker c.read_below-answer.result (left_disk_torn_none old.writes (write_records c.args.lba c.args.bytes.now old) old new) (meets.err told);
    }

pub returns-then-is_err-clause-fused : goal.returns-then-is_err-clause-fused
returns-then-is_err-clause-fused g c =
    inl (record {
      failed = sym c.is_err.ensures.value ∙ c.if-is_err.true;
      was = c.read_below-answer.new.buf;
      fits = c.read_below-answer.auto.buf ∙ c.requires.was;
      read = c.read_below-answer.ensures.meets;
    })

pub returns-then-is_err-2-clause-content : goal.returns-then-is_err-2-clause-content
returns-then-is_err-2-clause-content g c =
    let old = (g.D.Disk.state c.args.inner.now).medium in
    let mid = (g.D.Disk.state c.read_below-answer.new.inner).medium in
    let new = (g.D.Disk.state c.write.new.self).medium in
    let same = on_ok_at c.read_below-answer.result (sym c.is_err.ensures.value ∙ c.if-is_err.false) c.read_below-answer.ensures.meets.ok in
    let meets = c.write.ensures.meets in
    let failed = sym c.is_err-2.ensures.value ∙ c.if-is_err-2.true in
    record {
      sectors = meets.sectors ∙ ap (λ (m : DiskMedium). m.sectors) same;
      told = meets.told ∙ ap (λ (m : DiskMedium). m.told) same;
      pending = tt;
      none_pending = on_err_at c.write.result failed meets.none_pending;
      bytes = λ told. tt;
      writes = λ told. tt;
      torn = λ told. tt;
      err = λ told. left_disk_torn_read_below c.args.lba c.args.bytes.now old mid new _ same (on_err_at c.write.result failed (meets.err (subst (λ (m : DiskMedium). IsTrue m.told) (sym same) told)));
    }

pub returns-then-is_err-2-clause-fused : goal.returns-then-is_err-2-clause-fused
returns-then-is_err-2-clause-fused g c =
    inr (writes_after_read c.args.lba c.read_below-answer.new.buf c.args.bytes.now _ (g.D.Disk.state c.read_below-answer.new.inner) _ c.read_below-answer.result c.write.result _ (c.read_below-answer.auto.buf ∙ c.requires.was)
    (sym c.is_err.ensures.value ∙ c.if-is_err.false) (sym c.is_err-2.ensures.value ∙ c.if-is_err-2.true) c.read_below-answer.ensures.meets c.write.ensures.meets)

pub returns-clause-mirrors : goal.returns-clause-mirrors
returns-clause-mirrors g c =
    let old = (g.D.Disk.state c.args.inner.now).medium in
    let mid = (g.D.Disk.state c.read_below-answer.new.inner).medium in
    let new = (g.D.Disk.state c.write.new.self).medium in
    let same = on_ok_at c.read_below-answer.result (sym c.is_err.ensures.value ∙ c.if-is_err.false) c.read_below-answer.ensures.meets.ok in
    let meets = c.write.ensures.meets in
    let good = sym c.is_err-2.ensures.value ∙ c.if-is_err-2.false in
    let read = sym c.is_err.ensures.value ∙ c.if-is_err.false in
    let of_old = λ (told : IsTrue mid.told). subst (λ (m : DiskMedium). IsTrue m.told) same told in
    let listed = on_ok_at c.read_below-answer.result read c.read_below-answer.ensures.listed in
    mirrors_more c.args.lba c.read_below-answer.new.buf c.args.bytes.now mid new c.args.writes.now.items c.note.new.torn.items (mirrors_read old mid _ c.args.writes.now.items same c.requires.mirrors)
    c.requires.whole (rw same c.requires.inside) (g.met.D.Disk.told_size c.read_below-answer.new.inner) meets.sectors meets.told (on_ok_at c.write.result good meets.pending) (rw same c.requires.few)
    (λ told. rw same (filled_is c.read_below-answer.new.buf old.bytes (c.args.lba * 512) (length c.args.bytes.now) (c.read_below-answer.auto.buf ∙ c.requires.was) (on_ok_at c.read_below-answer.result read (c.read_below-answer.ensures.meets.filled (of_old told)))))
    (λ told. on_ok_at c.write.result good (meets.bytes told)) (λ told. on_ok_at c.write.result good (meets.writes told))
    (c.note.ensures.noted ∙ ap (λ (l : List Torn). l ++ torn_records (c.args.lba * 512) c.read_below-answer.new.buf c.args.bytes.now c.args.bytes.now) listed)

pub returns-clause-fused : goal.returns-clause-fused
returns-clause-fused g c =
    inr (writes_after_read c.args.lba c.read_below-answer.new.buf c.args.bytes.now _ (g.D.Disk.state c.read_below-answer.new.inner) _ c.read_below-answer.result c.write.result _ (c.read_below-answer.auto.buf ∙ c.requires.was)
    (sym c.is_err.ensures.value ∙ c.if-is_err.false) (sym c.is_err-2.ensures.value ∙ c.if-is_err-2.false) c.read_below-answer.ensures.meets c.write.ensures.meets)
