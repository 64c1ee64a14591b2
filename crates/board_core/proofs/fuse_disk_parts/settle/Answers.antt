-- A flush that fails leaves what the disk below notes, and one that answers Ok what the fuse notes.
use Rattle.std.proofs.Common.{◌≡◌, ◌++◌, List, [], inl, inr, refl, sym, ap, ◌∙◌, arith, rules, append-nil}
use Rattle.board_core.specs.declared.torn.Torn.{Torn}
use Rattle.board_core.proofs.FuseLemmas.{on_ok_at, on_err_at}
use Rattle.board_core.proofs.Overlays.{records_of-same}
use Rattle.board_core.proofs.DiskTorn.{left_disk_torn_with_log, left_disk_torn_noted}
use Rattle.board_core.proofs.fuse_disk_parts.settle.Goals as goal

pub returns-then-is_err-clause-left_torn : goal.returns-then-is_err-clause-left_torn
returns-then-is_err-clause-left_torn g c = λ told.
    let old = (g.D.Disk.state c.args.inner.now).medium in
    let new = (g.D.Disk.state c.flush.new.self).medium in
    left_disk_torn_with_log old.writes [] old new c.args.torn.now.items (on_err_at c.flush.result (sym c.is_err.ensures.value ∙ c.if-is_err.true) (c.flush.ensures.meets.err told))

pub returns-clause-left_torn : goal.returns-clause-left_torn
returns-clause-left_torn g c = λ told.
    let old = (g.D.Disk.state c.args.inner.now).medium in
    let new = (g.D.Disk.state c.flush.new.self).medium in
    let writes = c.args.writes.now.items in
    let flushed = on_ok_at c.flush.result (sym c.is_err.ensures.value ∙ c.if-is_err.false) (c.flush.ensures.meets.ok told) in
    let appended : c.append.new.self.items ≡ c.args.torn.now.items ++ writes = search rules in
    left_disk_torn_noted old.writes [] writes 0 old new c.args.torn.now.items c.append.new.self.items (omega arith) flushed.torn appended
    (rw (c.requires.mirrors.known told, append-nil) (records_of-same writes))
    (flushed.bytes ∙ sym (c.requires.mirrors.stand told)) flushed.writes

pub returns-then-is_err-clause-cut : goal.returns-then-is_err-clause-cut
returns-then-is_err-clause-cut g c =
    inl (record { answer = c.flush.result; answered = sym c.is_err.ensures.value ∙ c.if-is_err.true; flushed = c.flush.ensures.meets }, refl)

pub returns-clause-cut : goal.returns-clause-cut
returns-clause-cut g c =
    let good = sym c.is_err.ensures.value ∙ c.if-is_err.false in
    inr (
      record { answer = c.flush.result; answered = good; flushed = c.flush.ensures.meets },
      λ told.
          let flushed = on_ok_at c.flush.result good (c.flush.ensures.meets.ok told) in
          let appended : c.append.new.self.items ≡ c.args.torn.now.items ++ c.args.writes.now.items = search rules in
          record {
            bytes = flushed.bytes;
            torn = flushed.torn;
            noted = appended ∙ ap (λ (l : List Torn). c.args.torn.now.items ++ l) (sym (c.requires.mirrors.known told));
          },
    )
