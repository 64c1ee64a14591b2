-- The flush after the first sectors fails: their range and each pending sector are torn.
use Rattle.std.proofs.Common.{◌≡◌, ◌+◌, ◌*◌, ◌≤◌, ◌++◌, IsTrue, List, inl, inr, refl, sym, ap, ◌∙◌, subst, arith, rules, length, take}
use Rattle.std.proofs.lemmas.List.{take_all}
use Rattle.std.proofs.lemmas.Result.{on_err_weaker}
use Rattle.std.specs.Prelude.{All, Ok, Err, is_err}
use Rattle.board_core.specs.declared.torn.Torn.{Torn}
use Rattle.board_core.specs.Flash.{range}
use Rattle.board_core.specs.Disk.{IsSectorOf, overlaid, write_records}
use Rattle.board_core.proofs.Overlays.{overlaid-range}
use Rattle.board_core.proofs.DiskTorn.{left_disk_torn_after}
use Rattle.board_core.proofs.FuseDiskLemmas.{sectors_more}
use Rattle.board_core.proofs.fuse_disk_parts.write_and_flush.Goals as goal

pub returns-clause-err : goal.returns-clause-err
returns-clause-err g c = λ told.
    let old = (g.D.Disk.state c.args.inner.now).medium in
    let mid = (g.D.Disk.state c.write.new.self).medium in
    let new = (g.D.Disk.state c.flush-2.new.self).medium in
    let own = write_records c.args.lba c.args.front.now old in
    let meets = c.in_ok-write.ensures.meets in
    let size = g.met.D.Disk.told_size c.args.inner.now told in
    let mirrors = c.requires.mirrors told in
    let inside : c.args.lba * 512 + length c.args.front.now ≤ length old.bytes = omega (arith, size, c.requires.inside, c.requires.whole) in
    let all : take (length own) own ≡ own = take_all (length own) own (omega arith) in
    let was = range old.bytes (c.args.lba * 512) (length c.args.front.now) in
    let sectors : All (IsSectorOf (old.sectors * 512)) (old.writes ++ own) = sectors_more c.args.lba old.sectors was c.args.front.now old.writes mirrors.in_sectors c.requires.whole c.requires.inside in
    let over = meets.bytes told ∙ sym (overlaid-range (c.args.lba * 512) old.bytes was c.args.front.now c.args.front.now c.requires.whole refl inside) in
    on_err_weaker c.flush-2.result
    (left_disk_torn_after (old.sectors * 512) old.writes own (length own) old mid new size (rw all sectors) (omega arith) (mirrors.stand told) (over ∙ ap (overlaid old.bytes) (sym all))
    (meets.torn told) (meets.writes told ∙ ap (λ (l : List Torn). old.writes ++ l) (sym all)))
    (c.flush-2.ensures.meets.err (subst IsTrue (sym meets.told) told))

pub returns-then-is_empty-clause-calls : goal.returns-then-is_empty-clause-calls
returns-then-is_empty-clause-calls g c =
    inr (record {
      mid = g.D.Disk.state c.args.inner.now;
      written = inl (search rules, refl);
      flush = record { answer = c.flush.result; answered = refl; flushed = c.flush.ensures.meets };
    })

pub returns-in_err-write-clause-calls : goal.returns-in_err-write-clause-calls
returns-in_err-write-clause-calls g c =
    let failed : c.from_residual.result ≡ Err c.in_err-write.field-0.0 = search rules in
    inl (ap is_err failed, record { answer = Err c.in_err-write.field-0.0; answered = refl; written = c.in_err-write.ensures.meets })

pub returns-clause-calls : goal.returns-clause-calls
returns-clause-calls g c =
    inr (record {
      mid = g.D.Disk.state c.write.new.self;
      written = inr (record { answer = Ok tt; answered = refl; written = c.in_ok-write.ensures.meets });
      flush = record { answer = c.flush-2.result; answered = refl; flushed = c.flush-2.ensures.meets };
    })
