-- Each piece is added to those before it.
use Rattle.std.proofs.Common.{◌+◌, ◌*◌, ◌/◌, ◌∙◌, ℕ, false, refl, ap, subst, arith, rules}
use Rattle.kernel_core.specs.KernelBodies.{LooksAtDisk}
use Rattle.kernel_core.proofs.DiskLooks.{looks_none, looks_then, piece_none, piece_then, sectors_then, place_is, aligned_then}
use Rattle.kernel_core.proofs.body.read_rest.Goals as goal

pub loop-done-init : goal.loop-done-init
loop-done-init g c =
    let disk = g.D.Disk.state c.args.disk.now in
    record {
      within = omega arith;
      aligned = λ some. refl;
      looks = looks_none 0 disk;
      taken = piece_none (c.args.lba * 512) disk c.args.hasher.now c.args.body.now.items;
      piece = refl;
      count = omega arith;
      capacity = omega arith;
    }

pub loop-done-preserved : goal.loop-done-preserved
loop-done-preserved g c =
    let disk = g.D.Disk.state c.args.disk.now in
    let disk' = g.D.Disk.state c.loop-done.disk in
    let disk'' = g.D.Disk.state c.take_piece.new.disk in
    let done = c.loop-done.done in
    let count = c.min-count.result in
    let before = c.loop-done.invariant in
    let aligned = before.aligned c.loop-done-test.true in
    let piece = c.in_ok-take_piece.ensures.meets in
    record {
      within = omega (arith, c.min-count.ensures, c.loop-done-test.true);
      aligned = λ after. aligned_then done c.args.len count c.min-count.ensures c.loop-done-test.true aligned after;
      looks = subst (λ (n : ℕ). LooksAtDisk n disk disk'' false) (sectors_then done count aligned)
          (looks_then ((done + 511) / 512) ((count + 511) / 512) disk disk' disk'' false before.looks piece.looks);
      taken = piece_then (c.args.lba * 512) done count _ disk disk' c.args.hasher.now c.loop-done.hasher c.take_piece.new.hasher c.args.body.now.items c.loop-done.body.items c.take_piece.new.body.items _ before.looks (ap (λ (n : ℕ). (c.args.lba + n) * 512) c.from.ensures ∙ place_is c.args.lba done aligned) before.taken piece.ok;
      piece = search rules;
      count = omega (arith, c.in_ok-take_piece.ensures.longer, before.count);
      capacity = search rules;
    }
