use Rattle.std.proofs.Common.{◌≡◌, ℕ, length, ap, ◌∙◌, subst, arith}
use Rattle.board_core.specs.Disk.{ReadsDisk}
use Rattle.gpt_core.specs.Copies.{copy_lba}
use Rattle.gpt_core.proofs.SettledReads.{reads_copy}
use Rattle.gpt_core.proofs.reading.read_copy.Goals as goal

pub returns : goal.returns
returns g c =
    let old = g.D.Disk.state c.args.disk.now in
    let new = g.D.Disk.state c.read.new.self in
    let size : length c.read.new.buf ≡ 16896 = omega (arith, c.read.auto.buf, c.requires.size) in
    let place : c.copy_place-place.result ≡ copy_lba c.args.side old.medium.sectors = c.copy_place-place.ensures ∙ ap (copy_lba c.args.side) c.sectors.ensures.sectors in
    reads_copy c.args.side c.read.new.buf old new c.read.result size c.requires.settled (g.met.D.Disk.told_pending c.args.disk.now)
    (subst (λ (lba : ℕ). ReadsDisk lba c.read.new.buf old new c.read.result) place c.read.ensures.meets)
