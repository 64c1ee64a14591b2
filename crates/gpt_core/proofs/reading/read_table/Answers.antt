-- A disk of too few sectors or of too many is not read, and has no table.
use Rattle.std.proofs.Common.{◌<◌, ◌⊎◌, inl, inr, false, arith, rules}
use Rattle.board_core.specs.Counters.{Observed}
use Rattle.board_core.proofs.FuseDiskLemmas.{settled_writes}
use Rattle.gpt_core.proofs.ReadTables.{reads_none}
use Rattle.gpt_core.proofs.reading.read_table.Goals as goal
use Rattle.gpt_core.proofs.reading.read_table.Goals.{then-sectors-lt-LEAST_SECTORS-via-then-sectors-lt-LEAST_SECTORS, then-sectors-lt-LEAST_SECTORS-via-else-sectors-lt-LEAST_SECTORS+then-sectors-gt-MOST_SECTORS}

pub returns-then-sectors-lt-LEAST_SECTORS : goal.returns-then-sectors-lt-LEAST_SECTORS
returns-then-sectors-lt-LEAST_SECTORS g c =
    let old = g.D.Disk.state c.args.disk.now in
    let same : Observed old.counters old.counters false = search rules in
    let outside : (old.medium.sectors < 69) ⊎ (4294967296 < old.medium.sectors) =
    elim c.then-sectors-lt-LEAST_SECTORS.branch [
      | then-sectors-lt-LEAST_SECTORS-via-then-sectors-lt-LEAST_SECTORS w ↦ inl (omega (arith, w.if-sectors-lt-LEAST_SECTORS.true, c.sectors-sectors.ensures.sectors))
      | then-sectors-lt-LEAST_SECTORS-via-else-sectors-lt-LEAST_SECTORS+then-sectors-gt-MOST_SECTORS w ↦ inr (omega (arith, w.if-sectors-gt-MOST_SECTORS.true, c.sectors-sectors.ensures.sectors))
    ] in
    record { meets = reads_none old c.clear.new.self same outside c.requires (settled_writes old.medium c.requires (g.met.D.Disk.told_pending c.args.disk.now)) c.clear.ensures }
