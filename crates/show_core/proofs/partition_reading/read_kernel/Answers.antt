-- The partition is too short, or the disk failed, or its kernel was read.
use Rattle.std.proofs.Common.{◌≡◌, ◌∙◌, length, Ok, Err, Result, rules, arith, sym, ap, subst, is_err, Bool, false}
use Rattle.board_core.specs.declared.device.Failed.{Failed}
use Rattle.board_core.specs.Counters.{Observed}
use Rattle.board_core.specs.Disk.{ReadsDisk}
use Rattle.board_core.proofs.FuseDiskLemmas.{settled_writes}
use Rattle.gpt_core.proofs.SettledReads.{keeps_read}
use Rattle.show_core.specs.declared.facts.PartitionFacts.{PartitionFacts}
use Rattle.show_core.specs.Partition.{ReadsKernel}
use Rattle.gpt_core.proofs.FoundTables.{keeps_same}
use Rattle.show_core.proofs.PartitionReads.{short_facts, long_facts}
use Rattle.show_core.proofs.partition_reading.read_kernel.Goals as goal

pub returns-then-sectors-lt128 : goal.returns-then-sectors-lt128
returns-then-sectors-lt128 g c =
    let old = g.D.Disk.state c.args.disk.now in
    let same : Observed old.counters old.counters false = search rules in
    record {
      counters = same;
      keeps = keeps_same old.medium c.requires.settled (g.met.D.Disk.told_pending c.args.disk.now);
      no_fewer = λ told. omega arith;
      no_more = λ told. omega arith;
      facts = λ told. short_facts c.args.first c.args.sectors old.medium c.if-sectors-lt128.true;
    }

pub returns-in_err-read : goal.returns-in_err-read
returns-in_err-read g c =
    let old = g.D.Disk.state c.args.disk.now in
    let new = g.D.Disk.state c.read.new.self in
    let read = c.read.ensures.meets in
    let size : length c.read.new.buf ≡ 65536 = c.read.auto.buf ∙ c.requires.size in
    let failed : c.from_residual.result ≡ Err c.in_err-read.field-0.0 = search rules in
    let was : c.read.result ≡ Err c.in_err-read.field-0.0 = search rules in
    subst (λ (r : Result PartitionFacts Failed). ReadsKernel {E = Failed} c.args.first c.args.sectors old new r) (sym failed)
    (record {
      counters = subst (λ (b : Bool). Observed old.counters new.counters b) (ap is_err was) read.counters;
      keeps = keeps_read c.args.first c.read.new.buf old new c.read.result c.requires.settled (settled_writes old.medium c.requires.settled (g.met.D.Disk.told_pending c.args.disk.now)) read;
      no_fewer = read.no_fewer;
      no_more = λ told. omega (arith, read.no_more told, size);
      facts = λ told. tt;
    })

pub returns : goal.returns
returns g c =
    let old = g.D.Disk.state c.args.disk.now in
    let new = g.D.Disk.state c.read.new.self in
    let size : length c.read.new.buf ≡ 65536 = c.read.auto.buf ∙ c.requires.size in
    let was : c.read.result ≡ Ok c.in_ok-read.field-0 = search rules in
    let read = subst (λ (r : Result Unit Failed). ReadsDisk c.args.first c.read.new.buf old new r) was c.read.ensures.meets in
    record {
      counters = read.counters;
      keeps = keeps_read c.args.first c.read.new.buf old new c.read.result c.requires.settled (settled_writes old.medium c.requires.settled (g.met.D.Disk.told_pending c.args.disk.now)) c.read.ensures.meets;
      no_fewer = read.no_fewer;
      no_more = λ told. omega (arith, read.no_more told, size);
      facts = λ told. long_facts c.args.first c.args.sectors old.medium c.read.new.buf c.kernel_facts.result c.if-sectors-lt128.false c.kernel_facts.ensures (read.filled told) size;
    }
