-- A read on a fuse meets the trait, whether it is refused or passes on.
use Rattle.board_core.proofs.FuseLemmas.{reads_passed, reads_failed}
use Rattle.board_core.proofs.fuse_calls.FuseFlash.read.Goals as goal

pub returns-in-Dead-clause-meets : goal.returns-in-Dead-clause-meets
returns-in-Dead-clause-meets g c =
    reads_failed c.args.at c.args.buf.now (g.F.Flash.state c.args.self.now.inner).medium c.args.self.now.torn.items c.args.self.now.counters c.count_observed.new.self _ c.count_observed.result
    c.count_observed.ensures.same c.count_observed.ensures.counted

pub returns-clause-meets : goal.returns-clause-meets
returns-clause-meets g c =
    reads_passed c.args.at c.read-answer.new.buf (g.F.Flash.state c.args.self.now.inner) (g.F.Flash.state c.read-answer.new.self) c.args.self.now.torn.items c.args.self.now.counters c.count_observed-2.new.self
    c.read-answer.result c.count_observed-2.result c.read-answer.ensures.meets c.count_observed-2.ensures.same c.count_observed-2.ensures.counted
