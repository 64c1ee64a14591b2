-- A program on a fuse meets the trait, whether it is refused, passes on or is the chosen one.
use Rattle.std.proofs.Common.{refl, is_err, ◌∙◌, sym}
use Rattle.board_core.proofs.FuseLemmas.{passed_change, failed_change, programs_passed, programs_failed}
use Rattle.board_core.proofs.TornRange.{left_torn_same}
use Rattle.board_core.proofs.fuse_calls.FuseFlash.program.Goals as goal

pub returns-in-Refuse-clause-meets : goal.returns-in-Refuse-clause-meets
returns-in-Refuse-clause-meets g c =
    let medium = (g.F.Flash.state c.args.self.now.inner).medium in
    let torn = c.args.self.now.torn.items in
    let changed = failed_change c.args.self.now.counters c.begin_change.new.self c.count_change.new.self _ c.count_change.result c.begin_change.ensures.after c.count_change.ensures.same c.count_change.ensures.counted in
    programs_failed c.args.at c.args.bytes.now medium medium torn torn c.args.self.now.counters c.count_change.new.self _ c.count_change.result
    c.count_change.ensures.same changed refl refl (λ told. left_torn_same c.args.at c.args.bytes.now _ _ refl)

pub returns-in-Pass-clause-meets : goal.returns-in-Pass-clause-meets
returns-in-Pass-clause-meets g c =
    let turn = sym c.begin_change.ensures.turn ∙ c.in-Pass.is in
    let changed = passed_change c.args.self.now.counters c.begin_change.new.self c.count_change-in-Pass.new.self (is_err c.count_change-in-Pass.result) turn c.begin_change.ensures.after c.count_change-in-Pass.ensures.counted in
    programs_passed c.args.at c.args.bytes.now (g.F.Flash.state c.args.self.now.inner) (g.F.Flash.state c.program-answer.new.self) c.args.self.now.torn.items c.args.self.now.counters c.count_change-in-Pass.new.self
    c.program-answer.result c.count_change-in-Pass.result c.program-answer.ensures.meets c.count_change-in-Pass.ensures.same changed

pub returns-in-Stop-clause-meets : goal.returns-in-Stop-clause-meets
returns-in-Stop-clause-meets g c =
    let changed = failed_change c.args.self.now.counters c.begin_change.new.self c.count_change-in-Stop.new.self _ c.count_change-in-Stop.result c.begin_change.ensures.after c.count_change-in-Stop.ensures.same c.count_change-in-Stop.ensures.counted in
    programs_failed c.args.at c.args.bytes.now (g.F.Flash.state c.args.self.now.inner).medium (g.F.Flash.state c.cut_program.new.inner).medium c.args.self.now.torn.items c.cut_program.new.torn.items
    c.args.self.now.counters c.count_change-in-Stop.new.self _ c.count_change-in-Stop.result
    c.count_change-in-Stop.ensures.same changed c.cut_program.ensures.size c.cut_program.ensures.told c.cut_program.ensures.left_torn
