-- Noting a torn range: the records of its first piece and those of the rest are the records of the whole.
use Rattle.std.proofs.Common.{◌≡◌, ◌<◌, length, arith, sym, vec_len, vec_capacity}
use Rattle.std.proofs.lemmas.List.{append-nil}
use Rattle.board_core.proofs.TornRecords.{torn_records-none, torn_records-step, noted_more}
use Rattle.board_core.proofs.torn.+note.Goals as goal

pub returns-then-count-eq0-clause-noted : goal.returns-then-count-eq0-clause-noted
returns-then-count-eq0-clause-noted t c =
    let h : length c.args.meant.now ≡ 0 = omega arith in
    rw (torn_records-none c.args.at c.args.was.now c.args.meant.now c.args.left.now h) (sym (append-nil c.args.torn.now.items))

pub returns-clause-noted : goal.returns-clause-noted
returns-clause-noted t c =
    let some : 0 < c.min-count.result = omega arith in
    let room : vec_len c.args.torn.now < vec_capacity c.args.torn.now = omega (arith, c.requires.room) in
    let pushed = rw (c.push.ensures.succeeds room) at c.push.ensures.items in
    noted_more c.args.torn.now.items c.push.new.self.items c.note.new.torn.items _ _ _ pushed c.note.ensures.noted
    (rw c.first_piece-piece.ensures (torn_records-step c.args.at c.min-count.result c.args.was.now c.args.meant.now c.args.left.now c.min-count.ensures some))
