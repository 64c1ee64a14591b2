-- What both copies got is what the room's table writes.
use Rattle.std.proofs.Common.{◌≡◌, ℕ, ◌≤◌, Result, Ok, Err, IsTrue, ap, sym, ◌∙◌, subst}
use Rattle.std.proofs.lemmas.Result.{err_from_is_err_and}
use Rattle.board_core.specs.declared.device.Failed.{Failed}
use Rattle.gpt_core.specs.Format.{PartitionTable, IsValidTable}
use Rattle.gpt_core.specs.Tables.{IsSource}
use Rattle.gpt_core.specs.Commits.{Commits}
use Rattle.gpt_core.specs.Room.{RoomView}
use Rattle.gpt_core.proofs.Committed.{commits_of, same_content}
use Rattle.gpt_core.proofs.committing.commit.Given.{Over}
use Rattle.gpt_core.proofs.committing.commit.Goals as goal
use Rattle.gpt_core.proofs.committing.commit.Goals.{After-write_both}

commits : (g : Over) (c : After-write_both g) → Commits c.room.inside.source c.room.inside.table (g.D.Disk.state c.args.disk.now) (g.D.Disk.state c.write_both.new.disk) c.write_both.result
commits g c =
    let old = g.D.Disk.state c.args.disk.now in
    let table : PartitionTable = c.room.inside.table in
    let same : c.room.inside.sectors ≡ old.medium.sectors = ap (λ (r : RoomView). r.sectors) c.room.view_is ∙ c.requires.same_disk in
    let valid : IsValidTable old.medium.sectors table = subst (λ (n : ℕ). IsValidTable n table) same (c.room.invariant (subst (λ (r : RoomView). 1 ≤ r.sectors) (sym c.room.view_is) c.requires.known)) in
    let is_source = subst (λ (r : RoomView). IsTrue old.medium.told → IsSource r.source old.medium.sectors old.medium.bytes) (sym c.room.view_is) c.requires.source in
    let is = same_content c.room.inside.sectors old.medium.sectors table _ _ _ same c.entries-entries.ensures.value c.header-primary.ensures c.header-backup.ensures in
    commits_of c.room.inside.source table _ old _ c.write_both.result is valid is_source c.write_both.ensures.meets c.write_both.ensures.order c.write_both.ensures.made c.write_both.ensures.fails

pub returns-in_err-write_both-clause-meets : goal.returns-in_err-write_both-clause-meets
returns-in_err-write_both-clause-meets g c =
    let made = commits g (goal.at.returns-in_err-write_both-clause-meets g c).After-write_both in
    let error = err_from_is_err_and c.from_residual.result c.from_residual.ensures.1 in
    let failed : Result Unit Failed = Err error.0 in
    rw error.1 (subst (λ (r : RoomView). Commits r.source r.table (g.D.Disk.state c.args.disk.now) (g.D.Disk.state c.write_both.new.disk) failed) c.room.view_is
    (subst (λ (r : Result Unit Failed). Commits c.room.inside.source c.room.inside.table (g.D.Disk.state c.args.disk.now) (g.D.Disk.state c.write_both.new.disk) r) c.in_err-write_both.was made))

pub returns-clause-meets : goal.returns-clause-meets
returns-clause-meets g c =
    let made = commits g (goal.at.returns-clause-meets g c).After-write_both in
    let done : Result Unit Failed = Ok tt in
    subst (λ (r : RoomView). Commits r.source r.table (g.D.Disk.state c.args.disk.now) (g.D.Disk.state c.write_both.new.disk) done) c.room.view_is
    (subst (λ (r : Result Unit Failed). Commits c.room.inside.source c.room.inside.table (g.D.Disk.state c.args.disk.now) (g.D.Disk.state c.write_both.new.disk) r) c.in_ok-write_both.was made)
