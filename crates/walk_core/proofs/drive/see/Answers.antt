-- There is no table; or the walk over it came to its end, or failed.
use Rattle.std.proofs.Common.{Ok, subst, rules}
use Rattle.board_core.specs.declared.device.Failed.{Failed}
use Rattle.gpt_core.specs.declared.found.Found.{Found}
use Rattle.gpt_core.specs.Room.{ReadsTable}
use Rattle.gpt_core.proofs.Sources.{is_there}
use Rattle.walk_core.specs.Kernels.{walk_question}
use Rattle.walk_core.proofs.Seeing.{sees_none, sees_failed, sees_done}
use Rattle.walk_core.proofs.drive.see.Goals as goal

pub returns-in-Ok-None : goal.returns-in-Ok-None
returns-in-Ok-None g c =
    let d = walk_question (g.D.Disk.state c.args.disk.now) (g.H.Hook.state c.args.hook.now) c.args.request.now in
    record {
      meets = sees_none d (g.D.Disk.state c.read_table.new.disk) c.read_table.new.room c.args.body.now
          (subst (λ (what : Found). ReadsTable {E = Failed} d.disk (g.D.Disk.state c.read_table.new.disk) c.read_table.new.room
          (Ok what)) c.in-Ok-None.field-0-is c.in-Ok-None.ensures.meets);
    }

pub returns-in-Ok-walk : goal.returns-in-Ok-walk
returns-in-Ok-walk g c =
    let d = walk_question (g.D.Disk.state c.args.disk.now) (g.H.Hook.state c.args.hook.now) c.args.request.now in
    record {
      meets = sees_done d c.in-Ok.field-0 (g.D.Disk.state c.read_table.new.disk) (g.D.Disk.state c.walk.new.disk)
          (g.H.Hook.state c.walk.new.hook) c.read_table.new.room c.walk.new.gpt c.walk.new.body
          c.in-Ok-walk.walked c.changed.result (is_there c.in-Ok.field-0
          (search rules)) c.in-Ok.ensures.meets c.in-Ok-walk.ensures.meets c.changed.ensures;
    }

pub returns-in-Err-walk : goal.returns-in-Err-walk
returns-in-Err-walk g c =
    let d = walk_question (g.D.Disk.state c.args.disk.now) (g.H.Hook.state c.args.hook.now) c.args.request.now in
    record {
      meets = sees_failed d c.in-Ok.field-0 (g.D.Disk.state c.read_table.new.disk) (g.D.Disk.state c.walk.new.disk)
          (g.H.Hook.state c.walk.new.hook) c.read_table.new.room c.walk.new.gpt c.walk.new.body
          c.in-Err-walk.failure (is_there c.in-Ok.field-0 (search rules)) c.in-Ok.ensures.meets c.in-Err-walk.ensures.meets;
    }
