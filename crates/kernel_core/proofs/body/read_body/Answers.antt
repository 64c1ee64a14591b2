-- What lies in the head's bytes comes first, and the rest behind it.
use Rattle.kernel_core.proofs.BodyReads.{body_read}
use Rattle.kernel_core.proofs.body.read_body.Goals as goal

pub returns-clause-meets : goal.returns-clause-meets
returns-clause-meets g c =
    let disk = g.D.Disk.state c.args.disk.now in
    let disk' = g.D.Disk.state c.read_rest.new.disk in
    let rest = c.in_ok-read_rest.ensures.meets in
    body_read c.args.first c.args.signed.now.at c.args.signed.now.len c.take_front-front.result c.args.signed.now.key.now.algorithm disk disk' c.args.vblock.now c.new-hasher.result c.take_front-front.new.hasher c.read_rest.new.hasher c.clear.new.self.items c.take_front-front.new.body.items c.read_rest.new.body.items
    c.requires.front c.requires.vblock c.take_front-front.ensures.count c.new-hasher.ensures c.clear.ensures.items c.take_front-front.ensures.taken c.requires.filled rest.looks rest.ok
