-- What was read stands before the rest of the zeros; or there is no room, and all are zeros.
use Rattle.std.proofs.Common.{◌≡◌, ◌+◌, ◌≤◌, length, arith}
use Rattle.std.proofs.lemmas.List.{length-take-le}
use Rattle.rom_core.proofs.GbbReads.{front_padded, none_padded}
use Rattle.rom_core.proofs.gbb.read_padded.Goals as goal

pub returns-in_ok-read-clause-padded : goal.returns-in_ok-read-clause-padded
returns-in_ok-read-clause-padded g c told =
    let old = (g.F.Flash.state c.args.flash.now).medium in
    let inside : c.args.at + c.args.size ≤ length old.bytes = omega (arith, c.requires.inside, g.met.F.Flash.told_size c.args.flash.now told) in
    let long : length c.read.new.buf ≡ c.args.size = omega (arith, length-take-le c.args.size c.args.room.now c.if-size-room.true) in
    front_padded old.bytes c.args.room.now c.read.new.buf c.args.at c.args.size c.requires.zeros c.if-size-room.true inside long (c.in_ok-read.ensures.meets.filled told)

pub returns-else-size-room-clause-padded : goal.returns-else-size-room-clause-padded
returns-else-size-room-clause-padded g c told =
    let old = (g.F.Flash.state c.args.flash.now).medium in
    let inside : c.args.at + c.args.size ≤ length old.bytes = omega (arith, c.requires.inside, g.met.F.Flash.told_size c.args.flash.now told) in
    none_padded old.bytes c.args.room.now c.args.at c.args.size c.requires.zeros c.if-size-room.false inside
