-- The bytes that were read are the first 128 of the area.
use Rattle.std.proofs.Common.{◌≡◌, ◌∙◌, length, take, ap, arith}
use Rattle.board_core.specs.Flash.{range}
use Rattle.rom_core.specs.Gbb.{area_bytes}
use Rattle.rom_core.proofs.GbbReads.{head_found}
use Rattle.rom_core.proofs.Ranges.{range-front}
use Rattle.rom_core.proofs.gbb.read_head.Goals as goal

pub returns-clause-found : goal.returns-clause-found
returns-clause-found g c told =
    let old = (g.F.Flash.state c.args.flash.now).medium in
    let long : length c.read.new.buf ≡ 128 = omega arith in
    let front : c.read.new.buf ≡ take 128 (area_bytes c.args.area old) =
    c.in_ok-read.ensures.meets.filled told ∙ ap (range old.bytes c.args.area.at) long ∙ range-front old.bytes c.args.area.at c.args.area.size 128 c.if-area-lt-GBB_HEAD.false in
    head_found c.args.area.size (area_bytes c.args.area old) c.read.new.buf c.check_head.result front c.if-area-lt-GBB_HEAD.false c.check_head.ensures.fault c.check_head.ensures.none c.check_head.ensures.head
