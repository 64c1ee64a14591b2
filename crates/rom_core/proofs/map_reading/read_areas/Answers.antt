use Rattle.std.proofs.Common.{◌∙◌}
use Rattle.rom_core.proofs.MapLines.{reads_areas}
use Rattle.rom_core.proofs.map_reading.read_areas.Goals as goal

pub returns : goal.returns
returns g c =
    reads_areas c.args.at c.args.count c.args.size _ _ c.read.new.buf c.check_areas.result c.requires.size (c.read.auto.buf ∙ c.requires.rows)
    c.in_ok-read.ensures.meets c.check_areas.ensures.fault c.check_areas.ensures.none c.check_areas.ensures.areas c.check_areas.ensures.fits c.check_areas.ensures.apart
