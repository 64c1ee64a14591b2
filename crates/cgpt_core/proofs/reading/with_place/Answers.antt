use Rattle.std.proofs.Common.{codes}
use Rattle.clap.specs.Words.{app_of}
use Rattle.cgpt_core.specs.Words.{value_rule}
use Rattle.cgpt_core.proofs.MoreOptions.{three_more}
use Rattle.cgpt_core.proofs.reading.with_place.Goals as goal

pub returns : goal.returns
returns c =
    three_more (app_of c.args.app) (app_of c.in_ok-app.app) (app_of c.in_ok-app-2.app)
    (value_rule (codes "index") 105) (value_rule (codes "begin") 98) (value_rule (codes "size") 115)
    c.with_value-3.result c.in_ok-app.ensures c.in_ok-app-2.ensures c.with_value-3.ensures
