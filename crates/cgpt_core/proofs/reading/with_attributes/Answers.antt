use Rattle.std.proofs.Common.{codes}
use Rattle.clap.specs.Words.{app_of}
use Rattle.cgpt_core.specs.Words.{value_rule}
use Rattle.cgpt_core.proofs.MoreOptions.{four_more}
use Rattle.cgpt_core.proofs.reading.with_attributes.Goals as goal

pub returns : goal.returns
returns c =
    four_more (app_of c.args.app) (app_of c.in_ok-app.app) (app_of c.in_ok-app-2.app) (app_of c.in_ok-app-3.app)
    (value_rule (codes "successful") 83) (value_rule (codes "tries") 84) (value_rule (codes "priority") 80) (value_rule (codes "attributes") 65)
    c.with_value-4.result c.in_ok-app.ensures c.in_ok-app-2.ensures c.in_ok-app-3.ensures c.with_value-4.ensures
