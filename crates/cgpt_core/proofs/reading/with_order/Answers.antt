use Rattle.std.proofs.Common.{codes}
use Rattle.clap.specs.Words.{app_of}
use Rattle.cgpt_core.specs.Words.{value_rule, flag_rule}
use Rattle.cgpt_core.proofs.MoreOptions.{three_more}
use Rattle.cgpt_core.proofs.reading.with_order.Goals as goal

pub returns : goal.returns
returns c =
    three_more (app_of c.args.app) (app_of c.in_ok-app.app) (app_of c.in_ok-app-2.app)
    (value_rule (codes "index") 105) (value_rule (codes "priority") 80) (flag_rule (codes "friends") 102)
    c.with_flag.result c.in_ok-app.ensures c.in_ok-app-2.ensures c.with_flag.ensures
