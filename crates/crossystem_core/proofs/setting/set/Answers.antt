-- What was set is shown.
use Rattle.std.proofs.Common.{◌≡◌, ◌∙◌, Ok, ap, sym}
use Rattle.crossystem_core.specs.Keys.{row_of}
use Rattle.crossystem_core.specs.Settings.{setting_in, setting_by}
use Rattle.crossystem_core.proofs.ValuesFound.{setting_shown}
use Rattle.crossystem_core.proofs.setting.set.Goals as goal

pub returns-in-Ok-clause-shown : goal.returns-in-Ok-clause-shown
unfolding setting_in
returns-in-Ok-clause-shown c =
    let is : setting_by (row_of c.args.key).reads c.args.text.now ≡ Ok c.in-Ok.setting =
    ap (setting_in c.args.key) (sym c.as_bytes.ensures.value) ∙ sym c.setting_of.ensures.setting ∙ c.in-Ok.is in
    setting_shown (row_of c.args.key).reads c.args.text.now c.apply.new.nv c.in-Ok.setting is c.apply.ensures.has
