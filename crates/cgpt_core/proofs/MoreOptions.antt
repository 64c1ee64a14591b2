-- A command with several more options.
use Rattle.std.proofs.Common.{◌≡◌, ◌∙◌, ap}
use Rattle.std.specs.Prelude.{Result, Ok, Err, IfOk}
use Rattle.clap.specs.Walk.{Rule}
use Rattle.clap.specs.Words.{App, app_of, with_rule}
use Rattle.clap.specs.declared.builder.command.Command.{Command}

one_more : {E : Type 0} (app before : App) (rule : Rule) (answer : Result Command E) → before ≡ app → IfOk answer (λ (new : Command). app_of new ≡ with_rule before rule)
    → IfOk answer (λ (new : Command). app_of new ≡ with_rule app rule)
one_more app before rule (Ok new) is more = more ∙ ap (λ (a : App). with_rule a rule) is
one_more app before rule (Err failed) is more = tt

pub three_more : {E : Type 0} (app one two : App) (r s t : Rule) (answer : Result Command E) → one ≡ with_rule app r → two ≡ with_rule one s → IfOk answer (λ (new : Command). app_of new ≡ with_rule two t)
    → IfOk answer (λ (new : Command). app_of new ≡ with_rule (with_rule (with_rule app r) s) t)
three_more app one two r s t answer first second third =
    one_more (with_rule (with_rule app r) s) two t answer (second ∙ ap (λ (a : App). with_rule a s) first) third

pub four_more : {E : Type 0} (app one two three : App) (r s t u : Rule) (answer : Result Command E) → one ≡ with_rule app r → two ≡ with_rule one s → three ≡ with_rule two t → IfOk answer (λ (new : Command). app_of new ≡ with_rule three u)
    → IfOk answer (λ (new : Command). app_of new ≡ with_rule (with_rule (with_rule (with_rule app r) s) t) u)
four_more app one two three r s t u answer first second third fourth =
    one_more (with_rule (with_rule (with_rule app r) s) t) three u answer (third ∙ ap (λ (a : App). with_rule a t) (second ∙ ap (λ (a : App). with_rule a s) first)) fourth
