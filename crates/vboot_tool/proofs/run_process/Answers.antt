-- The words that were run are those after the program's name.
use Rattle.std.proofs.Common.{◌∙◌, Global, List, map, string_bytes, subst, inl}
use Rattle.std.specs.declared.string.String.{String}
use Rattle.vboot_tool.specs.Starting.{StartsBy}
use Rattle.vboot_tool.proofs.run_process.Goals as goal

pub returns : goal.returns
returns g c = (
  c.run_here.result,
  c.from-2.ensures ∙ c.code-2.ensures,
  inl (subst (λ (words : List (String Global)). StartsBy (map string_bytes words) (g.O.Sink.state c.args.out.now) (g.O.Sink.state c.run_here.new.out) c.run_here.result)
      (c.deref.ensures.value ∙ c.in-Ok.ensures) c.run_here.ensures),
)
