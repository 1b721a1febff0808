use Rattle.std.proofs.Common.{◌∙◌, ap}
use Rattle.clap.specs.declared.builder.arg.Arg.{Arg}
use Rattle.clap.specs.Walk.{Rule, rule_of}
use Rattle.derguard_program.proofs.words.free_place.Goals as goal

pub returns : goal.returns
returns c = (
  ap rule_of c.help.ensures ∙ ap rule_of c.value_name.ensures ∙ ap (λ (r : Rule). record r { value_names = 1 }) c.free.ensures.0,
  ap (λ (a : Arg). a.global) c.help.ensures ∙ ap (λ (a : Arg). a.global) c.value_name.ensures ∙ c.free.ensures.1,
)
