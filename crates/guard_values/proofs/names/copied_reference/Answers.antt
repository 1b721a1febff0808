use Rattle.std.proofs.Common.{rules}
use Rattle.guard_model.specs.TypeView.{type_view}
use Rattle.guard_model.specs.declared.ty.Kind.{the_lemmas}
use Rattle.guard_values.specs.Views.{values_of}
use Rattle.guard_values.proofs.OneAnswer.EarlyEnds.{reference_fits}
use Rattle.guard_values.proofs.names.copied_reference.Goals as goal

pub measured-requires : goal.measured-requires
measured-requires c = λ _. reference_fits (values_of c.args.scope) c.requires.fitting (type_view c.args.ty.now) c.args.site c.args.name.now c.numbered.result c.requires.proper (search (rules, the_lemmas))
