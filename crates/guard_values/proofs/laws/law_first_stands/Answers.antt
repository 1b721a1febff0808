use Rattle.guard_model.specs.TypeView.{type_view}
use Rattle.guard_syntax.specs.Views as trees
use Rattle.guard_values.specs.Views.{visible_from}
use Rattle.guard_values.proofs.FirstFaults.WholeValues.{first_holds}
use Rattle.guard_values.proofs.laws.law_first_stands.Goals as goal

pub returns : goal.returns
returns c = λ f h. first_holds (visible_from c.args.names.now c.args.known.now c.args.id) (trees.value_view c.args.tree.now) (type_view c.args.ty.now) f h
