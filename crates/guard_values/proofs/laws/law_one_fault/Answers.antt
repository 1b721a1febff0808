use Rattle.guard_model.specs.TypeView.{type_view}
use Rattle.guard_syntax.specs.Views as trees
use Rattle.guard_values.specs.Views.{visible_from}
use Rattle.guard_values.proofs.FirstFaults.WholeValues.{one_first}
use Rattle.guard_values.proofs.laws.law_one_fault.Goals as goal

pub returns : goal.returns
returns c = λ f g h k. one_first (visible_from c.args.names.now c.args.known.now c.args.id) (trees.value_view c.args.tree.now) (type_view c.args.ty.now) f g h k
