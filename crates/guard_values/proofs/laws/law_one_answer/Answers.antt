use Rattle.guard_model.specs.TypeView.{type_view}
use Rattle.guard_syntax.specs.Views as trees
use Rattle.guard_values.specs.Views.{visible_from}
use Rattle.guard_values.proofs.OneAnswer.FaultOrValue.{denoted_or_faulty}
use Rattle.guard_values.proofs.laws.law_one_answer.Goals as goal

pub returns : goal.returns
returns c = denoted_or_faulty (visible_from c.args.names.now c.args.known.now c.args.id) (type_view c.args.ty.now) (trees.value_view c.args.tree.now)
