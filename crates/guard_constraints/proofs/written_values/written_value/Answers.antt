use Rattle.std.proofs.lemmas.Result.{err_from_is_err_and}
use Rattle.guard_model.specs.TypeView.{type_view}
use Rattle.guard_syntax.specs.Views as trees
use Rattle.guard_values.specs.Views.{meaning_of}
use Rattle.guard_constraints.proofs.CodeSteps.ValueAnswers.{value_given, fault_given}
use Rattle.guard_constraints.proofs.written_values.written_value.Goals as goal

pub returns-in_err-shared_value-clause-given : goal.returns-in_err-shared_value-clause-given
returns-in_err-shared_value-clause-given c =
    let p = err_from_is_err_and c.from_residual.result c.from_residual.ensures.1 in
    rw (p.1, p.2) (fault_given (meaning_of c.args.scope) (type_view c.args.ty.now) (trees.value_view c.args.tree.now) c.requires.sound c.in_err-shared_value.field-0.0 c.in_err-shared_value.ensures.first)

pub returns-clause-given : goal.returns-clause-given
returns-clause-given c =
    value_given (meaning_of c.args.scope) (type_view c.args.ty.now) (trees.value_view c.args.tree.now) c.requires.sound c.in_ok-shared_value.field-0.value c.in_ok-shared_value.ensures.denoted
