use Rattle.std.proofs.Common.{◌∙◌}
use Rattle.guard_model.specs.TypeView.{type_view, constraint_view}
use Rattle.guard_model.specs.ValueView.{value_view}
use Rattle.guard_eval.proofs.AtPlace.{kind_of_view}
use Rattle.guard_eval.proofs.Soundness.{proper_keeps_base}
use Rattle.guard_eval.proofs.Calls.{not_some, holds_by_walk}
use Rattle.guard_eval.proofs.members.holds.Goals as goal

pub returns : goal.returns
returns c =
    not_some c.failure_by.result c.is_none.result c.is_none.ensures
    ∙ holds_by_walk (constraint_view c.args.cons.now) (type_view c.args.ty.now) _ (value_view c.args.value.now) _ c.failure_by.result
    (kind_of_view c.args.ty.now) (proper_keeps_base (constraint_view c.args.cons.now) (type_view c.args.ty.now) c.requires.proper) c.requires.fits c.failure_by.ensures
