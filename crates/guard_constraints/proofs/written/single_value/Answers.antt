use Rattle.guard_model.specs.Kinds.{kind_of}
use Rattle.guard_model.specs.TypeView.{type_view}
use Rattle.guard_values.specs.Views.{known_value_view}
use Rattle.guard_constraints.proofs.CodeSteps.NotedBounds.{within_counted}
use Rattle.guard_constraints.proofs.written.single_value.Goals as goal

pub returns-clause-bounds : goal.returns-clause-bounds
returns-clause-bounds c =
    let ty = type_view c.args.ty.now in
    let v = known_value_view c.in_ok-single.single in
    rw c.only.ensures (c.raise.ensures.holds (kind_of ty) v (within_counted c.in_ok-single.single.length ty v c.in_ok-single.ensures.counted))
