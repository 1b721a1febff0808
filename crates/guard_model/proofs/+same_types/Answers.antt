use Rattle.guard_model.proofs.DifferentLengths.{components_apart, constraints_apart, parts_apart}
use Rattle.guard_model.proofs.+same_types.Goals as goal

pub same_base::are_same_components-returns-then-comps-others : goal.same_base::are_same_components-returns-then-comps-others
same_base::are_same_components-returns-then-comps-others t c = components_apart c.args.whole c.args.comps.now c.args.others.now (λ e. c.if-comps-others.true e)

pub same_base::are_same_constraints-returns-then-constraints-others : goal.same_base::are_same_constraints-returns-then-constraints-others
same_base::are_same_constraints-returns-then-constraints-others t c = constraints_apart c.args.whole c.args.constraints.now c.args.others.now (λ e. c.if-constraints-others.true e)

pub same_base::are_same_parts-returns-then-parts-others : goal.same_base::are_same_parts-returns-then-parts-others
same_base::are_same_parts-returns-then-parts-others t c = parts_apart c.args.whole c.args.parts.now c.args.others.now (λ e. c.if-parts-others.true e)
