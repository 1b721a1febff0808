use Rattle.std.proofs.Common.{subst}
use Rattle.guard_model.specs.TypeView.{kind_view, constraint_view}
use Rattle.guard_model.specs.ValueView.{value_view}
use Rattle.guard_tables.specs.declared.demands.Atom.{Atom}
use Rattle.guard_tables.specs.Apt.{Speaks}
use Rattle.guard_tables.specs.Demands.{equals, scalar}
use Rattle.guard_tables.specs.inside.DemandViews.{atom_view}
use Rattle.guard_tables.proofs.Telling.{standing_fits}
use Rattle.guard_tables.proofs.conditions_at_node.test_of.Goals as goal

pub stored_test-requires : goal.stored_test-requires
stored_test-requires c =
    let kind = kind_view c.args.kind.now in
    let w = value_view c.in-Equals.value.now in
    let s : Speaks kind (equals w) = subst (λ (a : Atom). Speaks kind (atom_view a)) c.in-Equals.is c.requires in
    standing_fits kind s.1 w s.2 s.3

pub scalar_test-requires : goal.scalar_test-requires
scalar_test-requires c =
    let kind = kind_view c.args.kind.now in
    let s : Speaks kind (scalar (kind_view c.in-Scalar.own.now) (constraint_view c.in-Scalar.constraint.now)) = subst (λ (a : Atom). Speaks kind (atom_view a)) c.in-Scalar.is c.requires in
    s.1
