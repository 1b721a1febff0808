use Rattle.std.proofs.Common.{◌≡◌, ◌++◌}
use Rattle.guard_model.proofs.Components.{left}
use Rattle.guard_tables.specs.Terms.{parts_from}
use Rattle.guard_tables.specs.inside.DemandViews.{terms_view}
use Rattle.guard_tables.proofs.parts.push_comps.Given as goal

-- with the tests of the components that are left it is what it is with the tests of all
abbrev pub invariant-loop-place : goal.invariant-loop-place
invariant-loop-place l = terms_view l.terms.items ++ parts_from l.place l.slots (left l.comps l.place) ≡ terms_view l.initial.terms.items ++ parts_from 0 l.slots (left l.comps 0)
