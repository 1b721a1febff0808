use Rattle.std.proofs.Common.{◌≡◌, ◌++◌, map}
use Rattle.guard_model.specs.TypeView.{kind_view, part_view, parts_of}
use Rattle.guard_model.proofs.Components.{left}
use Rattle.guard_tables.specs.Terms.{ruled_out}
use Rattle.guard_tables.specs.inside.DemandViews.{terms_view}
use Rattle.guard_tables.proofs.parts.push_unlisted.Given as goal

-- with the tests of the components that are left it is what it is with the tests of all
abbrev pub invariant-loop-place : goal.invariant-loop-place
invariant-loop-place l =
    terms_view l.terms.items ++ ruled_out (kind_view l.kind) (parts_of (map part_view l.parts)) l.place l.slots (left l.comps l.place)
    ≡ terms_view l.initial.terms.items ++ ruled_out (kind_view l.kind) (parts_of (map part_view l.parts)) 0 l.slots (left l.comps 0)
