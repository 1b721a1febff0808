use Rattle.std.proofs.Common.{◌≡◌, ◌++◌, drop, map}
use Rattle.guard_model.specs.TypeView.{kind_view, part_view, parts_of}
use Rattle.guard_tables.specs.Terms.{listed_terms}
use Rattle.guard_tables.specs.inside.DemandViews.{terms_view}
use Rattle.guard_tables.proofs.parts.push_listed.Given as goal

-- with the tests of the parts that are left it is what it is with the tests of all
abbrev pub invariant-loop-part : goal.invariant-loop-part
invariant-loop-part l =
    terms_view l.terms.items ++ listed_terms l.slots (kind_view l.kind) l.partial (parts_of (map part_view (drop l.part-index l.parts)))
    ≡ terms_view l.initial.terms.items ++ listed_terms l.slots (kind_view l.kind) l.partial (parts_of (map part_view l.parts))
