use Rattle.std.proofs.Common.{◌≡◌, drop}
use Rattle.std.specs.Prelude.{replicate}
use Rattle.guard_tables.specs.inside.DemandViews.{terms_view}
use Rattle.guard_tables.specs.inside.DemandsOfParts.{parts_asked, nothing_asked, add_terms}
use Rattle.guard_tables.proofs.demands_of_parts.demands_of_parts.Given as goal

-- with the terms that are left it is what comes of all
abbrev pub invariant-loop-term : goal.invariant-loop-term
invariant-loop-term l =
    add_terms l.exclusive (terms_view (drop l.term-index l.terms)) (parts_asked l.parts.items)
    ≡ add_terms l.exclusive (terms_view l.terms) (replicate l.count nothing_asked)
