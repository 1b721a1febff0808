use Rattle.std.proofs.Common.{◌≡◌, ◌++◌, drop}
use Rattle.guard_tables.specs.OfParts.{each_of}
use Rattle.guard_tables.specs.inside.DemandViews.{terms_view, slot_demands_view}
use Rattle.guard_tables.proofs.demands_of_parts.each_of.Given as goal

-- with what comes of the terms that are left it is what comes of all
abbrev pub invariant-loop-term : goal.invariant-loop-term
invariant-loop-term l = slot_demands_view l.demands.items ++ each_of (terms_view (drop l.term-index l.terms)) ≡ each_of (terms_view l.terms)
