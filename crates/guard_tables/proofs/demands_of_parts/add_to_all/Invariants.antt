use Rattle.std.proofs.Common.{◌≡◌}
use Rattle.guard_tables.specs.inside.DemandViews.{term_view}
use Rattle.guard_tables.specs.inside.DemandsOfParts.{parts_asked, added_below, added_to_all}
use Rattle.guard_tables.proofs.demands_of_parts.add_to_all.Given as goal

abbrev pub decreases-loop-left : goal.decreases-loop-left
decreases-loop-left l = l.left

-- from the last on
abbrev pub invariant-loop-left : goal.invariant-loop-left
invariant-loop-left l =
    added_below l.left (term_view l.term) (parts_asked l.parts.items) ≡ added_to_all (term_view l.term) (parts_asked l.initial.parts.items)
