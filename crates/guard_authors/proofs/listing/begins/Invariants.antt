use Rattle.std.proofs.Common.{◌≡◌, drop, map}
use Rattle.guard_model.specs.TypeView.{constraint_view, constraints_of}
use Rattle.guard_files.specs.Places.{places_in}
use Rattle.guard_authors.specs.Listing.{begins}
use Rattle.guard_authors.proofs.listing.begins.Given as goal

-- what is left begins so exactly where all does
abbrev pub invariant-loop-constraint : goal.invariant-loop-constraint
invariant-loop-constraint l =
    begins (places_in (constraints_of (map constraint_view (drop l.constraint-index l.first)))) (places_in (constraints_of (map constraint_view l.rest)))
    ≡ begins (places_in (constraints_of (map constraint_view l.first))) (places_in (constraints_of (map constraint_view l.initial.rest)))
