use Rattle.std.proofs.Common.{◌≡◌, drop, map}
use Rattle.guard_policy.specs.PolicyView.{route_view, said_view}
use Rattle.guard_authors.specs.Listing.{first_denier, found_view}
use Rattle.guard_authors.proofs.listing.first_denier.Given as goal

abbrev pub invariant-loop-other : goal.invariant-loop-other
invariant-loop-other l =
    first_denier (route_view l.route) (said_view l.rule) (map found_view (drop l.other-index l.rules))
    ≡ first_denier (route_view l.route) (said_view l.rule) (map found_view l.rules)
