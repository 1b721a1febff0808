use Rattle.std.proofs.Common.{◌≡◌, drop, map}
use Rattle.std.specs.List.{list_any}
use Rattle.guard_policy.specs.PolicyView.{route_view}
use Rattle.guard_authors.specs.Listing.{may_let_pass, found_view}
use Rattle.guard_authors.proofs.listing.is_open.Given as goal

abbrev pub invariant-loop-found : goal.invariant-loop-found
invariant-loop-found l =
    list_any (may_let_pass (map found_view l.rules) (route_view l.route)) (map found_view (drop l.found-index l.rules))
    ≡ list_any (may_let_pass (map found_view l.rules) (route_view l.route)) (map found_view l.rules)
