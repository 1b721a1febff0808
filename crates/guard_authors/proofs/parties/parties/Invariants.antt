use Rattle.std.proofs.Common.{◌≡◌, ◌++◌, drop, map}
use Rattle.guard_authors.specs.Listing.{found_view, parties}
use Rattle.guard_authors.proofs.parties.parties.Given as goal

abbrev pub invariant-loop-found : goal.invariant-loop-found
invariant-loop-found l =
    map (λ name. name.now) l.names.items ++ parties (map found_view (drop l.found-index l.rules)) ≡ parties (map found_view l.rules)
