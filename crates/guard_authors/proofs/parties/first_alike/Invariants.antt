use Rattle.std.proofs.Common.{◌≡◌, drop, map}
use Rattle.guard_authors.specs.Listing.{first_alike}
use Rattle.guard_authors.proofs.parties.first_alike.Given as goal

abbrev pub invariant-loop-other : goal.invariant-loop-other
invariant-loop-other l =
    first_alike (map (λ name. name.now) (drop l.other-index l.before)) l.name ≡ first_alike (map (λ name. name.now) l.before) l.name
