use Rattle.std.proofs.Common.{◌≡◌, drop, map}
use Rattle.std.specs.List.{list_any}
use Rattle.std.specs.Prelude.{bytes_eq}
use Rattle.guard_authors.specs.Listing.{found_view}
use Rattle.guard_authors.proofs.listing.has_rule.Given as goal

abbrev pub invariant-loop-found : goal.invariant-loop-found
invariant-loop-found l =
    list_any (λ f. bytes_eq f.rule.message l.message) (map found_view (drop l.found-index l.rules))
    ≡ list_any (λ f. bytes_eq f.rule.message l.message) (map found_view l.rules)
