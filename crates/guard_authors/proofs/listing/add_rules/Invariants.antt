use Rattle.std.proofs.Common.{◌≡◌, ◌++◌, drop, map}
use Rattle.guard_authors.specs.Listing.{rule_lines, found_view}
use Rattle.guard_authors.proofs.listing.add_rules.Given as goal

abbrev pub invariant-loop-found : goal.invariant-loop-found
invariant-loop-found l =
    l.text.items ++ rule_lines l.strict (map found_view l.rules) l.message (map found_view (drop l.found-index l.rules))
    ≡ l.initial.text.items ++ rule_lines l.strict (map found_view l.rules) l.message (map found_view l.rules)
