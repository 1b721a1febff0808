use Rattle.std.proofs.Common.{◌≡◌, ◌++◌, [], drop, map, take}
use Rattle.guard_authors.specs.Listing.{case_lines}
use Rattle.guard_authors.proofs.parties.add_case_lines.Given as goal

abbrev pub invariant-loop-place : goal.invariant-loop-place
invariant-loop-place l =
    l.text.items ++ case_lines (map (λ name. name.now) (take l.place l.names)) (map (λ name. name.now) (drop l.place l.names)) ≡ l.initial.text.items ++ case_lines [] (map (λ name. name.now) l.names)
