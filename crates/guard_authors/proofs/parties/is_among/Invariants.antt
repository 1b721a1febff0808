use Rattle.std.proofs.Common.{◌≡◌, drop, map}
use Rattle.std.specs.List.{list_any}
use Rattle.std.specs.Prelude.{bytes_eq}
use Rattle.guard_authors.proofs.parties.is_among.Given as goal

abbrev pub invariant-loop-other : goal.invariant-loop-other
invariant-loop-other l =
    list_any (λ a. bytes_eq a l.name) (map (λ name. name.now) (drop l.other-index l.before)) ≡ list_any (λ a. bytes_eq a l.name) (map (λ name. name.now) l.before)
