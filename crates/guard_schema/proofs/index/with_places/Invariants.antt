use Rattle.std.proofs.Common.{◌≡◌, ℕ, List, map, take}
use Rattle.std.specs.Option.{option_or}
use Rattle.guard_schema.specs.Entries.{looked_up, first_place}
use Rattle.guard_schema.specs.Views.{entry_view}
use Rattle.guard_schema.proofs.index.with_places.Given as goal

abbrev pub invariant-loop-definition : goal.invariant-loop-definition
invariant-loop-definition l = (q : List ℕ)
    → looked_up (λ key. key.items) q l.places.entries
    ≡ option_or (looked_up (λ key. key.items) q l.fn.before.entries)
    (first_place q (map entry_view (take l.definition-index l.definitions)))
