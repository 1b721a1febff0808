use Rattle.std.proofs.Common.{◌≡◌, ℕ, List, map, take}
use Rattle.guard_model.specs.NamedLists.{named_view, number_named}
use Rattle.guard_model.specs.inside.NamedOrders.{number_at}
use Rattle.guard_model.proofs.named_list.first_numbers.Given as goal

abbrev pub invariant-loop-entry : goal.invariant-loop-entry
invariant-loop-entry l =
    (name : List ℕ) → number_at l.numbers name ≡ number_named name (map named_view (take l.entry-index l.entries))
