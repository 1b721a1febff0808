use Rattle.std.proofs.Common.{◌≡◌, ◌++◌, drop, map}
use Rattle.guard_model.specs.NamedLists.{named_view}
use Rattle.guard_model.specs.inside.Spelled.{numbers_of}
use Rattle.guard_model.proofs.named_list.numbers_in_order.Given as goal

abbrev pub invariant-loop-entry : goal.invariant-loop-entry
invariant-loop-entry l = l.numbers.items ++ numbers_of (map named_view (drop l.entry-index l.entries)) ≡ numbers_of (map named_view l.entries)
