use Rattle.std.proofs.Common.{◌≡◌, drop, map}
use Rattle.guard_model.specs.AbstractType as abstract
use Rattle.guard_constraints.specs.PermittedAlphabets.{first_bad}
use Rattle.guard_constraints.specs.Views.{item_view}
use Rattle.guard_constraints.proofs.alphabets.first_bad.Given as goal

abbrev pub invariant-loop-item : goal.invariant-loop-item
invariant-loop-item l = first_bad (abstract.characters l.kind) (map item_view (drop l.item-index l.items)) ≡ first_bad (abstract.characters l.kind) (map item_view l.items)
