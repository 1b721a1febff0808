use Rattle.std.proofs.Common.{◌≡◌, map, take}
use Rattle.std.specs.Prelude.{ℤ}
use Rattle.std.specs.BTreeSet.{contains}
use Rattle.std.specs.Ordering.{int_cmp}
use Rattle.guard_model.specs.NamedLists.{named_view, is_item}
use Rattle.guard_model.proofs.named_list.all_numbers.Given as goal

abbrev pub invariant-loop-entry : goal.invariant-loop-entry
invariant-loop-entry l =
    (z : ℤ) → contains int_cmp l.known z ≡ is_item z (map named_view (take l.entry-index l.entries))
