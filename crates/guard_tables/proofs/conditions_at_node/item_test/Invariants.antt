use Rattle.std.proofs.Common.{◌≡◌, ◌&&◌, ℤ, map, drop}
use Rattle.std.specs.Prelude.{◌||◌}
use Rattle.guard_integers.specs.Integers.{some_holds}
use Rattle.guard_model.specs.AbstractValue as abstract
use Rattle.guard_model.specs.Limits.{fits_128_bits}
use Rattle.guard_model.specs.TypeView.{kind_view, named_view, constraint_view}
use Rattle.guard_model.specs.NamedLists.{is_item}
use Rattle.guard_eval.specs.Member.{holds}
use Rattle.guard_tables.proofs.conditions_at_node.item_test.Given as goal

-- they have those items that the constraint has, but for those to come
abbrev pub invariant-loop-item : goal.invariant-loop-item
invariant-loop-item l = (z : ℤ) →
    (some_holds l.sets.items z ||
    ((fits_128_bits z && is_item z (map named_view (drop l.item-index l.items))) && holds
    (constraint_view l.constraint) (kind_view l.own) (abstract.enumerated z)))
    ≡ ((fits_128_bits z && is_item z (map named_view l.items)) && holds (constraint_view l.constraint)
    (kind_view l.own) (abstract.enumerated z))
