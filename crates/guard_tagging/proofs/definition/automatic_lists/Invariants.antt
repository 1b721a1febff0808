use Rattle.std.proofs.Common.{◌≡◌, length, map, take}
use Rattle.guard_model.specs.TypeView.{shared_type_view}
use Rattle.guard_names.specs.NamesView.{modules_of, order_of}
use Rattle.guard_tagging.specs.ScopeView.{known_list}
use Rattle.guard_tagging.specs.Skeletons.{AreMeanings}
use Rattle.guard_tagging.proofs.definition.automatic_lists.Given as goal

abbrev pub invariant-loop-place : goal.invariant-loop-place
invariant-loop-place l = record {
  counted : length l.automatic.items ≡ l.place;
  known : AreMeanings (modules_of l.names) (order_of l.names) (take l.place (map shared_type_view l.types))
      (known_list (map shared_type_view l.types) l.automatic.items);
}
