use Rattle.std.proofs.Common.{◌≡◌, map, length}
use Rattle.guard_model.specs.TypeView.{shared_type_view}
use Rattle.guard_names.specs.NamesView.{modules_of, order_of}
use Rattle.guard_tagging.specs.ScopeView.{known_list}
use Rattle.guard_tagging.specs.Skeletons.{AreMeanings}
use Rattle.guard_schema.specs.Known.{none_known}
use Rattle.guard_schema.specs.Views.{known_view}
use Rattle.guard_schema.proofs.Filled.Loops.{BuiltSoFar}
use Rattle.guard_schema.proofs.definitions.all_built.Given as goal

abbrev pub invariant-loop-id : goal.invariant-loop-id
invariant-loop-id l = record {
  names : l.progress.names.now ≡ l.names;
  count : length l.progress.known.types.items ≡ l.id-index;
  many : length l.progress.automatic.items ≡ length l.progress.known.types.items;
  so_far : BuiltSoFar (order_of l.names) (none_known (modules_of l.names) (order_of l.names)) l.id-index
      (known_view l.progress);
  flags : AreMeanings (modules_of l.progress.names.now) (order_of l.progress.names.now)
      (map shared_type_view l.progress.known.types.items)
      (known_list (map shared_type_view l.progress.known.types.items) l.progress.automatic.items);
}
