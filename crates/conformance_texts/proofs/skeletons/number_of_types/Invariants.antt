use Rattle.std.proofs.Common.{◌≡◌, ◌≤◌, All, length, map}
use Rattle.std.specs.Prelude.{IsTrue}
use Rattle.guard_model.specs.TypeView.{shared_type_view}
use Rattle.guard_names.specs.NamesView.{modules_of, order_of}
use Rattle.guard_tagcheck.specs.Limits.{is_within_limits}
use Rattle.guard_tagging.specs.Faults.{most_nodes}
use Rattle.guard_tagging.specs.ScopeView.{known_list}
use Rattle.guard_tagging.specs.Skeletons.{AreMeanings}
use Rattle.guard_tagging.specs.Surroundings.{nodes_of_all}
use Rattle.conformance_texts.proofs.skeletons.number_of_types.Given as goal

abbrev pub invariant-loop-id : goal.invariant-loop-id
invariant-loop-id l = record {
  built : length l.types.items ≡ l.id-index;
  flagged : length l.automatic.items ≡ l.id-index;
  known : AreMeanings (modules_of l.names) (order_of l.names) (map shared_type_view l.types.items) (known_list (map shared_type_view l.types.items) l.automatic.items);
  counted : l.nodes ≡ nodes_of_all (map shared_type_view l.types.items);
  few : l.nodes ≤ most_nodes;
  limits : All (λ t. IsTrue (is_within_limits (shared_type_view t))) l.types.items;
}
