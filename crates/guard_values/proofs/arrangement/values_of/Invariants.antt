use Rattle.std.proofs.Common.{◌≡◌, ◌++◌, map}
use Rattle.std.specs.Vec.Iter.{into_iter_items}
use Rattle.guard_model.specs.ValueView.{value_view}
use Rattle.guard_values.specs.Arrangement.{encoded_value}
use Rattle.guard_values.specs.Views.{encoded_view}
use Rattle.guard_values.proofs.arrangement.values_of.Given as goal

abbrev pub invariant-loop-element : goal.invariant-loop-element
invariant-loop-element l = record {
  walked : l.yielded ++ into_iter_items l.element-iterator ≡ into_iter_items l.initial.element-iterator;
  so_far : map value_view l.values.items ≡ map encoded_value (map encoded_view l.yielded);
}
