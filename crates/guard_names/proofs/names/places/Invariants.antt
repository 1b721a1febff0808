use Rattle.std.proofs.Common.{◌≡◌, ℕ, length, take, Some, IsTrue, slice_get, slice_index_or}
use Rattle.guard_names.specs.Order.{is_listed}
use Rattle.guard_names.proofs.names.places.Given as goal

abbrev pub invariant-loop-place : goal.invariant-loop-place
invariant-loop-place l = record {
  size : length l.places.items ≡ l.count;
  placed : (number : ℕ) → IsTrue (is_listed (take l.place l.order) number) → slice_get l.order (slice_index_or l.places.items number 0) ≡ Some number;
}
