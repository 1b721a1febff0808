use Rattle.std.proofs.Common.{◌≡◌, drop, map}
use Rattle.guard_model.specs.TypeView.{type_view, constraint_view, constraints_of}
use Rattle.guard_schema.specs.LongValues.{long_in_all}
use Rattle.guard_schema.proofs.long_values.+long_in.Given as goal

abbrev pub invariant-long_in_all-loop-cons : goal.invariant-long_in_all-loop-cons
invariant-long_in_all-loop-cons l =
    long_in_all (type_view l.ty) (constraints_of (map constraint_view (drop l.cons-index l.all))) ≡ long_in_all
    (type_view l.ty) (constraints_of (map constraint_view l.all))
