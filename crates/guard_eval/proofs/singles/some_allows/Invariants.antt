use Rattle.std.proofs.Common.{◌≡◌, map, drop}
use Rattle.guard_model.specs.TypeView.{kind_view, constraint_view, constraints_of}
use Rattle.guard_model.specs.ValueView.{value_view}
use Rattle.guard_eval.specs.inside.Failures.{some_allows}
use Rattle.guard_eval.proofs.singles.some_allows.Given as goal

abbrev pub invariant-loop-one : goal.invariant-loop-one
invariant-loop-one l =
    some_allows (constraints_of (map constraint_view (drop l.one-index l.list))) (kind_view l.kind) (value_view l.value)
    ≡ some_allows (constraints_of (map constraint_view l.list)) (kind_view l.kind) (value_view l.value)
