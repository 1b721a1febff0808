use Rattle.std.proofs.Common.{◌≡◌, [], map}
use Rattle.std.specs.Prelude.{replicate}
use Rattle.guard_names.proofs.order.empty_lists.Given as goal

abbrev pub invariant-loop : goal.invariant-loop
invariant-loop l = map (λ w. w.items) l.lists.items ≡ replicate l.counter []
