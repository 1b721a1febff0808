use Rattle.std.proofs.Common.{◌≡◌, map, take}
use Rattle.guard_eval.specs.Violations.{shortfall_view}
use Rattle.guard_authors.proofs.PlacesTaken.{bare_view}
use Rattle.guard_authors.proofs.differing.take_all_places.Given as goal

abbrev pub invariant-loop-shortfall : goal.invariant-loop-shortfall
invariant-loop-shortfall l = record {
  bare : map shortfall_view (take l.shortfall-index l.shortfall-items) ≡ map bare_view (take l.shortfall-index l.shortfall-items);
  same : map bare_view l.shortfall-items ≡ map bare_view l.fn.shortfalls.items;
}
