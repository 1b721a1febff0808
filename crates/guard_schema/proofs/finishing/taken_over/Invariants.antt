use Rattle.std.proofs.Common.{◌≡◌, ◌≤◌}
use Rattle.guard_schema.specs.inside.InTurn as in_turn
use Rattle.guard_schema.specs.Views.{filling_view}
use Rattle.guard_schema.proofs.finishing.taken_over.Given as goal

abbrev pub invariant-loop : goal.invariant-loop
invariant-loop l = record {
  reached : l.counter ≤ l.count;
  so_far : filling_view l.so_far ≡ in_turn.taken_over l.counter (filling_view l.fn.filling);
}
