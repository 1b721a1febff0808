use Rattle.std.proofs.Common.{◌≡◌, length}
use Rattle.guard_eval.proofs.PartsTogether.{AsksNothing}
use Rattle.guard_eval.proofs.parts_together.no_demands.Given as goal

abbrev pub invariant-loop : goal.invariant-loop
invariant-loop l = (length l.places.items ≡ l.index) × AsksNothing l.places.items
