use Rattle.std.proofs.Common.{◌≡◌, drop}
use Rattle.guard_model.specs.ValueView.{value_view}
use Rattle.guard_eval.specs.inside.PartsTogether.{each_place, is_placed_at}
use Rattle.guard_eval.proofs.parts_together.are_placed_at.Given as goal

abbrev pub invariant-loop-place : goal.invariant-loop-place
invariant-loop-place l =
    each_place (is_placed_at (value_view l.value)) l.place (drop l.place l.places) ≡ each_place (is_placed_at (value_view l.value)) 0 l.places
