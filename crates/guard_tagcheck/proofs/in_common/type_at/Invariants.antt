use Rattle.std.proofs.Common.{◌≡◌, drop}
use Rattle.guard_model.specs.TypeView.{type_view}
use Rattle.guard_tagcheck.specs.Distinct.{type_at}
use Rattle.guard_tagcheck.proofs.in_common.type_at.Given as goal

abbrev pub invariant-loop-step : goal.invariant-loop-step
invariant-loop-step l = type_at (drop l.step-index l.path) (type_view l.at) ≡ type_at l.path (type_view l.ty)
