use Rattle.std.proofs.Common.{◌≡◌, Some, drop, option_map}
use Rattle.guard_model.specs.TypeView.{type_view}
use Rattle.guard_report.specs.Parts.{type_at}
use Rattle.guard_report.proofs.parts.type_at.Given as goal

abbrev pub invariant-loop-step : goal.invariant-loop-step
invariant-loop-step l = type_at (drop l.step-index l.path) (option_map (λ t. type_view t.now) l.inner) ≡ type_at l.path (Some (type_view l.ty))
