use Rattle.std.proofs.Common.{◌≡◌, drop}
use Rattle.guard_model.specs.ValueView.{value_view}
use Rattle.guard_report.specs.Parts.{value_at}
use Rattle.guard_report.proofs.parts.value_at.Given as goal

-- what the steps that are left name there is what all name in the whole
abbrev pub invariant-loop-step : goal.invariant-loop-step
invariant-loop-step l = value_at (drop l.step-index l.path) (value_view l.inner) ≡ value_at l.path (value_view l.value)
