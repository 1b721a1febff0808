use Rattle.std.proofs.Common.{◌≡◌, ◌++◌, drop, option_map}
use Rattle.guard_model.specs.TypeView.{type_view}
use Rattle.guard_report.specs.Text.{steps_text}
use Rattle.guard_report.proofs.path.add_path.Given as goal

-- what is written, with the text of the steps that are left, is the text of all
abbrev pub invariant-loop-step : goal.invariant-loop-step
invariant-loop-step l =
    l.text.items ++ steps_text (option_map (λ ty. type_view ty.now) l.inner) (drop l.step-index l.path)
    ≡ l.initial.text.items ++ steps_text (option_map (λ ty. type_view ty.now) l.initial.inner) l.path
