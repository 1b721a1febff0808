use Rattle.guard_model.specs.TypeView.{type_view}
use Rattle.guard_model.specs.ValueView.{value_view}
use Rattle.guard_der.specs.Views.{breach_view}
use Rattle.guard_report.specs.Shown.{breach_shown}
use Rattle.guard_report.proofs.Answered.{not_both, same_breach}
use Rattle.guard_report.proofs.showing.shown_text.Goals as goal

pub returns-in_ok-value_shown-in-Ok-clause-of_breach :
    goal.returns-in_ok-value_shown-in-Ok-clause-of_breach
returns-in_ok-value_shown-in-Ok-clause-of_breach c =
    λ b is. absurd (not_both b (value_view c.in-Ok.value) (c.in-Ok.ensures.breach_only b is))

pub returns-in_ok-breach_shown-in-Err-Breach-clause-of_breach :
    goal.returns-in_ok-breach_shown-in-Err-Breach-clause-of_breach
returns-in_ok-breach_shown-in-Err-Breach-clause-of_breach c =
    λ b is. same_breach (breach_shown (type_view c.args.ty.now) c.args.octets.now) b (breach_view c.in-Err-Breach.breach)
    c.in_ok-breach_shown-in-Err-Breach.field-0.items
    (rw c.in-Err-Breach.field-0-is at (c.in-Err-Breach.ensures.breach_only b is)) c.in_ok-breach_shown-in-Err-Breach.ensures
