use Rattle.std.proofs.Common.{rules}
use Rattle.guard_model.specs.TypeView.{type_view}
use Rattle.guard_model.specs.ValueView.{value_view}
use Rattle.guard_messages.proofs.reasons.not_allowed_note.Goals as goal

pub returns : goal.returns
returns c =
    let d = c.in_ok-ty.ensures in
    (type_view c.in_ok-ty.ty.now, value_view c.in_ok-ty.value, d.0, d.1, d.2, search rules)
