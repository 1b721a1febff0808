use Rattle.std.proofs.Common.{◌∙◌, ◌++◌, ℕ, List, [], ap}
use Rattle.guard_model.specs.TypeView.{type_view}
use Rattle.guard_model.specs.ValueView.{value_view}
use Rattle.guard_messages.specs.Reasons.{denied_lines, part_line}
use Rattle.guard_messages.specs.RuleTypes.{grounds_view}
use Rattle.guard_messages.proofs.reasons.denied_by_note.Goals as goal

pub returns : goal.returns
returns c =
    let d = c.in_ok-ty.ensures in
    let t = type_view c.in_ok-ty.ty.now in
    let v = value_view c.in_ok-ty.value in
    let note = c.in_ok-note.ensures ∙ ap (denied_lines (grounds_view c.args.grounds.now)) c.rule.ensures in
    (t, v, d.0, d.1, d.2, c.in_ok-add_part.ensures ∙ ap (λ (x : List ℕ). x ++ part_line t v []) note)
