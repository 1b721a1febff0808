use Rattle.std.proofs.Common.{◌≡◌, ◌++◌, true, drop, option_map}
use Rattle.guard_model.specs.TypeView.{type_view}
use Rattle.guard_model.specs.ValueView.{fields_view, items_view}
use Rattle.guard_report.specs.Shown.{note, lines_from, field_lines, element_lines}
use Rattle.guard_report.specs.inside.LineEnds.{end_text}
use Rattle.guard_report.proofs.noted.+noted.Given as goal

-- what is written, with the lines of the components that are left, is the text of all
abbrev pub invariant-add_field_lines-loop-place : goal.invariant-add_field_lines-loop-place
invariant-add_field_lines-loop-place l =
    l.text.items ++ lines_from l.spot.level l.is_first (end_text note l.end) (field_lines note l.octets l.level l.next (option_map (λ ty. type_view ty.now) l.ty) l.place (fields_view (drop l.place l.fields)))
    ≡ l.initial.text.items ++ lines_from l.spot.level true (note l.spot.line) (field_lines note l.octets l.level l.initial.next (option_map (λ ty. type_view ty.now) l.ty) 0 (fields_view l.fields))

-- of elements the same
abbrev pub invariant-add_element_lines-loop-item : goal.invariant-add_element_lines-loop-item
invariant-add_element_lines-loop-item l =
    l.text.items ++ lines_from l.spot.level l.is_first (end_text note l.end) (element_lines note l.octets l.level l.next (option_map (λ ty. type_view ty.now) l.element) (items_view (drop l.item-index l.items)))
    ≡ l.initial.text.items ++ lines_from l.spot.level true (note l.spot.line) (element_lines note l.octets l.level l.initial.next (option_map (λ ty. type_view ty.now) l.element) (items_view l.items))
