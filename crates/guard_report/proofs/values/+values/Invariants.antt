use Rattle.std.proofs.Common.{◌≡◌, ◌++◌, true, drop, option_map}
use Rattle.guard_model.specs.TypeView.{type_view}
use Rattle.guard_model.specs.ValueView.{fields_view, items_view}
use Rattle.guard_report.specs.Layouts.{inside, parts_from}
use Rattle.guard_report.specs.ValueText.{field_texts, element_texts}
use Rattle.guard_report.proofs.values.+values.Given as goal

-- what is written, with the texts of the components that are left, is the text of all
abbrev pub invariant-add_fields-loop-place : goal.invariant-add_fields-loop-place
invariant-add_fields-loop-place l =
    l.text.items ++ parts_from l.layout l.is_first (field_texts (inside l.layout) (option_map (λ ty. type_view ty.now) l.ty) l.place (fields_view (drop l.place l.fields)))
    ≡ l.initial.text.items ++ parts_from l.layout true (field_texts (inside l.layout) (option_map (λ ty. type_view ty.now) l.ty) 0 (fields_view l.fields))

-- of elements the same
abbrev pub invariant-add_elements-loop-item : goal.invariant-add_elements-loop-item
invariant-add_elements-loop-item l =
    l.text.items ++ parts_from l.layout l.is_first (element_texts (inside l.layout) (option_map (λ ty. type_view ty.now) l.ty) (items_view (drop l.item-index l.items)))
    ≡ l.initial.text.items ++ parts_from l.layout true (element_texts (inside l.layout) (option_map (λ ty. type_view ty.now) l.ty) (items_view l.items))
