use Rattle.std.proofs.Common.{◌≡◌, ◌++◌, drop, option_map}
use Rattle.guard_model.specs.TypeView.{type_view}
use Rattle.guard_model.specs.ValueView.{fields_view, items_view}
use Rattle.guard_messages.specs.ValueJson.{elements_json, members_json}
use Rattle.guard_messages.proofs.value_json.+values.Given as goal

-- what is written, with the tokens of the components that are left, is what there is of all
abbrev pub invariant-add_fields-loop-place : goal.invariant-add_fields-loop-place
invariant-add_fields-loop-place l =
    (l.writer.tokens ++ members_json (option_map (λ ty. type_view ty.now) l.ty) l.place (fields_view (drop l.place l.fields))
    ≡ l.initial.writer.tokens ++ members_json (option_map (λ ty. type_view ty.now) l.ty) 0 (fields_view l.fields))
    × (l.writer.before ≡ l.initial.writer.before)

-- of elements the same
abbrev pub invariant-add_items-loop-item : goal.invariant-add_items-loop-item
invariant-add_items-loop-item l =
    (l.writer.tokens ++ elements_json (option_map (λ ty. type_view ty.now) l.ty) (items_view (drop l.item-index l.items))
    ≡ l.initial.writer.tokens ++ elements_json (option_map (λ ty. type_view ty.now) l.ty) (items_view l.items))
    × (l.writer.before ≡ l.initial.writer.before)
