use Rattle.std.proofs.Common.{◌≡◌, List, map, length, Ok, ap, sym, ◌∙◌, arith}
use Rattle.std.proofs.lemmas.List.{length-map}
use Rattle.guard_model.specs.TypeView.{type_view}
use Rattle.guard_model.specs.ValueView.{value_view, items_view}
use Rattle.guard_model.specs.AbstractValue.{AbstractValue, items}
use Rattle.guard_model.specs.declared.value.Value.{Value}
use Rattle.guard_model.proofs.ValueViews.{value_view_items}
use Rattle.guard_values.specs.Arrangement.{encoded_value}
use Rattle.guard_values.specs.Views.{encoded_view}
use Rattle.guard_values.proofs.SetOf.MadeEncodings.{listed_as}
use Rattle.guard_values.proofs.elements.listed_set.Goals as goal

pub returns : goal.returns
returns c =
    let count : length (map encoded_value (map encoded_view c.args.elements.items)) ≡ length c.args.elements.items = length-map (map encoded_view c.args.elements.items) encoded_value ∙ length-map c.args.elements.items encoded_view in
    let h = c.len.ensures in
    listed_as c.args.site (type_view c.args.ty.now) (map encoded_view c.args.elements.items) (map value_view c.in_ok-arranged.field-0.items) c.requires (omega (arith, c.if-len-gt-MOST_ITEMS.false, h, count)) c.in_ok-arranged.ensures
    ∙ ap (λ (w : AbstractValue). Ok w) (sym (value_view_items c.in_ok-shared.shared ∙ ap (λ (vs : List Value). items (items_view vs)) c.in_ok-shared.ensures))
