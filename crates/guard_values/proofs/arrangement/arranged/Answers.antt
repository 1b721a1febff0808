use Rattle.std.proofs.Common.{◌≡◌, Bool, List, map, rules, ap, ◌∙◌, subst, IfOk}
use Rattle.std.specs.Ordering.{is_lt}
use Rattle.std.specs.Cmp.{IsStrictWeakOrder}
use Rattle.std.proofs.lemmas.List.Sorted.{answers_always}
use Rattle.guard_model.specs.ValueView.{value_view}
use Rattle.guard_values.specs.Arrangement.{EncodedValue, encoded_value}
use Rattle.guard_values.specs.Views.{encoded_view}
use Rattle.guard_values.specs.declared.arrangement.Encoded.{Encoded}
use Rattle.guard_values.proofs.SetOf.EncodingOrder.{below, below_order, arranged_is}
use Rattle.guard_values.proofs.SetOf.Insertion.{sort_is, sort_map}
use Rattle.guard_values.proofs.arrangement.arranged.Goals as goal

abbrev below_code : Encoded → Encoded → Bool
below_code x y = below (encoded_view x) (encoded_view y)

code_order : IsStrictWeakOrder below_code
code_order = record {
  one_way = λ x y. below_order.one_way (encoded_view x) (encoded_view y);
  chain = λ x y z. below_order.chain (encoded_view x) (encoded_view y) (encoded_view z);
}

pub returns : goal.returns
returns c =
    let h = c.in_ok-sort_by.ensures in
    let sorted = h.sorted below_code code_order (answers_always _ (λ a r. is_lt r ≡ below_code a.0.now a.1.0.now) _ (λ f a r after k. search rules)) in
    let stable = h.stable below_code code_order (answers_always _ (λ a r. is_lt r ≡ below_code a.0.now a.1.0.now) _ (λ f a r after k. search rules)) in
    let s = sort_is below_code code_order c.args.elements.items c.sort_by.new.self.items sorted stable in
    let v = ap (map encoded_view) s ∙ sort_map encoded_view below c.args.elements.items in
    let P : List EncodedValue → Type 0 = λ es. IfOk c.values_of.result (λ w. map value_view w.items ≡ map encoded_value es) in
    subst P (v ∙ arranged_is (map encoded_view c.args.elements.items)) c.values_of.ensures
