use Rattle.std.proofs.Common.{ap, sym, ◌∙◌, List, map}
use Rattle.guard_model.specs.ValueView.{value_view}
use Rattle.guard_model.specs.declared.value.Value.{Value}
use Rattle.guard_eval.specs.inside.Together.{elements_in}
use Rattle.guard_eval.proofs.ManyValues.{item_elements}
use Rattle.guard_eval.proofs.columns.items_in.Goals as goal

pub returns-in-Items : goal.returns-in-Items
returns-in-Items c =
    ap (λ (xs : List Value). map value_view xs) c.deref.ensures.value ∙ item_elements c.in-Items.items ∙ sym (ap (λ (v : Value). elements_in (value_view v)) c.in-Items.is)
