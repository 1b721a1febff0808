use Rattle.std.proofs.Common.{ap, ◌∙◌}
use Rattle.std.specs.Option.{is_none}
use Rattle.guard_model.specs.TypeView.{type_view}
use Rattle.guard_model.specs.ValueView.{value_view}
use Rattle.guard_eval.proofs.Calls.{not_some, none_seen}
use Rattle.guard_eval.proofs.ManyValues.{items_walked}
use Rattle.guard_eval.proofs.together.elements_keep.Goals as goal

pub returns : goal.returns
returns c =
    not_some c.failure_of_items.result c.is_none.result c.is_none.ensures ∙ none_seen c.failure_of_items.new.path.items c.failure_of_items.result
    ∙ ap is_none c.failure_of_items.ensures ∙ items_walked (type_view c.args.ty.now) c.items_in.result.now (value_view c.args.value.now) c.items_in.ensures
