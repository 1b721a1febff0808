use Rattle.std.proofs.Common.{rules}
use Rattle.guard_model.proofs.ValueViews.{value_view_items}
use Rattle.guard_model.proofs.Components.{item_count_view}
use Rattle.guard_eval.proofs.elements.size_of.Goals as goal

pub returns-in-Items : goal.returns-in-Items
returns-in-Items c = search (rules, value_view_items, item_count_view)
