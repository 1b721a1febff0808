use Rattle.guard_model.proofs.ValueViews.{value_view_items}
use Rattle.guard_report.proofs.Items.{item_looked_up}
use Rattle.guard_report.proofs.parts.element_at.Goals as goal

pub returns-in-Items : goal.returns-in-Items
returns-in-Items c =
    let e = item_looked_up c.get.result c.deref.result.now c.args.place c.get.ensures.lookup.3 in
    let e2 = rw c.deref.ensures.value at e in
    rw (c.in-Items.is, value_view_items c.in-Items.items) e2
