use Rattle.std.specs.Arc.{arc_slice_items}
use Rattle.guard_model.specs.ValueView.{fields_view}
use Rattle.guard_model.proofs.ValueViews.{value_view_fields}
use Rattle.guard_schema.specs.Counting.{nodes_of_fields}
use Rattle.guard_schema.proofs.Filled.NodeCounts.{node_then}
use Rattle.guard_schema.proofs.counting.+values.Goals as goal

pub value_nodes-returns-in-Fields : goal.value_nodes-returns-in-Fields
value_nodes-returns-in-Fields t c =
    let inside = rw c.deref.ensures.value at c.nodes_of_fields.ensures in
    rw (c.in-Fields.is, value_view_fields c.in-Fields.fields)
    (node_then c.args.so_far (nodes_of_fields (fields_view (arc_slice_items c.in-Fields.fields))) c.one_more-so_far.result
    c.nodes_of_fields.result c.one_more-so_far.ensures inside)
