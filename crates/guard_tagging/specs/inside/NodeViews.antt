-- What the code's values about one type say.
use Rattle.std.specs.Prelude.{map}
use Rattle.guard_model.specs.TypeView.{type_view}
use Rattle.guard_syntax.specs.TypeViews.{tag_view}
use Rattle.guard_tagging.specs.declared.made.Node as code_node
use Rattle.guard_tagging.specs.declared.made.Whole as code_whole
use Rattle.guard_tagging.specs.declared.made.Made as code_made
use Rattle.guard_tagging.specs.inside.ReadNodes.{Node, Whole, Made}

abbrev pub node_view : code_node.Node → Node
node_view n = record {
  site = n.site;
  tags = map tag_view n.tags.now;
  tag_default = n.tag_default;
  counts = n.counts;
  automatic = n.automatic;
}

abbrev pub whole_view : code_whole.Whole → Whole
whole_view w = record { tags = w.tags.items; nesting = w.nesting; nodes = w.nodes }

abbrev pub made_view : code_made.Made → Made
made_view m = record { ty = type_view m.ty; nesting = m.nesting; nodes = m.nodes }
