-- What the code's list of parts says.
use Rattle.std.specs.Prelude.{map}
use Rattle.guard_model.specs.TypeView.{component_view}
use Rattle.guard_tagging.specs.declared.made.Parts.{Parts}
use Rattle.guard_tagging.specs.inside.ReadParts.{PartList}

abbrev pub parts_view : Parts → PartList
parts_view p = record {
  sites = p.sites.items;
  comps = map component_view p.comps.items;
  deepest = p.deepest;
  nodes = p.nodes;
  refused = p.refused;
}
