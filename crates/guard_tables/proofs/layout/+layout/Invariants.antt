use Rattle.std.proofs.Common.{◌≡◌}
use Rattle.guard_model.proofs.Components.{left}
use Rattle.guard_tables.specs.inside.DemandViews.{terms_view}
use Rattle.guard_tables.specs.inside.Assembled.{Grows, MayCome, PartsMayBeLaid, parts_in, parts_of_group}
use Rattle.guard_tables.proofs.layout.+layout.Given as goal

-- the nodes so far, with the components that are left, are the parts of all; and those that are left may be laid
abbrev pub invariant-lay_group-loop-place : goal.invariant-lay_group-loop-place
invariant-lay_group-loop-place l = record {
  grows : Grows l.initial.builder l.builder;
  nodes : MayCome l.builder l.nodes.items;
  stand : parts_in l.builder l.nodes.items (parts_of_group l.group l.place (left l.comps l.place) (terms_view l.terms)) ≡ parts_of_group l.group 0 (left l.comps 0) (terms_view l.terms);
  rest : PartsMayBeLaid l.place (left l.comps l.place) (terms_view l.terms);
}
