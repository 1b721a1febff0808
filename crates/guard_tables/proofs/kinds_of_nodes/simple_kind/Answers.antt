use Rattle.std.proofs.Common.{◌≡◌, List, [], ◌∷◌, map, refl, ap, ◌∙◌}
use Rattle.std.specs.Arc.{arc_value}
use Rattle.guard_model.specs.AbstractType.{AbstractKind, NamedNumber, enumerated}
use Rattle.guard_model.specs.TypeView.{kind_view}
use Rattle.guard_tables.specs.Lay.{nameless}
use Rattle.guard_tables.specs.NodeViews.{unnamed}
use Rattle.guard_tables.specs.inside.Assembled.{item_numbers}
use Rattle.guard_tables.proofs.ItemTests.{enumerated_view}
use Rattle.guard_tables.proofs.kinds_of_nodes.simple_kind.Goals as goal

nameless_items : (items : List NamedNumber) → map unnamed (map (λ n. n.number) items) ≡ map (λ (n : NamedNumber). record { name = []; number = n.number }) items
nameless_items [] = refl
nameless_items (i ∷ items) = ap (λ (rest : List NamedNumber). unnamed i.number ∷ rest) (nameless_items items)

same_items : (kind : AbstractKind) (items : List NamedNumber) → kind ≡ enumerated items → enumerated (map unnamed (item_numbers kind)) ≡ nameless kind
same_items kind items e = rw e (ap enumerated (nameless_items items))

pub returns-in-Enumerated : goal.returns-in-Enumerated
returns-in-Enumerated c = same_items (kind_view c.args.kind.now) (arc_value c.in-Enumerated.field-0) (ap kind_view c.in-Enumerated.is ∙ enumerated_view c.in-Enumerated.field-0)
