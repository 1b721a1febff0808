use Rattle.std.proofs.Common.{ℤ, List, map, sym, ap, ◌∙◌}
use Rattle.std.proofs.lemmas.Int.{to_z-of_z}
use Rattle.std.specs.Arc.{arc_value}
use mir.Syntax.{w128}
use Rattle.guard_model.specs.AbstractType.{NamedNumber}
use Rattle.guard_model.specs.NamedLists.{is_item}
use Rattle.guard_tables.specs.NodeViews.{unnamed}
use Rattle.guard_tables.specs.inside.Items.{numbers_in}
use Rattle.guard_tables.proofs.ItemTests.{nameless_item}
use Rattle.guard_tables.proofs.items.Items.has.Goals as goal

pub returns-in-Some : goal.returns-in-Some
returns-in-Some c =
    let number = c.args.number in
    let names = arc_value c.in-Some.names in
    c.has_number.ensures
    ∙ ap (λ (n : ℤ). is_item n c.deref.result.now) (to_z-of_z w128 number c.ranges.number)
    ∙ ap (λ (ns : List NamedNumber). is_item number ns) c.deref.ensures
    ∙ nameless_item number names
    ∙ ap (λ (zs : List ℤ). is_item number (map unnamed zs)) (sym (ap numbers_in c.in-Some.is) ∙ c.self.view_is)
