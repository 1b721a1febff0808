use Rattle.std.proofs.Common.{◌≡◌, ◌∙◌, false, sym, ap, subst, refl}
use Rattle.guard_tables.specs.declared.node.Hot.{Hot}
use Rattle.guard_tables.specs.declared.node.Kind.{Kind}
use Rattle.guard_tables.specs.TableNodes.{Spot, spot_of, IsNode}
use Rattle.guard_tables.specs.inside.Bare.{bare_hot, told_hot, kind_of_group}
use Rattle.guard_tables.proofs.Comings.{group_comes, group_stands, tagged_cold, told, told_spot}
use Rattle.guard_tables.proofs.new_nodes.group_node.Goals as goal

pub returns-clause-node : goal.returns-clause-node
returns-clause-node c = λ spots k before few order.
    let cold = tagged_cold c.bare-node.result.cold c.args.tag in
    let hot = bare_hot (kind_of_group c.args.group) c.identifiers_of.result false c.args.first c.args.count in
    let made : c.bare-node.result.hot ≡ hot = c.bare-node.ensures.hot ∙ ap (λ (kind : Kind). bare_hot kind c.identifiers_of.result false c.args.first c.args.count) c.kind.ensures in
    subst (λ (h : Hot). IsNode (told_hot h c.args.ascending) cold spots k) (sym made)
    (told hot cold c.args.ascending spots k order
    (group_comes c.args.group c.args.tag c.identifiers_of.result c.identifiers_of.ensures.own c.identifiers_of.ensures.other c.args.first c.args.count
    cold c.bare-node.ensures.cold.default c.bare-node.ensures.cold.present c.bare-node.ensures.cold.conditions refl spots k before few).node)

pub returns-clause-plan : goal.returns-clause-plan
returns-clause-plan c = λ spots.
    let cold = tagged_cold c.bare-node.result.cold c.args.tag in
    let hot = bare_hot (kind_of_group c.args.group) c.identifiers_of.result false c.args.first c.args.count in
    let made : c.bare-node.result.hot ≡ hot = c.bare-node.ensures.hot ∙ ap (λ (kind : Kind). bare_hot kind c.identifiers_of.result false c.args.first c.args.count) c.kind.ensures in
    ap (λ (s : Spot). s.plan) (told_spot c.bare-node.result.hot cold c.args.ascending spots)
    ∙ ap (λ (h : Hot). (spot_of h cold spots).plan) made
    ∙ group_stands c.args.group c.args.tag c.identifiers_of.result c.args.first c.args.count cold refl spots
