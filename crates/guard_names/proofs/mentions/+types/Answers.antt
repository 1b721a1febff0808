use Rattle.std.proofs.Common.{◌+◌, map, drop, refl}
use Rattle.guard_syntax.specs.Trees.{components_of, alternatives_of}
use Rattle.guard_syntax.specs.TypeViews.{component_view, alternative_view}
use Rattle.guard_syntax.specs.declared.tree.BaseTree.TheFolds.{fold_out-AlternativeTree}
use Rattle.guard_names.specs.Mentions as mentions
use Rattle.guard_names.proofs.Mentioned.Fronts.{in_components_first}
use Rattle.guard_names.proofs.Mentioned.Gathering.{one_more, all_gathered}
use Rattle.guard_names.proofs.mentions.+types.Goals as goal

pub add_alternatives-loop-alternative-init : goal.add_alternatives-loop-alternative-init
add_alternatives-loop-alternative-init t c = refl

pub add_alternatives-loop-alternative-preserved : goal.add_alternatives-loop-alternative-preserved
add_alternatives-loop-alternative-preserved t c =
    one_more (λ xs. mentions.in_alternatives (alternatives_of (map alternative_view xs))) c.args.alternatives.now c.loop-alternative.alternative-index _
    c.alternative-item.result _ _ _ c.loop-alternative-test.true c.alternative-item.is c.in_ok-add_type.ensures c.loop-alternative.invariant (rw (fold_out-AlternativeTree, c.deref.ensures) refl)

pub add_alternatives-returns : goal.add_alternatives-returns
add_alternatives-returns t c =
    all_gathered (λ xs. mentions.in_alternatives (alternatives_of (map alternative_view xs))) c.args.alternatives.now c.loop-alternative.alternative-index _ _ c.loop-alternative-test.false refl c.loop-alternative.invariant

pub add_components-loop-comp-init : goal.add_components-loop-comp-init
add_components-loop-comp-init t c = refl

pub add_components-loop-comp-preserved : goal.add_components-loop-comp-preserved
add_components-loop-comp-preserved t c =
    one_more (λ xs. mentions.in_components (components_of (map component_view xs))) c.args.comps.now c.loop-comp.comp-index _
    c.comp-item.result _ _ _ c.loop-comp-test.true c.comp-item.is c.in_ok-add_component.ensures c.loop-comp.invariant
    (in_components_first (component_view c.comp-item.result) (map component_view (drop (c.loop-comp.comp-index + 1) c.args.comps.now)))

pub add_components-returns : goal.add_components-returns
add_components-returns t c =
    all_gathered (λ xs. mentions.in_components (components_of (map component_view xs))) c.args.comps.now c.loop-comp.comp-index _ _ c.loop-comp-test.false refl c.loop-comp.invariant
