use Rattle.std.proofs.Common.{◌≡◌, ◌++◌, map, drop}
use Rattle.guard_syntax.specs.Trees.{components_of, alternatives_of}
use Rattle.guard_syntax.specs.TypeViews.{component_view, alternative_view}
use Rattle.guard_names.specs.Mentions as mentions
use Rattle.guard_names.specs.inside.Views.{mention_view}
use Rattle.guard_names.proofs.mentions.+types.Given as goal

abbrev pub invariant-add_components-loop-comp : goal.invariant-add_components-loop-comp
invariant-add_components-loop-comp l =
    map mention_view l.into.items ++ mentions.in_components (components_of (map component_view (drop l.comp-index l.comps)))
    ≡ map mention_view l.fn.into.items ++ mentions.in_components (components_of (map component_view l.comps))

abbrev pub invariant-add_alternatives-loop-alternative : goal.invariant-add_alternatives-loop-alternative
invariant-add_alternatives-loop-alternative l =
    map mention_view l.into.items ++ mentions.in_alternatives (alternatives_of (map alternative_view (drop l.alternative-index l.alternatives)))
    ≡ map mention_view l.fn.into.items ++ mentions.in_alternatives (alternatives_of (map alternative_view l.alternatives))
