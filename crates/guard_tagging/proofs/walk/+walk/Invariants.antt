use Rattle.std.proofs.Common.{◌≡◌, drop, map}
use Rattle.guard_syntax.specs.Trees.{components_of, alternatives_of}
use Rattle.guard_syntax.specs.TypeViews as written
use Rattle.guard_tagging.specs.inside.PartViews.{parts_view}
use Rattle.guard_tagging.specs.inside.ReadTypes.{read_components, read_alternatives, read_list, read_choice}
use Rattle.guard_tagging.specs.ScopeView.{scope_view}
use Rattle.guard_tagging.proofs.walk.+walk.Given as goal

abbrev pub invariant-components-loop-tree : goal.invariant-components-loop-tree
invariant-components-loop-tree l =
    read_components (scope_view l.scope) l.collection l.automatic (parts_view l.parts.value)
    (components_of (map written.component_view (drop l.tree-index l.trees)))
    ≡ read_list (scope_view l.scope) l.collection l.before (components_of (map written.component_view l.trees))

abbrev pub invariant-alternatives-loop-tree : goal.invariant-alternatives-loop-tree
invariant-alternatives-loop-tree l =
    read_alternatives (scope_view l.scope) l.automatic (parts_view l.parts.value)
    (alternatives_of (map written.alternative_view (drop l.tree-index l.trees)))
    ≡ read_choice (scope_view l.scope) l.before (alternatives_of (map written.alternative_view l.trees))
