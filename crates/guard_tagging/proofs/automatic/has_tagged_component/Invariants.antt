use Rattle.std.proofs.Common.{◌≡◌, drop, map}
use Rattle.guard_syntax.specs.Trees.{components_of}
use Rattle.guard_syntax.specs.TypeViews as written
use Rattle.guard_tagging.specs.Types.{has_tagged_component}
use Rattle.guard_tagging.proofs.automatic.has_tagged_component.Given as goal

abbrev pub invariant-loop-comp : goal.invariant-loop-comp
invariant-loop-comp l =
    has_tagged_component (components_of (map written.component_view (drop l.comp-index l.comps)))
    ≡ has_tagged_component (components_of (map written.component_view l.comps))
