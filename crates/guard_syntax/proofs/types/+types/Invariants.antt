use Rattle.std.proofs.Common.{◌+◌, ◌*◌}
use Rattle.guard_syntax.specs.inside.Cursors.{ahead}
use Rattle.guard_syntax.specs.inside.ReadValues.{read_value}
use Rattle.guard_syntax.specs.inside.ReadTypes.{read_component, read_alternative, read_type}
use Rattle.guard_syntax.specs.TypeViews.{component_view, alternative_view}
use Rattle.guard_syntax.proofs.Loops.{PartedSoFar}
use Rattle.guard_syntax.proofs.types.+types.Given as goal

abbrev pub decreases-type_tree : goal.decreases-type_tree
decreases-type_tree l = l.levels * 12

abbrev pub decreases-alternative : goal.decreases-alternative
decreases-alternative l = l.levels * 12 + 1

abbrev pub decreases-alternatives : goal.decreases-alternatives
decreases-alternatives l = l.levels * 12 + 2

abbrev pub decreases-choice : goal.decreases-choice
decreases-choice l = l.levels * 12 + 3

abbrev pub decreases-component_form : goal.decreases-component_form
decreases-component_form l = l.levels * 12 + 4

abbrev pub decreases-component : goal.decreases-component
decreases-component l = l.levels * 12 + 5

abbrev pub decreases-some_components : goal.decreases-some_components
decreases-some_components l = l.levels * 12 + 6

abbrev pub decreases-components : goal.decreases-components
decreases-components l = l.levels * 12 + 7

abbrev pub decreases-structure : goal.decreases-structure
decreases-structure l = l.levels * 12 + 8

abbrev pub decreases-of_type : goal.decreases-of_type
decreases-of_type l = l.levels * 12 + 8

abbrev pub decreases-collection : goal.decreases-collection
decreases-collection l = l.levels * 12 + 9

abbrev pub decreases-base : goal.decreases-base
decreases-base l = l.levels * 12 + 10

abbrev pub decreases-inner_type : goal.decreases-inner_type
decreases-inner_type l = l.levels * 12 + 11

abbrev pub invariant-some_components-loop : goal.invariant-some_components-loop
invariant-some_components-loop l = PartedSoFar component_view (read_component (read_value l.levels) (read_type l.levels)) (ahead l.at) l.all.items l.counter (ahead l.rest)

abbrev pub invariant-alternatives-loop : goal.invariant-alternatives-loop
invariant-alternatives-loop l = PartedSoFar alternative_view (read_alternative (read_type l.levels)) (ahead l.at) l.all.items l.counter (ahead l.rest)
