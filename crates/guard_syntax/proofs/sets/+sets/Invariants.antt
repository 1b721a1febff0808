use Rattle.std.proofs.Common.{◌+◌, ◌*◌}
use Rattle.guard_syntax.specs.inside.Cursors.{ahead}
use Rattle.guard_syntax.specs.inside.ReadValues.{read_value}
use Rattle.guard_syntax.specs.inside.ReadSets.{begins_union_mark, begins_intersection_mark, read_joined_intersection, read_joined_difference, read_part, read_set}
use Rattle.guard_syntax.specs.SetViews.{joined_intersection_view, joined_difference_view, part_view}
use Rattle.guard_syntax.proofs.Loops.{PartedSoFar, EachSoFar}
use Rattle.guard_syntax.proofs.sets.+sets.Given as goal

abbrev pub decreases-set : goal.decreases-set
decreases-set l = l.levels * 20

abbrev pub decreases-constraint : goal.decreases-constraint
decreases-constraint l = l.levels * 20 + 1

abbrev pub decreases-parentheses : goal.decreases-parentheses
decreases-parentheses l = l.levels * 20 + 2

abbrev pub decreases-perhaps_constraint : goal.decreases-perhaps_constraint
decreases-perhaps_constraint l = l.levels * 20 + 2

abbrev pub decreases-part : goal.decreases-part
decreases-part l = l.levels * 20 + 3

abbrev pub decreases-parts : goal.decreases-parts
decreases-parts l = l.levels * 20 + 4

abbrev pub decreases-with_components : goal.decreases-with_components
decreases-with_components l = l.levels * 20 + 5

abbrev pub decreases-inner_type_constraints : goal.decreases-inner_type_constraints
decreases-inner_type_constraints l = l.levels * 20 + 6

abbrev pub decreases-element_form : goal.decreases-element_form
decreases-element_form l = l.levels * 20 + 7

abbrev pub decreases-element : goal.decreases-element
decreases-element l = l.levels * 20 + 8

abbrev pub decreases-except : goal.decreases-except
decreases-except l = l.levels * 20 + 9

abbrev pub decreases-difference : goal.decreases-difference
decreases-difference l = l.levels * 20 + 10

abbrev pub decreases-joined_difference : goal.decreases-joined_difference
decreases-joined_difference l = l.levels * 20 + 11

abbrev pub decreases-joined_differences : goal.decreases-joined_differences
decreases-joined_differences l = l.levels * 20 + 12

abbrev pub decreases-intersection : goal.decreases-intersection
decreases-intersection l = l.levels * 20 + 13

abbrev pub decreases-joined_intersection : goal.decreases-joined_intersection
decreases-joined_intersection l = l.levels * 20 + 14

abbrev pub decreases-joined_intersections : goal.decreases-joined_intersections
decreases-joined_intersections l = l.levels * 20 + 15

abbrev pub decreases-set_tree : goal.decreases-set_tree
decreases-set_tree l = l.levels * 20 + 18

abbrev pub decreases-inner_set : goal.decreases-inner_set
decreases-inner_set l = l.levels * 20 + 19

abbrev pub invariant-joined_intersections-loop : goal.invariant-joined_intersections-loop
invariant-joined_intersections-loop l = EachSoFar joined_intersection_view begins_union_mark (read_joined_intersection (read_value l.levels) (read_set l.levels)) (ahead l.at) l.all.items l.counter (ahead l.rest)

abbrev pub invariant-joined_differences-loop : goal.invariant-joined_differences-loop
invariant-joined_differences-loop l = EachSoFar joined_difference_view begins_intersection_mark (read_joined_difference (read_value l.levels) (read_set l.levels)) (ahead l.at) l.all.items l.counter (ahead l.rest)

abbrev pub invariant-parts-loop : goal.invariant-parts-loop
invariant-parts-loop l = PartedSoFar part_view (read_part (read_set l.levels)) (ahead l.at) l.all.items l.counter (ahead l.rest)
