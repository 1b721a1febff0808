-- Which trees of the definitions the code's trees are: sets of values and constraints.
use Rattle.std.specs.Prelude.{List, [], Option, Some, None}
use Rattle.std.specs.Option.{option_map}
use Rattle.std.specs.Global.{Box}
use Rattle.guard_model.specs.declared.site.Site.{Site}
use Rattle.guard_syntax.specs.Trees.{WrittenEndForm, end_integer, end_reference, end_characters, WrittenEnd, WrittenRange, WrittenSet, set_node, all_except, union, WrittenJoinedIntersection, united_of, WrittenIntersection, intersection, WrittenJoinedDifference, met_of, WrittenDifference, element_alone, element_except, difference_of, WrittenElement, element_node, WrittenElementForm, parentheses, value, contained, range, size, from, with_component, with_components, WrittenConstraint, constraint, WrittenPart, parts_of}
use Rattle.guard_syntax.specs.Views.{number_view, value_view}
use Rattle.guard_syntax.specs.declared.tree.EndForm.{EndForm}
use Rattle.guard_syntax.specs.declared.tree.EndForm.TheVariants as end_form
use Rattle.guard_syntax.specs.declared.tree.EndTree.{EndTree}
use Rattle.guard_syntax.specs.declared.tree.RangeTree.{RangeTree}
use Rattle.guard_syntax.specs.declared.tree.ElementForm.TheFolds.{fold-ElementForm, fold-ComponentConsTree, fold-ConsTree, fold-DifferenceTree, fold-ElementTree, fold-IntersectionTree, fold-JoinedDifference, fold-JoinedIntersection, fold-SetTree}
use Rattle.guard_syntax.specs.declared.tree.ElementForm.TheOpen.{ElementForm-F, ComponentConsTree-F, ConsTree-F, DifferenceTree-F, ElementTree-F, IntersectionTree-F, JoinedDifference-F, JoinedIntersection-F, SetTree-F}
use Rattle.guard_syntax.specs.declared.tree.ElementForm.{ElementForm}
use Rattle.guard_syntax.specs.declared.tree.ComponentConsTree.{ComponentConsTree}
use Rattle.guard_syntax.specs.declared.tree.ConsTree.{ConsTree}
use Rattle.guard_syntax.specs.declared.tree.DifferenceTree.{DifferenceTree}
use Rattle.guard_syntax.specs.declared.tree.ElementTree.{ElementTree}
use Rattle.guard_syntax.specs.declared.tree.IntersectionTree.{IntersectionTree}
use Rattle.guard_syntax.specs.declared.tree.JoinedDifference.{JoinedDifference}
use Rattle.guard_syntax.specs.declared.tree.JoinedIntersection.{JoinedIntersection}
use Rattle.guard_syntax.specs.declared.tree.SetTree.{SetTree}

abbrev pub end_form_view : EndForm → WrittenEndForm
end_form_view (end_form.Integer n) = end_integer (number_view n)
end_form_view (end_form.Reference name) = end_reference name.now
end_form_view (end_form.Characters spelling) = end_characters spelling.now

abbrev pub end_view : EndTree → WrittenEnd
end_view e = record { site = e.site; form = end_form_view e.form }

abbrev pub end_or_view : Option EndTree → Option WrittenEnd
end_or_view None = None
end_or_view (Some e) = Some (end_view e)

abbrev pub range_view : RangeTree → WrittenRange
range_view r =
    record { low = end_or_view r.low; above_low = r.above_low; below_high = r.below_high; high = end_or_view r.high }

-- where an element begins
abbrev pub site_of_element : WrittenElement → Site
site_of_element (element_node site form) = site

-- where a difference begins
abbrev pub site_of_difference : WrittenDifference → Site
site_of_difference (element_alone site e) = site
site_of_difference (element_except site e f) = site

-- where an intersection begins
abbrev pub site_of_intersection : WrittenIntersection → Site
site_of_intersection (intersection site d others) = site

-- where a set begins
abbrev pub site_of_set : WrittenSet → Site
site_of_set (set_node site form) = site

-- an intersection and a set begin where what is first in them does
abbrev pub intersection_of : WrittenDifference → List WrittenJoinedDifference → WrittenIntersection
intersection_of d others = intersection (site_of_difference d) d (met_of others)

abbrev pub set_of : WrittenIntersection → List WrittenJoinedIntersection → WrittenSet
set_of i others = set_node (site_of_intersection i) (union i (united_of others))

-- an element alone
abbrev pub difference_alone : WrittenElement → WrittenDifference
difference_alone e = element_alone (site_of_element e) e

abbrev pub intersection_alone : WrittenElement → WrittenIntersection
intersection_alone e = intersection_of (difference_alone e) []

abbrev pub set_alone : WrittenElement → WrittenSet
set_alone e = set_of (intersection_alone e) []

-- One level of each, with the sets inside already seen. A difference begins where its element does.
abbrev pub element_form_step : ElementForm-F WrittenElementForm WrittenIntersection WrittenSet WrittenPart
    WrittenConstraint WrittenDifference WrittenElement WrittenJoinedDifference WrittenJoinedIntersection →
    WrittenElementForm
element_form_step (ElementForm-F.Parentheses s) = parentheses s.value
element_form_step (ElementForm-F.Value v) = value (value_view v.value)
element_form_step (ElementForm-F.Contained includes name) = contained includes name.value.site name.value.name.now
element_form_step (ElementForm-F.Range r) = range (range_view r.value)
element_form_step (ElementForm-F.Size c) = size c.value
element_form_step (ElementForm-F.From c) = from c.value
element_form_step (ElementForm-F.WithComponent c) = with_component c.value
element_form_step (ElementForm-F.WithComponents partial ps) = with_components partial (parts_of ps.value.items)

abbrev pub intersection_step : IntersectionTree-F WrittenElementForm WrittenIntersection WrittenSet WrittenPart
    WrittenConstraint WrittenDifference WrittenElement WrittenJoinedDifference WrittenJoinedIntersection →
    WrittenIntersection
intersection_step (IntersectionTree-F.Single e) = intersection_alone e
intersection_step (IntersectionTree-F.Differences d others) = intersection_of d.value others.items

abbrev pub set_step : SetTree-F WrittenElementForm WrittenIntersection WrittenSet WrittenPart WrittenConstraint
    WrittenDifference WrittenElement WrittenJoinedDifference WrittenJoinedIntersection → WrittenSet
set_step (SetTree-F.AllExcept site e) = set_node site (all_except e.value)
set_step (SetTree-F.Alone e) = set_alone e
set_step (SetTree-F.Union i others) = set_of i.value others.items

abbrev pub part_step : ComponentConsTree-F WrittenElementForm WrittenIntersection WrittenSet WrittenPart
    WrittenConstraint WrittenDifference WrittenElement WrittenJoinedDifference WrittenJoinedIntersection → WrittenPart
part_step p = record { site = p.site; name = p.name.now; constraint = p.cons; presence = p.presence }

abbrev pub constraint_step : ConsTree-F WrittenElementForm WrittenIntersection WrittenSet WrittenPart WrittenConstraint
    WrittenDifference WrittenElement WrittenJoinedDifference WrittenJoinedIntersection → WrittenConstraint
constraint_step c = constraint c.site c.set.value

abbrev pub difference_step : DifferenceTree-F WrittenElementForm WrittenIntersection WrittenSet WrittenPart
    WrittenConstraint WrittenDifference WrittenElement WrittenJoinedDifference WrittenJoinedIntersection →
    WrittenDifference
difference_step d = difference_of (site_of_element d.element) d.element (option_map (λ e. e.value) d.except)

abbrev pub element_step : ElementTree-F WrittenElementForm WrittenIntersection WrittenSet WrittenPart WrittenConstraint
    WrittenDifference WrittenElement WrittenJoinedDifference WrittenJoinedIntersection → WrittenElement
element_step e = element_node e.site e.form

abbrev pub joined_difference_step : JoinedDifference-F WrittenElementForm WrittenIntersection WrittenSet WrittenPart
    WrittenConstraint WrittenDifference WrittenElement WrittenJoinedDifference WrittenJoinedIntersection →
    WrittenJoinedDifference
joined_difference_step j = record { mark = j.mark; joined = j.part }

abbrev pub joined_intersection_step : JoinedIntersection-F WrittenElementForm WrittenIntersection WrittenSet WrittenPart
    WrittenConstraint WrittenDifference WrittenElement WrittenJoinedDifference WrittenJoinedIntersection →
    WrittenJoinedIntersection
joined_intersection_step j = record { mark = j.mark; joined = j.part }

abbrev pub element_form_view : ElementForm → WrittenElementForm
element_form_view =
    fold-ElementForm WrittenElementForm WrittenIntersection WrittenSet WrittenPart WrittenConstraint WrittenDifference
    WrittenElement WrittenJoinedDifference WrittenJoinedIntersection element_form_step intersection_step set_step
    part_step constraint_step difference_step element_step joined_difference_step joined_intersection_step

abbrev pub intersection_view : IntersectionTree → WrittenIntersection
intersection_view =
    fold-IntersectionTree WrittenElementForm WrittenIntersection WrittenSet WrittenPart WrittenConstraint
    WrittenDifference WrittenElement WrittenJoinedDifference WrittenJoinedIntersection element_form_step
    intersection_step set_step part_step constraint_step difference_step element_step joined_difference_step
    joined_intersection_step

abbrev pub set_view : SetTree → WrittenSet
set_view =
    fold-SetTree WrittenElementForm WrittenIntersection WrittenSet WrittenPart WrittenConstraint WrittenDifference
    WrittenElement WrittenJoinedDifference WrittenJoinedIntersection element_form_step intersection_step set_step
    part_step constraint_step difference_step element_step joined_difference_step joined_intersection_step

abbrev pub part_view : ComponentConsTree → WrittenPart
part_view =
    fold-ComponentConsTree WrittenElementForm WrittenIntersection WrittenSet WrittenPart WrittenConstraint
    WrittenDifference WrittenElement WrittenJoinedDifference WrittenJoinedIntersection element_form_step
    intersection_step set_step part_step constraint_step difference_step element_step joined_difference_step
    joined_intersection_step

abbrev pub constraint_view : ConsTree → WrittenConstraint
constraint_view =
    fold-ConsTree WrittenElementForm WrittenIntersection WrittenSet WrittenPart WrittenConstraint WrittenDifference
    WrittenElement WrittenJoinedDifference WrittenJoinedIntersection element_form_step intersection_step set_step
    part_step constraint_step difference_step element_step joined_difference_step joined_intersection_step

abbrev pub difference_view : DifferenceTree → WrittenDifference
difference_view =
    fold-DifferenceTree WrittenElementForm WrittenIntersection WrittenSet WrittenPart WrittenConstraint
    WrittenDifference WrittenElement WrittenJoinedDifference WrittenJoinedIntersection element_form_step
    intersection_step set_step part_step constraint_step difference_step element_step joined_difference_step
    joined_intersection_step

abbrev pub element_view : ElementTree → WrittenElement
element_view =
    fold-ElementTree WrittenElementForm WrittenIntersection WrittenSet WrittenPart WrittenConstraint WrittenDifference
    WrittenElement WrittenJoinedDifference WrittenJoinedIntersection element_form_step intersection_step set_step
    part_step constraint_step difference_step element_step joined_difference_step joined_intersection_step

abbrev pub joined_difference_view : JoinedDifference → WrittenJoinedDifference
joined_difference_view =
    fold-JoinedDifference WrittenElementForm WrittenIntersection WrittenSet WrittenPart WrittenConstraint
    WrittenDifference WrittenElement WrittenJoinedDifference WrittenJoinedIntersection element_form_step
    intersection_step set_step part_step constraint_step difference_step element_step joined_difference_step
    joined_intersection_step

abbrev pub joined_intersection_view : JoinedIntersection → WrittenJoinedIntersection
joined_intersection_view =
    fold-JoinedIntersection WrittenElementForm WrittenIntersection WrittenSet WrittenPart WrittenConstraint
    WrittenDifference WrittenElement WrittenJoinedDifference WrittenJoinedIntersection element_form_step
    intersection_step set_step part_step constraint_step difference_step element_step joined_difference_step
    joined_intersection_step

-- what may be missing
abbrev pub perhaps_constraint_view : Option ConsTree → Option WrittenConstraint
perhaps_constraint_view None = None
perhaps_constraint_view (Some c) = Some (constraint_view c)

abbrev pub perhaps_element_view : Option (Box ElementTree) → Option WrittenElement
perhaps_element_view None = None
perhaps_element_view (Some e) = Some (element_view e.value)
