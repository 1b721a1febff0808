-- One level of the trees that the code keeps.
use Rattle.std.proofs.Common.{◌≡◌, ℕ, ◌+◌, ◌<◌, ◌≤◌, List, length, drop, get_or, map, ap, sym, ◌∙◌}
use Rattle.std.proofs.lemmas.List.{at_drop_more, at_drop_all}
use Rattle.guard_syntax.specs.Trees as written
use Rattle.guard_syntax.specs.Trees.{WrittenElementForm, WrittenPart, WrittenConstraint, WrittenDifference, WrittenElement, WrittenIntersection, WrittenJoinedDifference, WrittenJoinedIntersection, WrittenSet, united_of}
use Rattle.guard_syntax.specs.SetViews.{element_form_step, part_step, constraint_step, difference_step, element_step, intersection_step, joined_difference_step, joined_intersection_step, set_step, intersection_view, difference_view, joined_intersection_view, joined_difference_view}
use Rattle.guard_syntax.specs.declared.tree.ElementForm.TheFolds.{fold_out-JoinedIntersection, fold_out-JoinedDifference}
use Rattle.guard_syntax.specs.declared.tree.ElementForm.TheViews.{out-JoinedIntersection, out-JoinedDifference}
use Rattle.guard_syntax.specs.declared.tree.JoinedIntersection.{JoinedIntersection}
use Rattle.guard_syntax.specs.declared.tree.JoinedDifference.{JoinedDifference}

pub joined_intersection_is : (j : JoinedIntersection) → (joined_intersection_view j).joined ≡ intersection_view (out-JoinedIntersection j).part
joined_intersection_is j =
    ap (λ (w : WrittenJoinedIntersection). w.joined) (fold_out-JoinedIntersection WrittenElementForm WrittenIntersection WrittenSet WrittenPart WrittenConstraint WrittenDifference WrittenElement WrittenJoinedDifference WrittenJoinedIntersection
    element_form_step intersection_step set_step part_step constraint_step difference_step element_step joined_difference_step joined_intersection_step j)

pub joined_difference_is : (j : JoinedDifference) → (joined_difference_view j).joined ≡ difference_view (out-JoinedDifference j).part
joined_difference_is j =
    ap (λ (w : WrittenJoinedDifference). w.joined) (fold_out-JoinedDifference WrittenElementForm WrittenIntersection WrittenSet WrittenPart WrittenConstraint WrittenDifference WrittenElement WrittenJoinedDifference WrittenJoinedIntersection
    element_form_step intersection_step set_step part_step constraint_step difference_step element_step joined_difference_step joined_intersection_step j)

-- ---- those from a place on

pub next_united : (js : List JoinedIntersection) (i : ℕ) (d j : JoinedIntersection) → i < length js → j ≡ get_or js i d
    → united_of (map joined_intersection_view (drop i js)) ≡ written.united (joined_intersection_view j).mark (joined_intersection_view j).joined (united_of (map joined_intersection_view (drop (i + 1) js)))
next_united js i d j lt is =
    at_drop_more (λ xs. united_of (map joined_intersection_view xs)) js i d lt
    ∙ ap (λ (x : JoinedIntersection). written.united (joined_intersection_view x).mark (joined_intersection_view x).joined (united_of (map joined_intersection_view (drop (i + 1) js)))) (sym is)

pub none_united_left : (js : List JoinedIntersection) (i : ℕ) → length js ≤ i → united_of (map joined_intersection_view (drop i js)) ≡ written.none_united
none_united_left js i le = at_drop_all (λ xs. united_of (map joined_intersection_view xs)) js i le
