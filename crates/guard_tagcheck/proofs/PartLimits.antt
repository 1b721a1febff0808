-- What the limits of a type say of its parts.
use Rattle.std.proofs.Common.{◌≡◌, ℕ, ◌+◌, ◌<◌, ◌≤◌, List, ◌∷◌, [], length, get_or, map, ap, ◌∙◌, arith}
use Rattle.std.specs.Prelude.{IsTrue, nat_le, max, false, ◌||◌}
use Rattle.std.specs.Global.{Vec}
use Rattle.std.proofs.Math.Nat.{le-max_left, le-max_right}
use Rattle.std.proofs.lemmas.Bool.{and_parts, leb-true}
use Rattle.guard_model.specs.declared.tag.Tag.{Tag}
use Rattle.guard_model.specs.AbstractType as type
use Rattle.guard_model.specs.AbstractType.{AbstractKind}
use Rattle.guard_model.specs.TypeView.{type_view, kind_view, component_view, components_of}
use Rattle.guard_model.specs.declared.ty.Ty.{Ty}
use Rattle.guard_model.specs.declared.ty.Kind.TheViews.{out-Ty, out-Comp}
use Rattle.guard_model.specs.declared.ty.Comp.{Comp}
use Rattle.guard_model.specs.declared.ty.Kind.{Sequence, Set, Choice}
use Rattle.guard_model.specs.Counts.{component_count}
use Rattle.guard_model.specs.Limits.{most_components, deepest_nesting}
use Rattle.guard_tagcheck.specs.Limits.{has_tag, is_tagged, is_formed, has_few_components, keeps_limits, parts_keep_limits, components_keep_limits, nesting, nesting_inside, deepest}
use Rattle.guard_model.proofs.TypeViews.{type_view_is, kind_view_sequence, kind_view_set, kind_view_choice}
use Rattle.guard_model.proofs.Components.{left, left_is, component_count_view}

pub left_limits : (comps : List Comp) (i : ℕ) (comp : Comp) → i < length comps → comp ≡ get_or comps i comp → IsTrue (components_keep_limits (left comps i)) → deepest (left comps i) < deepest_nesting
    → IsTrue (keeps_limits (type_view (out-Comp comp).ty)) × (nesting (type_view (out-Comp comp).ty) < deepest_nesting) × IsTrue (components_keep_limits (left comps (i + 1))) × (deepest (left comps (i + 1)) < deepest_nesting)
left_limits comps i comp lt is limits depth =
    let e = left_is comps i comp lt is in
    let l = and_parts (keeps_limits (type_view (out-Comp comp).ty)) (components_keep_limits (left comps (i + 1))) (rw e at limits) in
    let d : max (nesting (type_view (out-Comp comp).ty)) (deepest (left comps (i + 1))) < deepest_nesting = rw e at depth in
    (l.0, omega (arith, d, le-max_left (nesting (type_view (out-Comp comp).ty)) (deepest (left comps (i + 1)))), l.1, omega (arith, d, le-max_right (nesting (type_view (out-Comp comp).ty)) (deepest (left comps (i + 1)))))

-- a tag takes a level
pub tag_there : (tags : List Tag) → IsTrue (has_tag tags || false) → 1 ≤ length tags
tag_there [] tagged = absurd cc
tag_there (t ∷ ts) tagged = omega arith

-- ---- what the limits of a type say of the parts of its kind

pub type_limits : (ty : Ty) (kind : AbstractKind) → kind_view (out-Ty ty).kind ≡ kind → IsTrue (keeps_limits (type_view ty)) → nesting (type_view ty) ≤ deepest_nesting
    → IsTrue (is_tagged (out-Ty ty).tags.items kind) × IsTrue (has_few_components (out-Ty ty).tags.items kind) × IsTrue (parts_keep_limits kind) × (length (out-Ty ty).tags.items + nesting_inside kind ≤ deepest_nesting)
type_limits ty kind is limits depth =
    let e = type_view_is ty in
    let tags = (out-Ty ty).tags.items in
    let l = and_parts (is_formed tags kind) (parts_keep_limits kind) (rw is at (rw e at limits)) in
    let f = and_parts (is_tagged tags kind) (has_few_components tags kind) l.0 in
    (f.0, f.1, l.1, rw is at (rw e at depth))

few : (comps : List Comp) → IsTrue (nat_le (component_count (components_of (map component_view comps))) most_components) → length comps ≤ most_components
few comps e = omega (arith, leb-true (component_count (components_of (map component_view comps))) most_components e, component_count_view comps)

abbrev pub Within : List Comp → Type 0
Within comps =
    IsTrue (components_keep_limits (components_of (map component_view comps)))
    × (length comps ≤ most_components)
    × (deepest (components_of (map component_view comps)) < deepest_nesting)

pub sequence_within : (ty : Ty) (comps : Vec Comp) → (out-Ty ty).kind ≡ Sequence comps → IsTrue (keeps_limits (type_view ty)) → nesting (type_view ty) ≤ deepest_nesting → Within comps.items
sequence_within ty comps is limits depth =
    let l = type_limits ty (type.sequence (components_of (map component_view comps.items))) (ap kind_view is ∙ kind_view_sequence comps) limits depth in
    (l.2, few comps.items l.1, omega (arith, l.3, tag_there (out-Ty ty).tags.items l.0))

pub set_within : (ty : Ty) (comps : Vec Comp) → (out-Ty ty).kind ≡ Set comps → IsTrue (keeps_limits (type_view ty)) → nesting (type_view ty) ≤ deepest_nesting → Within comps.items
set_within ty comps is limits depth =
    let l = type_limits ty (type.set (components_of (map component_view comps.items))) (ap kind_view is ∙ kind_view_set comps) limits depth in
    (l.2, few comps.items l.1, omega (arith, l.3, tag_there (out-Ty ty).tags.items l.0))

pub choice_within : (ty : Ty) (comps : Vec Comp) → (out-Ty ty).kind ≡ Choice comps → IsTrue (keeps_limits (type_view ty)) → nesting (type_view ty) ≤ deepest_nesting → Within comps.items
choice_within ty comps is limits depth =
    let l = type_limits ty (type.choice (components_of (map component_view comps.items))) (ap kind_view is ∙ kind_view_choice comps) limits depth in
    (l.2, few comps.items l.1, omega (arith, l.3))
