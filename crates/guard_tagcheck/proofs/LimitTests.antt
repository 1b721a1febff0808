-- The test of a type's limits, one step at a time.
use Rattle.std.proofs.Common.{◌≡◌, ℕ, ◌+◌, ◌<◌, ◌≤◌, Bool, true, false, leb, List, length, get_or, refl, sym, ap, ◌∙◌, arith}
use Rattle.std.specs.Prelude.{◌&&◌, nat_le, max}
use Rattle.std.proofs.Math.Nat.{le-max_left, le-max_right}
use Rattle.std.proofs.lemmas.Bool.{le-leb, lt-leb, leb-true, and_left, and_right, and_from, and_parts}
use Rattle.guard_model.specs.TypeView.{type_view}
use Rattle.guard_model.specs.declared.ty.Comp.{Comp}
use Rattle.guard_model.specs.declared.ty.Kind.TheViews.{out-Comp}
use Rattle.guard_model.specs.Counts.{component_count}
use Rattle.guard_model.proofs.Tests.{same_test, and_on}
use Rattle.guard_model.specs.Limits.{most_components}
use Rattle.guard_tagcheck.specs.Limits.{keeps_limits, components_keep_limits, nesting, deepest, type_within, all_within}
use Rattle.guard_model.proofs.Components.{left, left_is, none_left, component_count_view}

leb_max : (m n depth : ℕ) → nat_le (max m n) depth ≡ (nat_le m depth && nat_le n depth)
leb_max m n depth = same_test (leb (max m n) depth) (leb m depth && leb n depth)
    (λ e. let le = leb-true (max m n) depth e in and_from (leb m depth) (leb n depth) (le-leb m depth (omega (arith, le, le-max_left m n))) (le-leb n depth (omega (arith, le, le-max_right m n))))
    (λ e. let p = and_parts (leb m depth) (leb n depth) e in le-leb (max m n) depth (omega (arith, leb-true m depth p.0, leb-true n depth p.1)))

-- ---- a list of components

rearranged : (type parts level inside : Bool) → ((type && parts) && (level && inside)) ≡ ((type && level) && (parts && inside))
rearranged true true level inside = refl
rearranged true false true inside = refl
rearranged true false false inside = refl
rearranged false parts level inside = refl

step_within : (comps : List Comp) (i : ℕ) (comp : Comp) (depth : ℕ) → i < length comps → comp ≡ get_or comps i comp → all_within (left comps i) depth ≡ (type_within (type_view (out-Comp comp).ty) depth && all_within (left comps (i + 1)) depth)
step_within comps i comp depth lt is =
    let t = type_view (out-Comp comp).ty in
    let rest = left comps (i + 1) in
    rw (left_is comps i comp lt is) (ap (λ (b : Bool). (keeps_limits t && components_keep_limits rest) && b) (leb_max (nesting t) (deepest rest) depth)
    ∙ rearranged (keeps_limits t) (components_keep_limits rest) (nat_le (nesting t) depth) (nat_le (deepest rest) depth))

abbrev pub few_at : List Comp → ℕ → Bool
few_at comps i = nat_le (component_count (left comps i)) most_components

pub list_refused : (comps : List Comp) (i : ℕ) (comp : Comp) (depth : ℕ) (r : Bool) → i < length comps → comp ≡ get_or comps i comp → r ≡ type_within (type_view (out-Comp comp).ty) depth → r ≡ false
    → all_within (left comps i) depth ≡ all_within (left comps 0) depth → false ≡ (few_at comps 0 && all_within (left comps 0) depth)
list_refused comps i comp depth r lt is tested no_more so_far =
    let t = type_view (out-Comp comp).ty in
    sym (and_right (few_at comps 0) (all_within (left comps 0) depth) (sym so_far ∙ step_within comps i comp depth lt is ∙ and_left (type_within t depth) (all_within (left comps (i + 1)) depth) (sym tested ∙ no_more)))

pub list_goes_on : (comps : List Comp) (i : ℕ) (comp : Comp) (depth : ℕ) (r : Bool) → i < length comps → comp ≡ get_or comps i comp → r ≡ type_within (type_view (out-Comp comp).ty) depth → r ≡ true
    → all_within (left comps i) depth ≡ all_within (left comps 0) depth → all_within (left comps (i + 1)) depth ≡ all_within (left comps 0) depth
list_goes_on comps i comp depth r lt is tested more so_far =
    and_on (type_within (type_view (out-Comp comp).ty) depth) (all_within (left comps (i + 1)) depth) (all_within (left comps 0) depth) (sym tested ∙ more) (sym (step_within comps i comp depth lt is) ∙ so_far)

pub list_too_long : (comps : List Comp) (depth : ℕ) → most_components < length comps → false ≡ (few_at comps 0 && all_within (left comps 0) depth)
list_too_long comps depth many = sym (and_left (few_at comps 0) (all_within (left comps 0) depth) (lt-leb (component_count (left comps 0)) most_components (omega (arith, many, component_count_view comps))))

none_within : (depth : ℕ) → (true && nat_le 0 depth) ≡ true
none_within depth = le-leb 0 depth (omega arith)

pub list_done : (comps : List Comp) (i depth : ℕ) → length comps ≤ i → length comps ≤ most_components
    → all_within (left comps i) depth ≡ all_within (left comps 0) depth → true ≡ (few_at comps 0 && all_within (left comps 0) depth)
list_done comps i depth le few so_far =
    let last : all_within (left comps i) depth ≡ true = rw (none_left comps i le) (none_within depth) in
    sym (and_from (few_at comps 0) (all_within (left comps 0) depth) (le-leb (component_count (left comps 0)) most_components (omega (arith, few, component_count_view comps))) (sym so_far ∙ last))
