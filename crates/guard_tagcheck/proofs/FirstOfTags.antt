-- The first tags of a type, as the code finds them.
use Rattle.std.proofs.Common.{◌≡◌, ℕ, ◌+◌, ◌<◌, ◌≤◌, Bool, List, [], ◌∷◌, length, take, get_or, map, Some, None, refl, sym, ap, ◌∙◌}
use Rattle.std.specs.Prelude.{◌||◌}
use Rattle.std.specs.List.{list_any, slice_get}
use Rattle.std.specs.Global.{Vec}
use Rattle.std.proofs.lemmas.List.{take_all}
use Rattle.std.proofs.lemmas.List.Folds.{list_any_more}
use Rattle.std.proofs.lemmas.Option.{same_Some}
use Rattle.guard_model.specs.declared.tag.Tag.{Tag}
use Rattle.guard_model.specs.Tags.{same_tag}
use Rattle.guard_model.specs.AbstractType.{AbstractKind, Constraints, type_of}
use Rattle.guard_model.specs.TypeView.{OneComponent, type_view, kind_view, component_view, constraint_view, constraints_of}
use Rattle.guard_model.specs.declared.ty.Ty.{Ty}
use Rattle.guard_model.specs.declared.ty.Comp.{Comp}
use Rattle.guard_model.specs.declared.ty.Kind.{Choice}
use Rattle.guard_model.specs.declared.ty.Kind.TheViews.{out-Ty, out-Comp}
use Rattle.guard_model.proofs.Components.{in_view}
use Rattle.guard_model.proofs.TypeViews.{type_view_is, component_view_is, kind_view_choice}
use Rattle.guard_tagcheck.specs.FirstTags.{begins_with, alternative_begins_with, one_begins_with}

-- ---- of a type

tagged : (tags : List Tag) (kind : AbstractKind) (cons : Constraints) (tag : Tag) → slice_get tags 0 ≡ Some tag → (other : Tag) → same_tag tag other ≡ begins_with (type_of tags kind cons) other
tagged [] kind cons tag e other = absurd cc
tagged (t ∷ ts) kind cons tag e other = ap (λ (u : Tag). same_tag u other) (sym (same_Some t tag e))

untagged : (tags : List Tag) (kind : AbstractKind) (cons : Constraints) → slice_get tags 0 ≡ None → (other : Tag) → begins_with (type_of tags kind cons) other ≡ alternative_begins_with kind other
untagged [] kind cons e other = refl
untagged (t ∷ ts) kind cons e other = absurd cc

pub of_tagged : (ty : Ty) (tag : Tag) → slice_get (out-Ty ty).tags.items 0 ≡ Some tag → (other : Tag) → same_tag tag other ≡ begins_with (type_view ty) other
of_tagged ty tag e other = rw (type_view_is ty) (tagged (out-Ty ty).tags.items (kind_view (out-Ty ty).kind) (constraints_of (map constraint_view (out-Ty ty).cons.items)) tag e other)

pub of_choice : (ty : Ty) (alternatives : Vec Comp) → slice_get (out-Ty ty).tags.items 0 ≡ None → (out-Ty ty).kind ≡ Choice alternatives
    → (other : Tag) → one_begins_with (in_view alternatives.items) other ≡ begins_with (type_view ty) other
of_choice ty alternatives e is other =
    let there : begins_with (type_view ty) other ≡ alternative_begins_with (kind_view (out-Ty ty).kind) other =
    rw (type_view_is ty) (untagged (out-Ty ty).tags.items (kind_view (out-Ty ty).kind) (constraints_of (map constraint_view (out-Ty ty).cons.items)) e other) in
    sym (there ∙ ap (λ (k : AbstractKind). alternative_begins_with k other) (ap kind_view is ∙ kind_view_choice alternatives))

-- ---- of alternatives, as a loop goes over them

abbrev pub one_of : List Comp → Tag → Bool
one_of comps tag = list_any (λ c. begins_with (component_view c).ty tag) comps

all_of : (comps : List Comp) (tag : Tag) → one_of comps tag ≡ one_begins_with (in_view comps) tag
all_of [] tag = refl
all_of (c ∷ comps) tag = ap (λ (b : Bool). begins_with (component_view c).ty tag || b) (all_of comps tag)

pub one_more_of : (comps : List Comp) (i : ℕ) (comp : Comp) → i < length comps → comp ≡ get_or comps i comp
    → (tag : Tag) → (one_of (take i comps) tag || begins_with (type_view (out-Comp comp).ty) tag) ≡ one_of (take (i + 1) comps) tag
one_more_of comps i comp lt is tag =
    sym (
    list_any_more (λ c. begins_with (component_view c).ty tag) comps i comp lt
    ∙ ap (λ (c : Comp). one_of (take i comps) tag || begins_with (component_view c).ty tag) (sym is)
    ∙ ap (λ (c : OneComponent). one_of (take i comps) tag || begins_with c.ty tag) (component_view_is comp)
    )

pub whole_of : (comps : List Comp) (i : ℕ) → length comps ≤ i → (tag : Tag) → one_of (take i comps) tag ≡ one_begins_with (in_view comps) tag
whole_of comps i le tag = ap (λ (cs : List Comp). one_of cs tag) (take_all i comps le) ∙ all_of comps tag
