-- Components of the code, one after another and by their places.
use Rattle.std.proofs.Common.{◌≡◌, ℕ, zero, suc, ◌+◌, ◌<◌, ◌≤◌, List, [], ◌∷◌, Option, Some, None, Bor, length, drop, get_or, map, option_map, slice_get, MatchOption, refl, sym, ap, ◌∙◌}
use Rattle.std.specs.Arc.{arc_str_bytes}
use Rattle.std.specs.List.{HoldsAt}
use Rattle.std.specs.Prelude.{replicate}
use Rattle.std.proofs.lemmas.List.{at_drop_more, at_drop_all, length-map}
use Rattle.std.proofs.lemmas.Option.{slice_get_past, slice_get_read}
use Rattle.guard_model.specs.AbstractType.{Components, no_components, component}
use Rattle.guard_model.specs.AbstractValue.{AbstractValue, absent, fields_of, items_of}
use Rattle.guard_model.specs.Components.{component_at}
use Rattle.guard_model.specs.Counts.{component_count, item_count}
use Rattle.guard_model.specs.Slots.{all_absent}
use Rattle.guard_model.specs.TypeView.{OneComponent, type_view, component_view, components_of, presence_view}
use Rattle.guard_model.specs.ValueView.{value_view, fields_view, items_view}
use Rattle.guard_model.specs.declared.ty.Comp.{Comp}
use Rattle.guard_model.specs.declared.ty.Kind.TheViews.{out-Comp}
use Rattle.guard_model.specs.declared.value.Value.{Value}
use Rattle.guard_model.proofs.TypeViews.{opened, component_view_is}

abbrev pub in_view : List Comp → Components
in_view comps = components_of (map component_view comps)

-- ---- those from a place on, as a loop has them before it

abbrev pub left : List Comp → ℕ → Components
left comps i = in_view (drop i comps)

pub left_is : (comps : List Comp) (i : ℕ) (comp : Comp) → i < length comps → comp ≡ get_or comps i comp
    → left comps i ≡ component (arc_str_bytes (out-Comp comp).name) (type_view (out-Comp comp).ty) (presence_view (out-Comp comp).presence) (left comps (i + 1))
left_is comps i comp lt is =
    at_drop_more in_view comps i comp lt
    ∙ ap (λ (c : Comp). in_view (c ∷ drop (i + 1) comps)) (sym is)
    ∙ ap (λ (c : OneComponent). component c.name c.ty c.presence (left comps (i + 1))) (component_view_is comp)

pub none_left : (comps : List Comp) (i : ℕ) → length comps ≤ i → left comps i ≡ no_components
none_left comps i le = at_drop_all in_view comps i le

-- ---- the one at a place, as `get` finds it

at_place : (comps : List Comp) (i : ℕ) → option_map component_view (slice_get comps i) ≡ component_at i (in_view comps)
at_place [] i = refl
at_place (c ∷ comps) zero = refl
at_place (c ∷ comps) (suc i) = at_place comps i

in_two_steps : (found : Option (Bor Comp)) → option_map (λ c. component_view c.now) found ≡ option_map component_view (option_map (λ c. c.now) found)
in_two_steps None = refl
in_two_steps (Some c) = refl

got : (found : Option (Bor Comp)) (comps : List Comp) (i : ℕ) → MatchOption found (length comps ≤ i) (λ c. (i < length comps) × HoldsAt (λ d. c.now ≡ d) comps i) → option_map (λ c. c.now) found ≡ slice_get comps i
got None comps i h = sym (slice_get_past comps i h)
got (Some c) comps i h = sym (slice_get_read comps (length comps) i c.now refl h.0 (h.1 c.now))

pub looked_up : (found : Option (Bor Comp)) (comps : List Comp) (i : ℕ) → MatchOption found (length comps ≤ i) (λ c. (i < length comps) × HoldsAt (λ d. c.now ≡ d) comps i)
    → option_map (λ c. component_view c.now) found ≡ component_at i (in_view comps)
looked_up found comps i h = in_two_steps found ∙ ap (option_map component_view) (got found comps i h) ∙ at_place comps i

pub found_there : (found : Option (Bor Comp)) (comps : List Comp) (i : ℕ) (c : Bor Comp) → MatchOption found (length comps ≤ i) (λ c. (i < length comps) × HoldsAt (λ d. c.now ≡ d) comps i) → found ≡ Some c
    → component_at i (in_view comps) ≡ Some (opened c.now)
found_there found comps i c h is =
    sym (looked_up found comps i h) ∙ ap (option_map (λ (c : Bor Comp). component_view c.now)) is ∙ ap Some (component_view_is c.now)

pub found_nowhere : (found : Option (Bor Comp)) (comps : List Comp) (i : ℕ) → MatchOption found (length comps ≤ i) (λ c. (i < length comps) × HoldsAt (λ d. c.now ≡ d) comps i) → found ≡ None
    → component_at i (in_view comps) ≡ None
found_nowhere found comps i h is = sym (looked_up found comps i h) ∙ ap (option_map (λ (c : Bor Comp). component_view c.now)) is

-- ---- how many there are

pub component_count_is : (cs : List OneComponent) → component_count (components_of cs) ≡ length cs
component_count_is [] = refl
component_count_is (c ∷ cs) = ap suc (component_count_is cs)

pub component_count_view : (comps : List Comp) → component_count (in_view comps) ≡ length comps
component_count_view comps = component_count_is (map component_view comps) ∙ length-map comps component_view

pub item_count_is : (vs : List AbstractValue) → item_count (items_of vs) ≡ length vs
item_count_is [] = refl
item_count_is (v ∷ vs) = ap suc (item_count_is vs)

pub item_count_view : (vs : List Value) → item_count (items_view vs) ≡ length vs
item_count_view vs = item_count_is (map value_view vs) ∙ length-map vs value_view

-- ---- their slots, before any has a value

pub fields_absent : (comps : List Comp) → all_absent (in_view comps) ≡ fields_of (replicate (length comps) None)
fields_absent [] = refl
fields_absent (c ∷ comps) = ap absent (fields_absent comps)
