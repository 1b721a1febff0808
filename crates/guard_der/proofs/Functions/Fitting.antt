-- The test of a value's components and elements, one after the other.
use Rattle.std.proofs.Common.{◌≡◌, ℕ, suc, ◌+◌, ◌<◌, ◌≤◌, Bool, true, false, List, [], ◌∷◌, length, drop, get_or, map, Option, Some, None, refl, sym, ap, ◌∙◌, arith}
use Rattle.std.specs.Arc.{arc_slice_items, arc_str_bytes}
use Rattle.std.specs.declared.sync.ArcSlice.{ArcSlice}
use Rattle.std.specs.Prelude.{◌&&◌}
use Rattle.std.specs.Global.{Global, Vec, Box}
use Rattle.std.proofs.lemmas.Bool.{le-leb, lt-leb}
use Rattle.std.proofs.lemmas.List.{drop_all, length-map}
use Rattle.guard_model.specs.AbstractType.{AbstractType, AbstractPresence, Components, component}
use Rattle.guard_model.specs.AbstractValue.{AbstractValue, fields_of}
use Rattle.guard_model.specs.TypeView.{OneComponent, type_view, kind_view, component_view, components_of, presence_view}
use Rattle.guard_model.specs.ValueView.{value_view, slot_view, fields_view, items_view}
use Rattle.guard_model.specs.declared.ty.Ty.{Ty}
use Rattle.guard_model.specs.declared.ty.Comp.{Comp}
use Rattle.guard_model.specs.declared.ty.Kind.TheViews.{out-Comp}
use Rattle.guard_model.specs.declared.ty.Kind.{Kind, Sequence, Set, SequenceOf, SetOf}
use Rattle.guard_model.specs.declared.value.Value.{Value}
use Rattle.guard_model.specs.declared.value.Value.TheVariants as variant
use Rattle.guard_model.proofs.ValueViews.{value_view_fields, value_view_items}
use Rattle.guard_der.specs.Fits.{fits, fits_kind, fits_fields, every_fits, are_few, may_be_absent, fits_field, fits_items, fits_set}
use Rattle.guard_der.proofs.Functions.Encoding.{Slot, fields_is}
use Rattle.guard_model.specs.Counts.{item_count}
use Rattle.guard_model.proofs.Components.{left, left_is, none_left, item_count_view}
use Rattle.guard_model.proofs.TypeViews.{kind_view_sequence, kind_view_set, kind_view_sequence_of, kind_view_set_of}
use Rattle.guard_model.proofs.Tests.{and_on, and_stop}
use Rattle.guard_der.specs.Der.{der}

-- ---- components

one_fits : (name : List ℕ) (t : AbstractType) (p : AbstractPresence) (rest : Components) (f : Option AbstractValue) (fs : List (Option AbstractValue)) → fits_fields (component name t p rest) (fields_of (f ∷ fs)) ≡ (fits_field p t f && fits_fields rest (fields_of fs))
one_fits name t p rest None fs = refl
one_fits name t p rest (Some v) fs = refl

-- the test of the components from a place on
abbrev pub fit_from : List Comp → List Slot → ℕ → Bool
fit_from comps fs i = fits_fields (left comps i) (fields_view (drop i fs))

abbrev pub fit_here : Comp → Slot → Bool
fit_here comp f = fits_field (presence_view (out-Comp comp).presence) (type_view (out-Comp comp).ty) (slot_view f)

fit_next : (comps : List Comp) (fs : List Slot) (i : ℕ) (comp : Comp) (f : Slot) → i < length comps → i < length fs → comp ≡ get_or comps i comp → f ≡ get_or fs i f → fit_from comps fs i ≡ (fit_here comp f && fit_from comps fs (i + 1))
fit_next comps fs i comp f lt lf is is_f =
    rw (left_is comps i comp lt is, fields_is fs i f lf is_f) (one_fits (arc_str_bytes (out-Comp comp).name) (type_view (out-Comp comp).ty) (presence_view (out-Comp comp).presence) (left comps (i + 1)) (slot_view f) (map slot_view (drop (i + 1) fs)))

pub fit_on : (comps : List Comp) (fs : List Slot) (i : ℕ) (comp : Comp) (f : Slot) (r w : Bool) → i < length comps → i < length fs → comp ≡ get_or comps i comp → f ≡ get_or fs i f → r ≡ fit_here comp f → r ≡ true → fit_from comps fs i ≡ w → fit_from comps fs (i + 1) ≡ w
fit_on comps fs i comp f r w lt lf is is_f tested passed e = and_on (fit_here comp f) (fit_from comps fs (i + 1)) w (sym tested ∙ passed) (sym (fit_next comps fs i comp f lt lf is is_f) ∙ e)

pub fit_stop : (comps : List Comp) (fs : List Slot) (i : ℕ) (comp : Comp) (f : Slot) (r w : Bool) → i < length comps → i < length fs → comp ≡ get_or comps i comp → f ≡ get_or fs i f → r ≡ fit_here comp f → r ≡ false → fit_from comps fs i ≡ w → false ≡ w
fit_stop comps fs i comp f r w lt lf is is_f tested failed e = and_stop (fit_here comp f) (fit_from comps fs (i + 1)) w (sym tested ∙ failed) (sym (fit_next comps fs i comp f lt lf is is_f) ∙ e)

pub fit_end : (comps : List Comp) (fs : List Slot) (i : ℕ) (w : Bool) → length comps ≤ i → length fs ≤ i → fit_from comps fs i ≡ w → true ≡ w
fit_end comps fs i w le lf e = rw (none_left comps i le, drop_all i fs lf) at e

never_both : (a b : Bool) → false ≡ b → false ≡ (a && b)
never_both true b h = h
never_both false b h = refl

uneven : (cs : List OneComponent) (fs : List (Option AbstractValue)) → (length cs ≡ length fs → ⊥) → false ≡ fits_fields (components_of cs) (fields_of fs)
uneven [] [] h = absurd (h refl)
uneven [] (None ∷ fs) h = refl
uneven [] (Some v ∷ fs) h = refl
uneven (c ∷ cs) [] h = refl
uneven (c ∷ cs) (None ∷ fs) h = never_both (may_be_absent c.presence) _ (uneven cs fs (λ e. h (ap suc e)))
uneven (c ∷ cs) (Some v ∷ fs) h = never_both (fits c.ty v) _ (uneven cs fs (λ e. h (ap suc e)))

pub uneven_fields : (comps : List Comp) (fs : List Slot) → (length comps ≡ length fs → ⊥) → false ≡ fits_fields (components_of (map component_view comps)) (fields_view fs)
uneven_fields comps fs h = uneven (map component_view comps) (map slot_view fs) (λ e. h (sym (length-map comps component_view) ∙ e ∙ length-map fs slot_view))

pub fields_fit_is : (kind : Kind) (v : Value) (comps : Vec Comp) (fs : ArcSlice Slot Global) → kind ≡ Sequence comps → v ≡ variant.Fields fs → fits_kind (kind_view kind) (value_view v) ≡ fits_fields (components_of (map component_view comps.items)) (fields_view (arc_slice_items fs))
fields_fit_is kind v comps fs k w = rw (k, kind_view_sequence comps, w, value_view_fields fs) refl

pub set_fields_fit_is : (kind : Kind) (v : Value) (comps : Vec Comp) (fs : ArcSlice Slot Global) → kind ≡ Set comps → v ≡ variant.Fields fs → fits_kind (kind_view kind) (value_view v) ≡ fits_fields (components_of (map component_view comps.items)) (fields_view (arc_slice_items fs))
set_fields_fit_is kind v comps fs k w = rw (k, kind_view_set comps, w, value_view_fields fs) refl

-- ---- elements

pub items_fit_is : (kind : Kind) (v : Value) (t : Box Ty) (vs : ArcSlice Value Global) → kind ≡ SequenceOf t → v ≡ variant.Items vs → fits_kind (kind_view kind) (value_view v) ≡ fits_items (fits (type_view t.value)) (items_view (arc_slice_items vs))
items_fit_is kind v t vs k w = rw (k, kind_view_sequence_of t, w, value_view_items vs) refl

pub set_items_fit_is : (kind : Kind) (v : Value) (t : Box Ty) (vs : ArcSlice Value Global) → kind ≡ SetOf t → v ≡ variant.Items vs → fits_kind (kind_view kind) (value_view v) ≡ fits_set (fits (type_view t.value)) (der (type_view t.value)) (items_view (arc_slice_items vs))
set_items_fit_is kind v t vs k w = rw (k, kind_view_set_of t, w, value_view_items vs) refl

pub too_many : (fit : AbstractValue → Bool) (vs : List Value) → 4294967295 < length vs → false ≡ fits_items fit (items_view vs)
too_many fit vs many = and_stop (are_few (items_view vs)) (every_fits fit (items_view vs)) _ (lt-leb (item_count (items_view vs)) 4294967295 (omega (arith, item_count_view vs, many))) refl

pub few_enough : (fit : AbstractValue → Bool) (vs : List Value) → length vs ≤ 4294967295 → every_fits fit (items_view vs) ≡ fits_items fit (items_view vs)
few_enough fit vs few = and_on (are_few (items_view vs)) (every_fits fit (items_view vs)) _ (le-leb (item_count (items_view vs)) 4294967295 (omega (arith, item_count_view vs, few))) refl
