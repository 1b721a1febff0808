-- What an encoding is made of, seen from the code's types and values.
use Rattle.std.proofs.Common.{◌≡◌, ℕ, suc, ◌+◌, ◌<◌, ◌≤◌, Bool, true, false, List, [], ◌∷◌, ◌++◌, length, drop, get_or, map, Option, Some, None, Ok, refl, sym, ap, ◌∙◌, append_assoc, add-one}
use Rattle.std.specs.Arc.{arc_slice_items, arc_str_bytes}
use Rattle.std.specs.declared.sync.Arc.{Arc}
use Rattle.std.specs.declared.sync.ArcSlice.{ArcSlice}
use Rattle.std.specs.Prelude.{IsTrue}
use Rattle.std.specs.Global.{Global, Vec, Box}
use Rattle.guard_model.specs.Answer.{Refuses}
use Rattle.guard_model.specs.AbstractType.{AbstractType, AbstractPresence, Components, component}
use Rattle.guard_model.specs.AbstractValue.{AbstractValue, fields_of}
use Rattle.guard_model.specs.TypeView.{OneComponent, type_view, kind_view, component_view, components_of, presence_view}
use Rattle.guard_model.specs.ValueView.{value_view, slot_view, fields_view, items_view}
use Rattle.guard_model.specs.declared.tag.Tag.{Tag}
use Rattle.guard_model.specs.declared.ty.Ty.{Ty}
use Rattle.guard_model.specs.declared.ty.Comp.{Comp}
use Rattle.guard_model.specs.declared.ty.Kind.TheViews.{out-Comp}
use Rattle.std.proofs.Math.Seq.{drop-cons}
use Rattle.std.proofs.lemmas.Bool.{and_parts}
use Rattle.std.proofs.lemmas.List.{drop_all, append-nil, length-map}
use Rattle.guard_model.specs.declared.ty.Kind.{Kind, Sequence, Set, SequenceOf, SetOf}
use Rattle.guard_model.specs.declared.value.Value.{Value}
use Rattle.guard_model.specs.declared.value.Value.TheVariants as variant
use Rattle.guard_model.specs.declared.value.Value.TheVariants.{rolls-Items}
use Rattle.guard_model.proofs.ValueViews.{value_view_fields, value_view_items}
use Rattle.guard_der.specs.Der.{Part, der, contents_octets, parts_of, part_unless, is_left_out, outermost, item_encodings, ◌>>=◌}
use Rattle.guard_der.specs.Fits.{fits_kind, fits_fields, fits_field}
use Rattle.guard_der.specs.Encoding.{refusal}
use Rattle.guard_der.specs.declared.encoding.EncodeFault.{EncodeFault}
use Rattle.guard_der.specs.declared.encoding.EncodeFault.TheVariants.{TooLong, OutOfMemory}
use Rattle.guard_model.proofs.Components.{left, left_is, none_left}
use Rattle.guard_model.proofs.TypeViews.{kind_view_sequence, kind_view_set, kind_view_sequence_of, kind_view_set_of}
use Rattle.guard_der.specs.Encoding.{or_too_long}
use Rattle.guard_der.specs.inside.EncodingSteps.{part_of, with_parts, all_joined, sequence_octets, set_octets}

-- a slot of the code, which holds a component's value or nothing
abbrev pub Slot : Type 0
Slot = Arc (Option Value) Global

-- what is refused inside is refused whole
pub refused_whole : {A B : Type 0} (e : EncodeFault) (x : Option A) (f : A → Option B) → Refuses (refusal e) (or_too_long x) → Refuses (refusal e) (or_too_long (x >>= f))
refused_whole TooLong None f h = refl
refused_whole TooLong (Some x) f h = absurd cc
refused_whole OutOfMemory x f h = tt

pub there_whole : {A B : Type 0} (x : Option A) (y : A) (f : A → Option B) → or_too_long x ≡ Ok y → x >>= f ≡ f y
there_whole None y f h = absurd cc
there_whole (Some x) y f h =
    let e : x ≡ y = cc in
    ap f e

-- ---- a SEQUENCE and a SET

pub sequence_fits : (kind : Kind) (v : Value) (comps : Vec Comp) (fs : ArcSlice Slot Global) → kind ≡ Sequence comps → v ≡ variant.Fields fs → IsTrue (fits_kind (kind_view kind) (value_view v)) → IsTrue (fits_fields (components_of (map component_view comps.items)) (fields_view (arc_slice_items fs)))
sequence_fits kind v comps fs k w h = rw (k, kind_view_sequence comps, w, value_view_fields fs) at h

pub set_fits : (kind : Kind) (v : Value) (comps : Vec Comp) (fs : ArcSlice Slot Global) → kind ≡ Set comps → v ≡ variant.Fields fs → IsTrue (fits_kind (kind_view kind) (value_view v)) → IsTrue (fits_fields (components_of (map component_view comps.items)) (fields_view (arc_slice_items fs)))
set_fits kind v comps fs k w h = rw (k, kind_view_set comps, w, value_view_fields fs) at h

pub sequence_contents : (kind : Kind) (v : Value) (comps : Vec Comp) (fs : ArcSlice Slot Global) → kind ≡ Sequence comps → v ≡ variant.Fields fs → contents_octets (kind_view kind) (value_view v) ≡ sequence_octets (parts_of (components_of (map component_view comps.items)) (fields_view (arc_slice_items fs)))
sequence_contents kind v comps fs k w = rw (k, kind_view_sequence comps, w, value_view_fields fs) refl

pub set_contents : (kind : Kind) (v : Value) (comps : Vec Comp) (fs : ArcSlice Slot Global) → kind ≡ Set comps → v ≡ variant.Fields fs → contents_octets (kind_view kind) (value_view v) ≡ set_octets (parts_of (components_of (map component_view comps.items)) (fields_view (arc_slice_items fs)))
set_contents kind v comps fs k w = rw (k, kind_view_set comps, w, value_view_fields fs) refl

-- ---- OF types

pub sequence_of_contents : (kind : Kind) (v : Value) (t : Box Ty) (vs : ArcSlice Value Global) → kind ≡ SequenceOf t → v ≡ variant.Items vs → contents_octets (kind_view kind) (value_view v) ≡ all_joined (item_encodings (der (type_view t.value)) (items_view (arc_slice_items vs)))
sequence_of_contents kind v t vs k w = rw (k, kind_view_sequence_of t, w, value_view_items vs) refl

pub set_of_contents : (kind : Kind) (v : Value) (t : Box Ty) (vs : ArcSlice Value Global) → kind ≡ SetOf t → v ≡ variant.Items vs → contents_octets (kind_view kind) (value_view v) ≡ all_joined (item_encodings (der (type_view t.value)) (items_view (arc_slice_items vs)))
set_of_contents kind v t vs k w = rw (k, kind_view_set_of t, w, value_view_items vs) refl

-- ---- components one after the other

with_none : (ps : Option (List Part)) → with_parts [] ps ≡ ps
with_none None = refl
with_none (Some ps) = refl

sent_first : (left_out : Bool) (t : AbstractType) (v : AbstractValue) (octets : Option (List ℕ)) (rest : Option (List Part)) → part_unless left_out (outermost t v) octets rest ≡ (part_unless left_out (outermost t v) octets (Some []) >>= λ one. with_parts one rest)
sent_first true t v octets rest = sym (with_none rest)
sent_first false t v None rest = refl
sent_first false t v (Some os) None = refl
sent_first false t v (Some os) (Some ps) = refl

one_first : (name : List ℕ) (t : AbstractType) (p : AbstractPresence) (rest : Components) (f : Option AbstractValue) (fs : List (Option AbstractValue)) → parts_of (component name t p rest) (fields_of (f ∷ fs)) ≡ (part_of p t f >>= λ one. with_parts one (parts_of rest (fields_of fs)))
one_first name t p rest None fs = sym (with_none (parts_of rest (fields_of fs)))
one_first name t p rest (Some v) fs = sent_first (is_left_out p v) t v (der t v) (parts_of rest (fields_of fs))

one_fits : (name : List ℕ) (t : AbstractType) (p : AbstractPresence) (rest : Components) (f : Option AbstractValue) (fs : List (Option AbstractValue)) → IsTrue (fits_fields (component name t p rest) (fields_of (f ∷ fs))) → IsTrue (fits_field p t f) × IsTrue (fits_fields rest (fields_of fs))
one_fits name t p rest None fs h = and_parts _ _ h
one_fits name t p rest (Some v) fs h = and_parts _ _ h

pub fields_is : (fs : List Slot) (i : ℕ) (f : Slot) → i < length fs → f ≡ get_or fs i f → fields_view (drop i fs) ≡ fields_of (slot_view f ∷ map slot_view (drop (i + 1) fs))
fields_is fs i f lt is =
    ap (λ (xs : List Slot). fields_view xs) (drop-cons fs i f lt ∙ ap (λ (x : Slot). x ∷ drop (suc i) fs) (sym is) ∙ ap (λ (k : ℕ). f ∷ drop k fs) (sym (add-one i)))

-- what this component sends
abbrev pub sent_of : Comp → Slot → Option (List Part)
sent_of comp f = part_of (presence_view (out-Comp comp).presence) (type_view (out-Comp comp).ty) (slot_view f)

-- what the components from a place on send
abbrev pub others : List Comp → List Slot → ℕ → Option (List Part)
others comps fs i = parts_of (left comps i) (fields_view (drop i fs))

pub next_sent : (comps : List Comp) (fs : List Slot) (i : ℕ) (comp : Comp) (f : Slot) → i < length comps → i < length fs → comp ≡ get_or comps i comp → f ≡ get_or fs i f → others comps fs i ≡ (sent_of comp f >>= λ one. with_parts one (others comps fs (i + 1)))
next_sent comps fs i comp f lt lf is is_f =
    rw (left_is comps i comp lt is, fields_is fs i f lf is_f) (one_first (arc_str_bytes (out-Comp comp).name) (type_view (out-Comp comp).ty) (presence_view (out-Comp comp).presence) (left comps (i + 1)) (slot_view f) (map slot_view (drop (i + 1) fs)))

pub next_fits : (comps : List Comp) (fs : List Slot) (i : ℕ) (comp : Comp) (f : Slot) → i < length comps → i < length fs → comp ≡ get_or comps i comp → f ≡ get_or fs i f → IsTrue (fits_fields (left comps i) (fields_view (drop i fs)))
    → IsTrue (fits_field (presence_view (out-Comp comp).presence) (type_view (out-Comp comp).ty) (slot_view f)) × IsTrue (fits_fields (left comps (i + 1)) (fields_view (drop (i + 1) fs)))
next_fits comps fs i comp f lt lf is is_f h =
    one_fits (arc_str_bytes (out-Comp comp).name) (type_view (out-Comp comp).ty) (presence_view (out-Comp comp).presence) (left comps (i + 1)) (slot_view f) (map slot_view (drop (i + 1) fs)) (rw (left_is comps i comp lt is, fields_is fs i f lf is_f) at h)

put_behind : (old new : List Part) (one rest : Option (List Part)) → or_too_long (with_parts old one) ≡ Ok new → with_parts new rest ≡ with_parts old (one >>= λ o. with_parts o rest)
put_behind old new None rest h = absurd cc
put_behind old new (Some o) None h = refl
put_behind old new (Some o) (Some r) h =
    let e : old ++ o ≡ new = cc in
    ap (λ (ps : List Part). Some (ps ++ r)) (sym e) ∙ ap (λ (ps : List Part). Some ps) (append_assoc old o r)

stop_behind : (e : EncodeFault) (old : List Part) (one rest : Option (List Part)) → Refuses (refusal e) (or_too_long (with_parts old one)) → Refuses (refusal e) (or_too_long (with_parts old (one >>= λ o. with_parts o rest)))
stop_behind TooLong old None rest h = refl
stop_behind TooLong old (Some o) rest h = absurd cc
stop_behind OutOfMemory old one rest h = tt

pub parts_on : (comps : List Comp) (fs : List Slot) (i : ℕ) (comp : Comp) (f : Slot) (old new : List Part) (whole : Option (List Part)) → i < length comps → i < length fs → comp ≡ get_or comps i comp → f ≡ get_or fs i f
    → or_too_long (with_parts old (sent_of comp f)) ≡ Ok new → with_parts old (others comps fs i) ≡ whole → with_parts new (others comps fs (i + 1)) ≡ whole
parts_on comps fs i comp f old new whole lt lf is is_f sent so_far =
    put_behind old new (sent_of comp f) (others comps fs (i + 1)) sent ∙ ap (with_parts old) (sym (next_sent comps fs i comp f lt lf is is_f)) ∙ so_far

pub parts_stop : (comps : List Comp) (fs : List Slot) (i : ℕ) (comp : Comp) (f : Slot) (old : List Part) (whole : Option (List Part)) (fault : EncodeFault) → i < length comps → i < length fs → comp ≡ get_or comps i comp → f ≡ get_or fs i f
    → Refuses (refusal fault) (or_too_long (with_parts old (sent_of comp f))) → with_parts old (others comps fs i) ≡ whole → Refuses (refusal fault) (or_too_long whole)
parts_stop comps fs i comp f old whole fault lt lf is is_f refused so_far =
    let stopped = stop_behind fault old (sent_of comp f) (others comps fs (i + 1)) refused in
    rw (ap (with_parts old) (sym (next_sent comps fs i comp f lt lf is is_f)) ∙ so_far) at stopped

pub parts_begin : (ps : Option (List Part)) → with_parts [] ps ≡ ps
parts_begin ps = with_none ps

pub parts_end : (comps : List Comp) (fs : List Slot) (i : ℕ) (old : List Part) (whole : Option (List Part)) → length comps ≤ i → length fs ≤ i → with_parts old (others comps fs i) ≡ whole → or_too_long whole ≡ Ok old
parts_end comps fs i old whole le lf so_far =
    ap or_too_long (sym so_far) ∙ rw (none_left comps i le, drop_all i fs lf) (ap (λ (ps : List Part). Ok ps) (append-nil old))

-- ---- components and fields of different numbers

nothing_behind : (left_out : Bool) (tag : Tag) (octets : Option (List ℕ)) (rest : Option (List Part)) → rest ≡ None → part_unless left_out tag octets rest ≡ None
nothing_behind true tag octets rest h = h
nothing_behind false tag None rest h = refl
nothing_behind false tag (Some os) rest h = rw h refl

uneven : (cs : List OneComponent) (fs : List (Option AbstractValue)) → (length cs ≡ length fs → ⊥) → parts_of (components_of cs) (fields_of fs) ≡ None
uneven [] [] h = absurd (h refl)
uneven [] (None ∷ fs) h = refl
uneven [] (Some v ∷ fs) h = refl
uneven (c ∷ cs) [] h = refl
uneven (c ∷ cs) (None ∷ fs) h = uneven cs fs (λ e. h (ap suc e))
uneven (c ∷ cs) (Some v ∷ fs) h = nothing_behind (is_left_out c.presence v) (outermost c.ty v) (der c.ty v) _ (uneven cs fs (λ e. h (ap suc e)))

pub uneven_parts : (comps : List Comp) (fs : List Slot) → (length comps ≡ length fs → ⊥) → parts_of (components_of (map component_view comps)) (fields_view fs) ≡ None
uneven_parts comps fs h = uneven (map component_view comps) (map slot_view fs) (λ e. h (sym (length-map comps component_view) ∙ e ∙ length-map fs slot_view))
