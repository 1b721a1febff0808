-- The fields for the components, as the code has them.
use Rattle.std.proofs.Common.{◌≡◌, ℕ, suc, ◌+◌, ◌<◌, ◌≤◌, true, false, List, [], ◌∷◌, ◌++◌, length, take, drop, get_or, map, Option, Some, None, Result, Ok, Err, refl, sym, ap, ◌∙◌, add-one, arith}
use Rattle.std.specs.Arc.{arc_str_bytes, arc_value}
use Rattle.std.specs.Prelude.{set, is_some}
use Rattle.std.proofs.Math.Seq.{drop-cons, take-suc}
use Rattle.std.proofs.lemmas.List.{map_push, take_all, take_more_set, drop-set-lt, length-set}
use Rattle.guard_model.specs.Answer.{◌>>=◌, Refuses}
use Rattle.guard_model.specs.AbstractType.{AbstractType, AbstractPresence, Components, no_components, component}
use Rattle.guard_model.specs.AbstractValue as value
use Rattle.guard_model.specs.AbstractValue.{AbstractValue, Fields, fields_of}
use Rattle.guard_model.specs.TypeView.{type_view, presence_view}
use Rattle.guard_model.specs.ValueView.{field_view, slot_view, fields_view}
use Rattle.guard_model.specs.declared.value.Value.{Value}
use Rattle.guard_model.specs.declared.ty.Comp.{Comp}
use Rattle.guard_model.specs.declared.ty.Kind.TheViews.{out-Comp}
use Rattle.guard_model.specs.declared.site.Site.{Site}
use Rattle.guard_der.specs.Reading.{field_before}
use Rattle.guard_values.specs.declared.fault.ValueFault.{ValueFault}
use Rattle.guard_values.specs.inside.Reading.{settled, completed}
use Rattle.guard_model.proofs.Components.{left, left_is, none_left}
use Rattle.guard_der.proofs.Functions.ComponentLoop.{followed, followed_all}
use Rattle.guard_der.proofs.Functions.Encoding.{Slot}

-- ---- what was settled before, and what is still settled

abbrev pub with_front : List (Option AbstractValue) → Result Fields ValueFault → Result Fields ValueFault
with_front front read = read >>= λ fs. Ok (followed front fs)

followed_push : (front : List (Option AbstractValue)) (f : Option AbstractValue) (fs : Fields) → followed (front ++ f ∷ []) fs ≡ followed front (field_before f fs)
followed_push [] None fs = refl
followed_push [] (Some v) fs = refl
followed_push (None ∷ vs) f fs = ap value.absent (followed_push vs f fs)
followed_push (Some w ∷ vs) f fs = ap (value.present w) (followed_push vs f fs)

regroup : (front : List (Option AbstractValue)) (f : Option AbstractValue) (read : Result Fields ValueFault) → with_front front (read >>= λ fs. Ok (field_before f fs)) ≡ with_front (front ++ f ∷ []) read
regroup front f (Ok fs) = ap (λ (fs : Fields). Ok fs) (sym (followed_push front f fs))
regroup front f (Err b) = refl

pub nothing_before : (read : Result Fields ValueFault) → with_front [] read ≡ read
nothing_before (Ok fs) = refl
nothing_before (Err b) = refl

abbrev pub CodeFields : Type 0
CodeFields = List Slot

-- ---- at the end, one component after the other

-- what the first i components are, and then the others
abbrev pub settling : List Comp → ℕ → CodeFields → Site → Result Fields ValueFault
settling comps i fields at = with_front (map slot_view (take i fields)) (completed at (left comps i) (fields_view (drop i fields)))

abbrev settled_then : Comp → List Comp → ℕ → CodeFields → Site → Option AbstractValue → Result Fields ValueFault
settled_then comp comps i fields at f =
    settled at (presence_view (out-Comp comp).presence) f >>= λ g. completed at (left comps (i + 1)) (fields_view (drop (i + 1) fields)) >>= λ gs. Ok (field_before g gs)

first_field : (o : Option AbstractValue) (os : List (Option AbstractValue)) → fields_of (o ∷ os) ≡ field_before o (fields_of os)
first_field None os = refl
first_field (Some v) os = refl

field_first : (s : Slot) (fields : CodeFields) → fields_view (s ∷ fields) ≡ field_before (slot_view s) (fields_view fields)
field_first s fields = first_field (slot_view s) (map slot_view fields)

completed_first : (name : List ℕ) (t : AbstractType) (presence : AbstractPresence) (rest : Components) (f : Option AbstractValue) (fs : Fields) (at : Site)
    → completed at (component name t presence rest) (field_before f fs) ≡ (settled at presence f >>= λ g. completed at rest fs >>= λ gs. Ok (field_before g gs))
unfolding completed
completed_first name t presence rest None fs at = refl
completed_first name t presence rest (Some v) fs at = refl

one_settled : (comps : List Comp) (i : ℕ) (comp : Comp) (fields : CodeFields) (s : Slot) (at : Site) → i < length comps → length fields ≡ length comps → comp ≡ get_or comps i comp → s ≡ get_or fields i s
    → completed at (left comps i) (fields_view (drop i fields)) ≡ settled_then comp comps i fields at (slot_view s)
one_settled comps i comp fields s at lt same is here =
    let within : i < length fields = omega (arith, lt, same) in
    let parts : drop i fields ≡ s ∷ drop (i + 1) fields = drop-cons fields i s within ∙ ap (λ (x : Slot). x ∷ drop (suc i) fields) (sym here) ∙ ap (λ (k : ℕ). s ∷ drop k fields) (sym (add-one i)) in
    ap (λ (cs : Components). completed at cs (fields_view (drop i fields))) (left_is comps i comp lt is)
    ∙ ap (λ (x : CodeFields). completed at (component (arc_str_bytes (out-Comp comp).name) (type_view (out-Comp comp).ty) (presence_view (out-Comp comp).presence) (left comps (i + 1))) (fields_view x)) parts
    ∙ ap (λ (fs : Fields). completed at (component (arc_str_bytes (out-Comp comp).name) (type_view (out-Comp comp).ty) (presence_view (out-Comp comp).presence) (left comps (i + 1))) fs) (field_first s (drop (i + 1) fields))
    ∙ completed_first (arc_str_bytes (out-Comp comp).name) (type_view (out-Comp comp).ty) (presence_view (out-Comp comp).presence) (left comps (i + 1)) (slot_view s) (fields_view (drop (i + 1) fields)) at

pub settles_on : (comps : List Comp) (i : ℕ) (comp : Comp) (fields after : CodeFields) (s f : Slot) (at : Site) (total : Result Fields ValueFault)
    → i < length comps → length fields ≡ length comps → comp ≡ get_or comps i comp → s ≡ get_or fields i s
    → settled at (presence_view (out-Comp comp).presence) (slot_view s) ≡ Ok (slot_view f)
    → take (i + 1) after ≡ take i fields ++ f ∷ [] → drop (i + 1) after ≡ drop (i + 1) fields
    → settling comps i fields at ≡ total → settling comps (i + 1) after at ≡ total
settles_on comps i comp fields after s f at total lt same is here e front back so_far =
    let others : Result Fields ValueFault = completed at (left comps (i + 1)) (fields_view (drop (i + 1) fields)) in
    let step : settling comps i fields at ≡ with_front (map slot_view (take i fields)) (others >>= λ gs. Ok (field_before (slot_view f) gs)) =
    ap (with_front (map slot_view (take i fields))) (one_settled comps i comp fields s at lt same is here
    ∙ ap (λ (r : Result (Option AbstractValue) ValueFault). r >>= λ g. others >>= λ gs. Ok (field_before g gs)) e) in
    let pushed : map slot_view (take (i + 1) after) ≡ map slot_view (take i fields) ++ slot_view f ∷ [] = ap (map slot_view) front ∙ map_push slot_view (take i fields) f in
    ap (λ (x : List (Option AbstractValue)). with_front x (completed at (left comps (i + 1)) (fields_view (drop (i + 1) after)))) pushed
    ∙ ap (λ (x : CodeFields). with_front (map slot_view (take i fields) ++ slot_view f ∷ []) (completed at (left comps (i + 1)) (fields_view x))) back
    ∙ sym (regroup (map slot_view (take i fields)) (slot_view f) others) ∙ sym step ∙ so_far

pub settles_badly : (b : Option ValueFault) (comps : List Comp) (i : ℕ) (comp : Comp) (fields : CodeFields) (s : Slot) (at : Site) (total : Result Fields ValueFault)
    → i < length comps → length fields ≡ length comps → comp ≡ get_or comps i comp → s ≡ get_or fields i s
    → Refuses b (settled at (presence_view (out-Comp comp).presence) (slot_view s)) → settling comps i fields at ≡ total → Refuses b total
settles_badly None comps i comp fields s at total lt same is here e so_far = tt
settles_badly (Some b) comps i comp fields s at total lt same is here e so_far =
    sym so_far
    ∙ ap (with_front (map slot_view (take i fields))) (one_settled comps i comp fields s at lt same is here
    ∙ ap (λ (r : Result (Option AbstractValue) ValueFault). r >>= λ g. completed at (left comps (i + 1)) (fields_view (drop (i + 1) fields)) >>= λ gs. Ok (field_before g gs)) e)

pub all_settled : (comps : List Comp) (i : ℕ) (fields : CodeFields) (at : Site) (total : Result Fields ValueFault) → length comps ≤ i → length fields ≡ length comps → settling comps i fields at ≡ total → total ≡ Ok (fields_view fields)
unfolding completed
all_settled comps i fields at total le same so_far =
    sym so_far
    ∙ ap (λ (cs : Components). with_front (map slot_view (take i fields)) (completed at cs (fields_view (drop i fields)))) (none_left comps i le)
    ∙ ap (λ (x : CodeFields). with_front (map slot_view x) (completed at no_components (fields_view (drop i fields)))) (take_all i fields (omega (arith, le, same)))
    ∙ ap (λ (fs : Fields). Ok fs) (followed_all (map slot_view fields))

-- a slot that is empty
pub is_empty : (presence : AbstractPresence) (o : Option Value) (at : Site) → is_some o ≡ false → settled at presence (field_view o) ≡ settled at presence None
is_empty presence None b e = refl
is_empty presence (Some v) b e = absurd cc

pub is_full : (presence : AbstractPresence) (o : Option Value) (at : Site) → is_some o ≡ true → settled at presence (field_view o) ≡ Ok (field_view o)
is_full presence None b e = absurd cc
is_full presence (Some v) b e = refl

-- what was put in is settled
pub put_settles : (comps : List Comp) (i : ℕ) (comp : Comp) (fields after : CodeFields) (s f : Slot) (at : Site) (total : Result Fields ValueFault)
    → i < length comps → length fields ≡ length comps → comp ≡ get_or comps i comp → s ≡ get_or fields i s
    → settled at (presence_view (out-Comp comp).presence) (slot_view s) ≡ Ok (slot_view f) → after ≡ set fields i f
    → settling comps i fields at ≡ total → (settling comps (i + 1) after at ≡ total) × (length after ≡ length comps)
put_settles comps i comp fields after s f at total lt same is here e put so_far =
    let within : i < length fields = omega (arith, lt, same) in (
      settles_on comps i comp fields after s f at total lt same is here e (ap (take (i + 1)) put ∙ take_more_set fields i f within) (ap (drop (i + 1)) put ∙ drop-set-lt (i + 1) fields i f (omega arith)) so_far,
      ap length put ∙ length-set fields i f ∙ same,
    )

-- and what was there before
pub kept_settles : (comps : List Comp) (i : ℕ) (comp : Comp) (fields : CodeFields) (s : Slot) (at : Site) (total : Result Fields ValueFault)
    → i < length comps → length fields ≡ length comps → comp ≡ get_or comps i comp → s ≡ get_or fields i s → is_some (arc_value s) ≡ true → settling comps i fields at ≡ total → settling comps (i + 1) fields at ≡ total
kept_settles comps i comp fields s at total lt same is here full so_far =
    let within : i < length fields = omega (arith, lt, same) in
    let front : take (i + 1) fields ≡ take i fields ++ s ∷ [] = ap (λ (k : ℕ). take k fields) (add-one i) ∙ take-suc fields i s within ∙ ap (λ (x : Slot). take i fields ++ x ∷ []) (sym here) in
    settles_on comps i comp fields fields s s at total lt same is here (is_full (presence_view (out-Comp comp).presence) (arc_value s) at full) front refl so_far
