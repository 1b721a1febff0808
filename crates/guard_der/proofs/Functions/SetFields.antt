-- The fields for the components of a SET, as the code has them.
use Rattle.std.proofs.Common.{◌≡◌, ℕ, zero, suc, ◌+◌, ◌<◌, ◌≤◌, true, false, List, [], ◌∷◌, ◌++◌, length, take, drop, get_or, map, Option, Some, None, Result, Ok, refl, sym, ap, ◌∙◌, add-one, arith}
use Rattle.std.specs.Arc.{arc_str_bytes, arc_value}
use Rattle.std.specs.Prelude.{set, is_some}
use Rattle.std.proofs.Math.Seq.{drop-cons, take-suc}
use Rattle.std.proofs.lemmas.List.{map_push, take_all, take_more_set, drop-set-lt, length-set}
use Rattle.guard_model.specs.Answer.{◌>>=◌, Refuses}
use Rattle.guard_model.specs.AbstractType.{AbstractType, AbstractPresence, Components, no_components, component}
use Rattle.guard_model.specs.AbstractValue as value
use Rattle.guard_model.specs.AbstractValue.{AbstractValue, Fields, fields_of}
use Rattle.guard_model.specs.TypeView.{type_view, presence_view}
use Rattle.guard_model.specs.ValueView.{value_view, field_view, slot_view, fields_view}
use Rattle.guard_model.specs.declared.value.Value.{Value}
use Rattle.guard_model.specs.declared.ty.Comp.{Comp}
use Rattle.guard_model.specs.declared.ty.Kind.TheViews.{out-Comp}
use Rattle.guard_der.specs.Breach.{AbstractBreach}
use Rattle.guard_der.specs.Reading.{is_filled, fill, settled, completed, missing_at, field_before}
use Rattle.guard_der.proofs.Functions.ComponentLoop.{with_front, regroup, followed_all}
use Rattle.guard_der.proofs.Functions.Encoding.{Slot}
use Rattle.guard_model.proofs.Components.{left, left_is, none_left}

abbrev pub CodeFields : Type 0
CodeFields = List Slot

-- the first field, and those behind it
first_field : (o : Option AbstractValue) (os : List (Option AbstractValue)) → fields_of (o ∷ os) ≡ field_before o (fields_of os)
first_field None os = refl
first_field (Some v) os = refl

first_filled : (o : Option Value) (os : List (Option AbstractValue)) → is_filled zero (fields_of (field_view o ∷ os)) ≡ is_some o
first_filled None os = refl
first_filled (Some v) os = refl

later_filled : (o : Option AbstractValue) (os : List (Option AbstractValue)) (i : ℕ) → is_filled (suc i) (fields_of (o ∷ os)) ≡ is_filled i (fields_of os)
later_filled None os i = refl
later_filled (Some v) os i = refl

fill_first : (o : Option AbstractValue) (os : List (Option AbstractValue)) (v : AbstractValue) → fields_of (Some v ∷ os) ≡ fill zero v (fields_of (o ∷ os))
fill_first None os v = refl
fill_first (Some w) os v = refl

fill_later : (o : Option AbstractValue) (os after : List (Option AbstractValue)) (i : ℕ) (v : AbstractValue) → fields_of after ≡ fill i v (fields_of os) → fields_of (o ∷ after) ≡ fill (suc i) v (fields_of (o ∷ os))
fill_later None os after i v e = ap value.absent e
fill_later (Some w) os after i v e = ap (value.present w) e

pub field_is_filled : (fields : CodeFields) (i : ℕ) (s : Slot) → i < length fields → s ≡ get_or fields i s → is_filled i (fields_view fields) ≡ is_some (arc_value s)
field_is_filled [] i s lt is = absurd (omega (arith, lt))
field_is_filled (f ∷ fields) zero s lt is = first_filled (arc_value f) (map slot_view fields) ∙ ap (λ (x : Slot). is_some (arc_value x)) (sym is)
field_is_filled (f ∷ fields) (suc i) s lt is = later_filled (slot_view f) (map slot_view fields) i ∙ field_is_filled fields i s (omega (arith, lt)) is

pub field_filled : (fields : CodeFields) (i : ℕ) (s : Slot) (v : Value) → arc_value s ≡ Some v → i < length fields → fields_view (set fields i s) ≡ fill i (value_view v) (fields_view fields)
field_filled [] i s v holds lt = absurd (omega (arith, lt))
field_filled (f ∷ fields) zero s v holds lt = ap (λ (o : Option Value). fields_of (field_view o ∷ map slot_view fields)) holds ∙ fill_first (slot_view f) (map slot_view fields) (value_view v)
field_filled (f ∷ fields) (suc i) s v holds lt = fill_later (slot_view f) (map slot_view fields) (map slot_view (set fields i s)) i (value_view v) (field_filled fields i s v holds (omega (arith, lt)))

-- ---- at the end, one component after the other

-- what the first i components are, and then the others
abbrev pub settling : List Comp → ℕ → CodeFields → ℕ → Result Fields AbstractBreach
settling comps i fields at = with_front (map slot_view (take i fields)) (completed i (left comps i) (fields_view (drop i fields)) at)

abbrev settled_then : Comp → List Comp → ℕ → CodeFields → ℕ → Option AbstractValue → Result Fields AbstractBreach
settled_then comp comps i fields at f =
    settled (presence_view (out-Comp comp).presence) f (missing_at i at) >>= λ g. completed (suc i) (left comps (i + 1)) (fields_view (drop (i + 1) fields)) at >>= λ gs. Ok (field_before g gs)

field_first : (s : Slot) (fields : CodeFields) → fields_view (s ∷ fields) ≡ field_before (slot_view s) (fields_view fields)
field_first s fields = first_field (slot_view s) (map slot_view fields)

completed_first : (i : ℕ) (name : List ℕ) (t : AbstractType) (presence : AbstractPresence) (rest : Components) (f : Option AbstractValue) (fs : Fields) (at : ℕ)
    → completed i (component name t presence rest) (field_before f fs) at ≡ (settled presence f (missing_at i at) >>= λ g. completed (suc i) rest fs at >>= λ gs. Ok (field_before g gs))
unfolding completed
completed_first i name t presence rest None fs at = refl
completed_first i name t presence rest (Some v) fs at = refl

one_settled : (comps : List Comp) (i : ℕ) (comp : Comp) (fields : CodeFields) (s : Slot) (at : ℕ) → i < length comps → length fields ≡ length comps → comp ≡ get_or comps i comp → s ≡ get_or fields i s
    → completed i (left comps i) (fields_view (drop i fields)) at ≡ settled_then comp comps i fields at (slot_view s)
one_settled comps i comp fields s at lt same is here =
    let within : i < length fields = omega (arith, lt, same) in
    let parts : drop i fields ≡ s ∷ drop (i + 1) fields = drop-cons fields i s within ∙ ap (λ (x : Slot). x ∷ drop (suc i) fields) (sym here) ∙ ap (λ (k : ℕ). s ∷ drop k fields) (sym (add-one i)) in
    ap (λ (cs : Components). completed i cs (fields_view (drop i fields)) at) (left_is comps i comp lt is)
    ∙ ap (λ (x : CodeFields). completed i (component (arc_str_bytes (out-Comp comp).name) (type_view (out-Comp comp).ty) (presence_view (out-Comp comp).presence) (left comps (i + 1))) (fields_view x) at) parts
    ∙ ap (λ (fs : Fields). completed i (component (arc_str_bytes (out-Comp comp).name) (type_view (out-Comp comp).ty) (presence_view (out-Comp comp).presence) (left comps (i + 1))) fs at) (field_first s (drop (i + 1) fields))
    ∙ completed_first i (arc_str_bytes (out-Comp comp).name) (type_view (out-Comp comp).ty) (presence_view (out-Comp comp).presence) (left comps (i + 1)) (slot_view s) (fields_view (drop (i + 1) fields)) at

pub settles_on : (comps : List Comp) (i : ℕ) (comp : Comp) (fields after : CodeFields) (s f : Slot) (at : ℕ) (total : Result Fields AbstractBreach)
    → i < length comps → length fields ≡ length comps → comp ≡ get_or comps i comp → s ≡ get_or fields i s
    → settled (presence_view (out-Comp comp).presence) (slot_view s) (missing_at i at) ≡ Ok (slot_view f)
    → take (i + 1) after ≡ take i fields ++ f ∷ [] → drop (i + 1) after ≡ drop (i + 1) fields
    → settling comps i fields at ≡ total → settling comps (i + 1) after at ≡ total
settles_on comps i comp fields after s f at total lt same is here e front back so_far =
    let others : Result Fields AbstractBreach = completed (suc i) (left comps (i + 1)) (fields_view (drop (i + 1) fields)) at in
    let step : settling comps i fields at ≡ with_front (map slot_view (take i fields)) (others >>= λ gs. Ok (field_before (slot_view f) gs)) =
    ap (with_front (map slot_view (take i fields))) (one_settled comps i comp fields s at lt same is here
    ∙ ap (λ (r : Result (Option AbstractValue) AbstractBreach). r >>= λ g. others >>= λ gs. Ok (field_before g gs)) e) in
    let pushed : map slot_view (take (i + 1) after) ≡ map slot_view (take i fields) ++ slot_view f ∷ [] = ap (map slot_view) front ∙ map_push slot_view (take i fields) f in
    ap (λ (x : List (Option AbstractValue)). with_front x (completed (i + 1) (left comps (i + 1)) (fields_view (drop (i + 1) after)) at)) pushed
    ∙ ap (λ (x : CodeFields). with_front (map slot_view (take i fields) ++ slot_view f ∷ []) (completed (i + 1) (left comps (i + 1)) (fields_view x) at)) back
    ∙ ap (λ (k : ℕ). with_front (map slot_view (take i fields) ++ slot_view f ∷ []) (completed k (left comps (i + 1)) (fields_view (drop (i + 1) fields)) at)) (add-one i)
    ∙ sym (regroup (map slot_view (take i fields)) (slot_view f) others) ∙ sym step ∙ so_far

pub settles_badly : (b : Option AbstractBreach) (comps : List Comp) (i : ℕ) (comp : Comp) (fields : CodeFields) (s : Slot) (at : ℕ) (total : Result Fields AbstractBreach)
    → i < length comps → length fields ≡ length comps → comp ≡ get_or comps i comp → s ≡ get_or fields i s
    → Refuses b (settled (presence_view (out-Comp comp).presence) (slot_view s) (missing_at i at)) → settling comps i fields at ≡ total → Refuses b total
settles_badly None comps i comp fields s at total lt same is here e so_far = tt
settles_badly (Some b) comps i comp fields s at total lt same is here e so_far =
    sym so_far
    ∙ ap (with_front (map slot_view (take i fields))) (one_settled comps i comp fields s at lt same is here
    ∙ ap (λ (r : Result (Option AbstractValue) AbstractBreach). r >>= λ g. completed (suc i) (left comps (i + 1)) (fields_view (drop (i + 1) fields)) at >>= λ gs. Ok (field_before g gs)) e)

pub all_settled : (comps : List Comp) (i : ℕ) (fields : CodeFields) (at : ℕ) (total : Result Fields AbstractBreach) → length comps ≤ i → length fields ≡ length comps → settling comps i fields at ≡ total → total ≡ Ok (fields_view fields)
unfolding completed
all_settled comps i fields at total le same so_far =
    sym so_far
    ∙ ap (λ (cs : Components). with_front (map slot_view (take i fields)) (completed i cs (fields_view (drop i fields)) at)) (none_left comps i le)
    ∙ ap (λ (x : CodeFields). with_front (map slot_view x) (completed i no_components (fields_view (drop i fields)) at)) (take_all i fields (omega (arith, le, same)))
    ∙ ap (λ (fs : Fields). Ok fs) (followed_all (map slot_view fields))

-- a slot that is empty
pub is_empty : (presence : AbstractPresence) (o : Option Value) (b : AbstractBreach) → is_some o ≡ false → settled presence (field_view o) b ≡ settled presence None b
is_empty presence None b e = refl
is_empty presence (Some v) b e = absurd cc

pub is_full : (presence : AbstractPresence) (o : Option Value) (b : AbstractBreach) → is_some o ≡ true → settled presence (field_view o) b ≡ Ok (field_view o)
is_full presence None b e = absurd cc
is_full presence (Some v) b e = refl

-- what was put in is settled
pub put_settles : (comps : List Comp) (i : ℕ) (comp : Comp) (fields after : CodeFields) (s f : Slot) (at : ℕ) (total : Result Fields AbstractBreach)
    → i < length comps → length fields ≡ length comps → comp ≡ get_or comps i comp → s ≡ get_or fields i s
    → settled (presence_view (out-Comp comp).presence) (slot_view s) (missing_at i at) ≡ Ok (slot_view f) → after ≡ set fields i f
    → settling comps i fields at ≡ total → (settling comps (i + 1) after at ≡ total) × (length after ≡ length comps)
put_settles comps i comp fields after s f at total lt same is here e put so_far =
    let within : i < length fields = omega (arith, lt, same) in (
      settles_on comps i comp fields after s f at total lt same is here e (ap (take (i + 1)) put ∙ take_more_set fields i f within) (ap (drop (i + 1)) put ∙ drop-set-lt (i + 1) fields i f (omega arith)) so_far,
      ap length put ∙ length-set fields i f ∙ same,
    )

-- and what was there before
pub kept_settles : (comps : List Comp) (i : ℕ) (comp : Comp) (fields : CodeFields) (s : Slot) (at : ℕ) (total : Result Fields AbstractBreach)
    → i < length comps → length fields ≡ length comps → comp ≡ get_or comps i comp → s ≡ get_or fields i s → is_some (arc_value s) ≡ true → settling comps i fields at ≡ total → settling comps (i + 1) fields at ≡ total
kept_settles comps i comp fields s at total lt same is here full so_far =
    let within : i < length fields = omega (arith, lt, same) in
    let front : take (i + 1) fields ≡ take i fields ++ s ∷ [] = ap (λ (k : ℕ). take k fields) (add-one i) ∙ take-suc fields i s within ∙ ap (λ (x : Slot). take i fields ++ x ∷ []) (sym here) in
    settles_on comps i comp fields fields s s at total lt same is here (is_full (presence_view (out-Comp comp).presence) (arc_value s) (missing_at i at) full) front refl so_far
