-- Reading components one after the other, as a loop does.
use Rattle.std.proofs.Common.{◌≡◌, ℕ, suc, ◌+◌, ◌<◌, ◌≤◌, List, [], ◌∷◌, ◌++◌, length, drop, get_or, Option, Some, None, Result, Ok, Err, refl, sym, ap, ◌∙◌, add-one, arith}
use Rattle.std.specs.Prelude.{IsTrue, max, ◌&&◌}
use Rattle.std.proofs.Math.Nat.{le-max_left, le-max_right}
use Rattle.std.proofs.lemmas.Bool.{and_parts}
use Rattle.guard_model.specs.Answer.{◌>>=◌, Refuses}
use Rattle.guard_model.specs.AbstractType.{Components}
use Rattle.guard_model.specs.AbstractValue as value
use Rattle.guard_model.specs.AbstractValue.{AbstractValue, Fields, fields_of}
use Rattle.guard_model.specs.TypeView.{type_view, presence_view}
use Rattle.guard_model.specs.declared.ty.Comp.{Comp}
use Rattle.guard_model.specs.declared.ty.Kind.TheViews.{out-Comp}
use Rattle.guard_tagcheck.specs.FirstTags.{begins_with}
use Rattle.guard_tagcheck.specs.Limits.{nesting, deepest}
use Rattle.guard_der.specs.Sound.{is_proper, is_proper_presence, are_proper}
use Rattle.guard_der.specs.Breach.{AbstractBreach}
use Rattle.guard_der.specs.Reading.{element_at, fields_at, end_at, component_at, field_before}
use Rattle.guard_model.proofs.Components.{left, left_is, none_left}

-- fields, and then more
abbrev pub followed : List (Option AbstractValue) → Fields → Fields
followed [] fs = fs
followed (None ∷ vs) fs = value.absent (followed vs fs)
followed (Some v ∷ vs) fs = value.present v (followed vs fs)

-- what was read before, and what is still read
abbrev pub with_front : List (Option AbstractValue) → Result Fields AbstractBreach → Result Fields AbstractBreach
with_front front read = read >>= λ fs. Ok (followed front fs)

followed_push : (front : List (Option AbstractValue)) (f : Option AbstractValue) (fs : Fields) → followed (front ++ f ∷ []) fs ≡ followed front (field_before f fs)
followed_push [] None fs = refl
followed_push [] (Some v) fs = refl
followed_push (None ∷ vs) f fs = ap value.absent (followed_push vs f fs)
followed_push (Some w ∷ vs) f fs = ap (value.present w) (followed_push vs f fs)

pub followed_all : (front : List (Option AbstractValue)) → followed front value.no_fields ≡ fields_of front
followed_all [] = refl
followed_all (None ∷ vs) = ap value.absent (followed_all vs)
followed_all (Some w ∷ vs) = ap (value.present w) (followed_all vs)

pub regroup : (front : List (Option AbstractValue)) (f : Option AbstractValue) (read : Result Fields AbstractBreach) → with_front front (read >>= λ fs. Ok (field_before f fs)) ≡ with_front (front ++ f ∷ []) read
regroup front f (Ok fs) = ap (λ (fs : Fields). Ok fs) (sym (followed_push front f fs))
regroup front f (Err b) = refl

pub nothing_before : (read : Result Fields AbstractBreach) → with_front [] read ≡ read
nothing_before (Ok fs) = refl
nothing_before (Err b) = refl

abbrev pub part_read : Comp → ℕ → ℕ → List ℕ → Result (Option AbstractValue × ℕ) AbstractBreach
part_read comp i at rest = component_at i (presence_view (out-Comp comp).presence) (λ tag. begins_with (type_view (out-Comp comp).ty) tag) (element_at (type_view (out-Comp comp).ty)) at rest

pub goes_on : (comps : List Comp) (i : ℕ) (comp : Comp) (front : List (Option AbstractValue)) (at n : ℕ) (rest : List ℕ) (f : Option AbstractValue) (total : Result Fields AbstractBreach)
    → i < length comps → comp ≡ get_or comps i comp → part_read comp i at rest ≡ Ok (f, n)
    → with_front front (fields_at i (left comps i) at rest) ≡ total → with_front (front ++ f ∷ []) (fields_at (i + 1) (left comps (i + 1)) (at + n) (drop n rest)) ≡ total
unfolding fields_at
goes_on comps i comp front at n rest f total lt is read so_far =
    let next : with_front front (fields_at i (left comps i) at rest) ≡ with_front front (fields_at (suc i) (left comps (i + 1)) (at + n) (drop n rest) >>= λ fs. Ok (field_before f fs)) =
    ap (λ (cs : Components). with_front front (fields_at i cs at rest)) (left_is comps i comp lt is)
    ∙ ap (λ (r : Result (Option AbstractValue × ℕ) AbstractBreach). with_front front (r >>= λ x. fields_at (suc i) (left comps (i + 1)) (at + x.1) (drop x.1 rest) >>= λ fs. Ok (field_before x.0 fs))) read in
    ap (λ (k : ℕ). with_front (front ++ f ∷ []) (fields_at k (left comps (i + 1)) (at + n) (drop n rest))) (add-one i)
    ∙ sym (regroup front f (fields_at (suc i) (left comps (i + 1)) (at + n) (drop n rest))) ∙ sym next ∙ so_far

pub refused : (b : Option AbstractBreach) (comps : List Comp) (i : ℕ) (comp : Comp) (front : List (Option AbstractValue)) (at : ℕ) (rest : List ℕ) (total : Result Fields AbstractBreach)
    → i < length comps → comp ≡ get_or comps i comp → Refuses b (part_read comp i at rest) → with_front front (fields_at i (left comps i) at rest) ≡ total → Refuses b total
unfolding fields_at
refused None comps i comp front at rest total lt is read so_far = tt
refused (Some b) comps i comp front at rest total lt is read so_far =
    sym so_far
    ∙ ap (λ (cs : Components). with_front front (fields_at i cs at rest)) (left_is comps i comp lt is)
    ∙ ap (λ (r : Result (Option AbstractValue × ℕ) AbstractBreach). with_front front (r >>= λ x. fields_at (suc i) (left comps (i + 1)) (at + x.1) (drop x.1 rest) >>= λ fs. Ok (field_before x.0 fs))) read

pub end_refused : (b : Option AbstractBreach) (comps : List Comp) (i : ℕ) (front : List (Option AbstractValue)) (at : ℕ) (rest : List ℕ) (total : Result Fields AbstractBreach)
    → length comps ≤ i → Refuses b (end_at at rest) → with_front front (fields_at i (left comps i) at rest) ≡ total → Refuses b total
unfolding fields_at
end_refused None comps i front at rest total le read so_far = tt
end_refused (Some b) comps i front at rest total le read so_far =
    sym so_far ∙ ap (λ (cs : Components). with_front front (fields_at i cs at rest)) (none_left comps i le) ∙ ap (with_front front) read

pub is_done : (comps : List Comp) (i : ℕ) (front : List (Option AbstractValue)) (at : ℕ) (rest : List ℕ) (total : Result Fields AbstractBreach)
    → length comps ≤ i → end_at at rest ≡ Ok value.no_fields → with_front front (fields_at i (left comps i) at rest) ≡ total → total ≡ Ok (fields_of front)
unfolding fields_at
is_done comps i front at rest total le read so_far =
    sym so_far ∙ ap (λ (cs : Components). with_front front (fields_at i cs at rest)) (none_left comps i le) ∙ ap (with_front front) read ∙ ap (λ (fs : Fields). Ok fs) (followed_all front)

-- ---- what is asked of the components

pub left_proper : (comps : List Comp) (i : ℕ) (comp : Comp) → i < length comps → comp ≡ get_or comps i comp → IsTrue (are_proper (left comps i)) → deepest (left comps i) ≤ 31
    → IsTrue (is_proper (type_view (out-Comp comp).ty)) × (nesting (type_view (out-Comp comp).ty) ≤ 31) × IsTrue (are_proper (left comps (i + 1))) × (deepest (left comps (i + 1)) ≤ 31)
left_proper comps i comp lt is proper depth =
    let e = left_is comps i comp lt is in
    let l = and_parts (is_proper (type_view (out-Comp comp).ty) && is_proper_presence (type_view (out-Comp comp).ty) (presence_view (out-Comp comp).presence)) (are_proper (left comps (i + 1))) (rw e at proper) in
    let m = and_parts (is_proper (type_view (out-Comp comp).ty)) (is_proper_presence (type_view (out-Comp comp).ty) (presence_view (out-Comp comp).presence)) l.0 in
    let d : max (nesting (type_view (out-Comp comp).ty)) (deepest (left comps (i + 1))) ≤ 31 = rw e at depth in
    (m.0, omega (arith, d, le-max_left (nesting (type_view (out-Comp comp).ty)) (deepest (left comps (i + 1)))), l.1, omega (arith, d, le-max_right (nesting (type_view (out-Comp comp).ty)) (deepest (left comps (i + 1)))))
