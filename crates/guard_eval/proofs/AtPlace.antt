-- Components, alternatives and fields at a place.
use Rattle.std.proofs.Common.{◌≡◌, refl, sym, ap, ◌∙◌, ℕ, zero, suc, ◌<◌, ◌≤◌, length, get_or, List, [], ◌∷◌, map, Bool, ◌⊎◌, inl, inr, Option, Some, None, Bor, MatchOption, ◌+◌, drop, arith}
use Rattle.std.specs.List.{HoldsAt}
use Rattle.std.proofs.lemmas.List.{at_drop_more}
use Rattle.guard_model.specs.AbstractType.{AbstractType, AbstractKind, Components, Constraint, Element, Parts, no_components, component, type_of}
use Rattle.guard_model.specs.AbstractValue.{AbstractValue, fields_of}
use Rattle.guard_model.specs.TypeView.{OneComponent, OnePart, type_view, kind_view, component_view, components_of, constraint_view, parts_of, part_before, part_view, element_view, rule_step, kind_step, comp_step, cons_step, part_step as step_of_part, ty_step}
use Rattle.guard_model.specs.declared.ty.Part.{Part}
use Rattle.guard_model.specs.declared.ty.Cons.{Cons}
use Rattle.std.specs.Arc.{arc_value}
use Rattle.std.specs.Global.{Global}
use Rattle.std.specs.declared.sync.Arc.{Arc}
use Rattle.guard_model.specs.AbstractType as type
use Rattle.guard_model.specs.declared.ty.Rule.{Each}
use Rattle.guard_model.specs.declared.ty.Rule.TheVariants.{rolls-Each}
use Rattle.guard_model.specs.declared.ty.Kind.TheFolds.{fold_out-Cons, fold-roll-Rule}
use Rattle.guard_model.specs.declared.ty.Kind.TheOpen.{Rule-F}
use Rattle.guard_model.specs.ValueView.{slot_view, fields_view}
use Rattle.guard_model.specs.Components.{component_at, components_in}
use Rattle.guard_model.specs.declared.ty.Comp.{Comp}
use Rattle.guard_model.specs.declared.ty.Ty.{Ty}
use Rattle.guard_model.specs.declared.ty.Kind.TheViews.{out-Ty, out-Comp, out-Cons}
use Rattle.guard_model.specs.declared.value.Value.{Value}
use Rattle.guard_model.proofs.TypeViews.{type_view_is, component_view_is}
use Rattle.guard_model.specs.declared.site.Site.{Site}
use Rattle.guard_model.specs.declared.ty.Word.{Word}
use Rattle.guard_model.specs.Kinds.{kind_of}
use Rattle.guard_eval.specs.Presence.{field_at, is_listed, is_there}
use Rattle.guard_eval.specs.Violations.{AbstractViolation}
use Rattle.guard_eval.specs.inside.Failures.{failure, failure_from, failure_of_chosen, first_part_failure, part_failure, placing_failure}
use Rattle.std.specs.Option.{option_or}
use Rattle.std.specs.Prelude.{nat_eq, ◌||◌}
use Rattle.std.proofs.lemmas.Option.{same_Some}

pub kind_of_view : (ty : Ty) → kind_of (type_view ty) ≡ kind_view (out-Ty ty).kind
kind_of_view ty = ap kind_of (type_view_is ty)

pub kind_of_component : (comp : Comp) → kind_of (component_view comp).ty ≡ kind_view (out-Ty (out-Comp comp).ty).kind
kind_of_component comp = ap (λ (c : OneComponent). kind_of c.ty) (component_view_is comp) ∙ kind_of_view (out-Comp comp).ty

-- ---- fields

-- a slot of the code, which holds a component's value or nothing
abbrev Slot : Type 0
Slot = Arc (Option Value) Global

field_first : (o : Option AbstractValue) (os : List (Option AbstractValue)) → field_at zero (fields_of (o ∷ os)) ≡ o
field_first None os = refl
field_first (Some v) os = refl

field_later : (o : Option AbstractValue) (os : List (Option AbstractValue)) (i : ℕ) → field_at (suc i) (fields_of (o ∷ os)) ≡ field_at i (fields_of os)
field_later None os i = refl
field_later (Some v) os i = refl

pub field_is : (fs : List Slot) (i : ℕ) (f : Slot) → i < length fs → f ≡ get_or fs i f → field_at i (fields_view fs) ≡ slot_view f
field_is [] i f lt e = absurd (omega arith)
field_is (s ∷ fs) zero f lt e = field_first (slot_view s) (map slot_view fs) ∙ sym (ap slot_view e)
field_is (s ∷ fs) (suc i) f lt e = field_later (slot_view s) (map slot_view fs) i ∙ field_is fs i f (omega arith) e

pub field_past : (fs : List Slot) (i : ℕ) → length fs ≤ i → field_at i (fields_view fs) ≡ None
field_past [] i le = refl
field_past (s ∷ fs) zero le = absurd (omega arith)
field_past (s ∷ fs) (suc i) le = field_later (slot_view s) (map slot_view fs) i ∙ field_past fs i (omega arith)

-- as `get` finds them
pub field_found : (found : Option (Bor Slot)) (fs : List Slot) (i : ℕ) (f : Bor Slot)
    → MatchOption found (length fs ≤ i) (λ c. (i < length fs) × HoldsAt (λ d. c.now ≡ d) fs i) → found ≡ Some f → field_at i (fields_view fs) ≡ slot_view f.now
field_found None fs i f h is = absurd cc
field_found (Some g) fs i f h is = field_is fs i g.now h.0 (h.1 g.now) ∙ ap (λ (x : Bor Slot). slot_view x.now) (same_Some _ _ is)

pub field_missing : (found : Option (Bor Slot)) (fs : List Slot) (i : ℕ)
    → MatchOption found (length fs ≤ i) (λ c. (i < length fs) × HoldsAt (λ d. c.now ≡ d) fs i) → found ≡ None → field_at i (fields_view fs) ≡ None
field_missing None fs i h is = field_past fs i h
field_missing (Some g) fs i h is = absurd cc

-- ---- the chosen alternative

pub chosen_failure : (cs : Components) (i : ℕ) (c : OneComponent) (v : AbstractValue) → component_at i cs ≡ Some c → failure_of_chosen cs i v ≡ failure c.ty v
chosen_failure no_components i c v e = absurd cc
chosen_failure (component name t presence cs) zero c v e = ap (λ (c : OneComponent). failure c.ty v) (same_Some _ _ e)
chosen_failure (component name t presence cs) (suc i) c v e = chosen_failure cs i c v e

pub no_failure : (cs : Components) (i : ℕ) (v : AbstractValue) → component_at i cs ≡ None → failure_of_chosen cs i v ≡ None
no_failure no_components i v e = refl
no_failure (component name t presence cs) zero v e = absurd cc
no_failure (component name t presence cs) (suc i) v e = no_failure cs i v e

-- ---- no component left, or no field

pub failure_at_end : (i : ℕ) (cs : List Comp) (fs : List Slot) → (length cs ≡ 0) ⊎ (length fs ≡ 0) → failure_from i (components_of (map component_view cs)) (fields_view fs) ≡ None
failure_at_end i [] fs e = refl
failure_at_end i (c ∷ cs) [] e = refl
failure_at_end i (c ∷ cs) (f ∷ fs) e = absurd (elim e [ inl h ↦ omega (arith, h) | inr h ↦ omega (arith, h) ])

-- ---- parts of WITH COMPONENTS, with a constraint or without

or_none : (w : Option AbstractViolation) → w ≡ option_or w None
or_none None = refl
or_none (Some x) = refl

part_step_of : (site : Site) (place : ℕ) (word : Option Word) (within : Option Constraint) (ps : Parts) (partial : Bool) (kind : AbstractKind) (v : AbstractValue)
    → first_part_failure (part_before site place within word ps) partial kind v
    ≡ option_or (part_failure (record { site = site; place = place; within = within; word = word }) partial kind v) (first_part_failure ps partial kind v)
part_step_of site place word None ps partial kind v =
    ap (λ w. option_or w (first_part_failure ps partial kind v)) (or_none (placing_failure partial site place (component_at place (components_in kind)) word (is_there place v)))
part_step_of site place word (Some c) ps partial kind v = refl

pub part_step : (p : OnePart) (ps : Parts) (partial : Bool) (kind : AbstractKind) (v : AbstractValue)
    → first_part_failure (part_before p.site p.place p.within p.word ps) partial kind v ≡ option_or (part_failure p partial kind v) (first_part_failure ps partial kind v)
part_step p ps partial kind v = part_step_of p.site p.place p.word p.within ps partial kind v

listed_of : (i : ℕ) (site : Site) (place : ℕ) (word : Option Word) (within : Option Constraint) (ps : Parts) → is_listed i (part_before site place within word ps) ≡ (nat_eq i place || is_listed i ps)
listed_of i site place word None ps = refl
listed_of i site place word (Some c) ps = refl

pub listed_step : (i : ℕ) (p : OnePart) (ps : Parts) → is_listed i (part_before p.site p.place p.within p.word ps) ≡ (nat_eq i p.place || is_listed i ps)
listed_step i p ps = listed_of i p.site p.place p.word p.within ps

pub parts_next : (ps : List Part) (i : ℕ) (p : Part) → i < length ps → p ≡ get_or ps i p → (partial : Bool) (kind : AbstractKind) (v : AbstractValue)
    → first_part_failure (parts_of (map part_view (drop i ps))) partial kind v
    ≡ option_or (part_failure (part_view p) partial kind v) (first_part_failure (parts_of (map part_view (drop (i + 1) ps))) partial kind v)
parts_next ps i p lt is partial kind v =
    at_drop_more (λ xs. first_part_failure (parts_of (map part_view xs)) partial kind v) ps i p lt
    ∙ ap (λ (x : Part). first_part_failure (parts_of (map part_view (x ∷ drop (i + 1) ps))) partial kind v) (sym is)
    ∙ part_step (part_view p) (parts_of (map part_view (drop (i + 1) ps))) partial kind v

pub listed_next : (ps : List Part) (i : ℕ) (p : Part) → i < length ps → p ≡ get_or ps i p → (at : ℕ)
    → is_listed at (parts_of (map part_view (drop i ps))) ≡ (nat_eq at (part_view p).place || is_listed at (parts_of (map part_view (drop (i + 1) ps))))
listed_next ps i p lt is at =
    at_drop_more (λ xs. is_listed at (parts_of (map part_view xs))) ps i p lt
    ∙ ap (λ (x : Part). is_listed at (parts_of (map part_view (x ∷ drop (i + 1) ps)))) (sym is)
    ∙ listed_step at (part_view p) (parts_of (map part_view (drop (i + 1) ps)))

-- ---- WITH COMPONENT

pub constraint_view_is : (c : Cons) → constraint_view c ≡ type.at (out-Cons c).site (element_view (out-Cons c).rule)
constraint_view_is c = fold_out-Cons AbstractKind Element OneComponent Constraint OnePart AbstractType kind_step rule_step comp_step cons_step step_of_part ty_step c

pub element_view_each : (b : Arc Cons Global) → element_view (Each b) ≡ type.with_component (constraint_view (arc_value b))
element_view_each b = ap element_view (sym (rolls-Each b)) ∙ fold-roll-Rule AbstractKind Element OneComponent Constraint OnePart AbstractType kind_step rule_step comp_step cons_step step_of_part ty_step (Rule-F.Each b)
