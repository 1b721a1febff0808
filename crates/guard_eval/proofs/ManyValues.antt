-- What many values keep, by their columns and their elements.
use Rattle.std.proofs.Common.{◌≡◌, ℕ, zero, suc, ◌+◌, ◌<◌, ◌≤◌, refl, sym, ap, ◌∙◌, Bool, true, false, ◌&&◌, List, [], ◌∷◌, ◌++◌, map, length, drop, get_or, Option, Some, None, IsTrue, Bor, Global, eq-eqb, append_assoc, arith}
use Rattle.std.specs.List.{list_all}
use Rattle.std.specs.Option.{is_none, option_or}
use Rattle.std.specs.Prelude.{if◌then◌else◌}
use Rattle.std.proofs.lemmas.Bool.{and_parts, ne_eqb}
use Rattle.std.proofs.lemmas.List.Folds.{list_all-append}
use Rattle.guard_model.specs.AbstractType as type
use Rattle.guard_model.specs.AbstractType.{AbstractType, AbstractKind, AbstractPresence, Components, Constraints, type_of, no_components, component, no_constraints, constraint}
use Rattle.guard_model.specs.AbstractValue as value
use Rattle.guard_model.specs.AbstractValue.{AbstractValue, Fields, Items, items_of}
use Rattle.guard_model.specs.Kinds.{kind_of}
use Rattle.guard_model.specs.declared.site.Step.{Step}
use Rattle.guard_model.specs.declared.site.Step.TheVariants.{Component, Element}
use Rattle.guard_eval.specs.Presence.{field_at, if_there}
use Rattle.guard_eval.specs.Violations.{AbstractViolation, violation}
use Rattle.guard_eval.specs.inside.Failures.{failure, failure_inside, failure_from, failure_of_chosen, failure_among, first_failure, under}
use Rattle.guard_eval.specs.inside.Together.{values_view, keeps, keeps_own, keeps_inside, part_of, with_part, column, parts_keep, listed, elements_in, elements_of, is_free, has_free_parts, are_free}
use Rattle.std.specs.Arc.{arc_slice_items}
use Rattle.std.specs.declared.sync.ArcSlice.{ArcSlice}
use Rattle.std.proofs.lemmas.List.{at_drop_more}
use Rattle.guard_model.specs.TypeView.{type_view}
use Rattle.guard_model.specs.ValueView.{value_view, items_view}
use Rattle.guard_model.specs.declared.value.Value.{Value}
use Rattle.guard_model.specs.declared.value.Value.TheVariants as variant
use Rattle.guard_model.proofs.ValueViews.{value_view_items}
use Rattle.guard_model.specs.declared.ty.Comp.{Comp}
use Rattle.guard_model.specs.declared.ty.Kind.TheViews.{out-Comp}
use Rattle.guard_model.proofs.Components.{left, left_is, none_left}
use Rattle.guard_der.specs.Fits.{fits}
use Rattle.guard_eval.specs.Member.{is_member}
use Rattle.guard_eval.proofs.Bases.{KeepsBase}
use Rattle.guard_eval.proofs.Law.{clear_either, type_clear}
use Rattle.guard_eval.proofs.Walk.{walked, seen_clear}

-- ---- tests of all

pub all_alike : {X : Type 0} (p q : X → Bool) → ((x : X) → p x ≡ q x) → (xs : List X) → list_all p xs ≡ list_all q xs
all_alike p q same [] = refl
all_alike p q same (x ∷ xs) = ap (λ (b : Bool). b && list_all p xs) (same x) ∙ ap (λ (b : Bool). q x && b) (all_alike p q same xs)

four : (a b c d : Bool) → ((a && b) && (c && d)) ≡ ((a && c) && (b && d))
four true true c d = refl
four true false true d = refl
four true false false d = refl
four false b c d = refl

pub all_both : {X : Type 0} (p q : X → Bool) (xs : List X) → list_all (λ x. p x && q x) xs ≡ (list_all p xs && list_all q xs)
all_both p q [] = refl
all_both p q (x ∷ xs) = ap (λ (b : Bool). (p x && q x) && b) (all_both p q xs) ∙ four (p x) (q x) (list_all p xs) (list_all q xs)

pub all_true : {X : Type 0} (p : X → Bool) → ((x : X) → p x ≡ true) → (xs : List X) → list_all p xs ≡ true
all_true p passes [] = refl
all_true p passes (x ∷ xs) = ap (λ (b : Bool). b && list_all p xs) (passes x) ∙ all_true p passes xs

-- ---- a type: its own constraints and its parts

keeps_both : (t : AbstractType) (v : AbstractValue) → keeps t v ≡ (keeps_own t v && keeps_inside (kind_of t) v)
keeps_both (type_of tags kind cons) v = clear_either (first_failure cons kind v) (failure_inside kind v)

pub all_keep_both : (t : AbstractType) (vs : List AbstractValue) → list_all (keeps t) vs ≡ (list_all (keeps_own t) vs && list_all (keeps_inside (kind_of t)) vs)
all_keep_both t vs = all_alike (keeps t) (λ v. keeps_own t v && keeps_inside (kind_of t) v) (keeps_both t) vs ∙ all_both (keeps_own t) (keeps_inside (kind_of t)) vs

-- ---- types that constrain nothing

nothing_before : (step : Step) (v w : Option AbstractViolation) → v ≡ None → w ≡ None → option_or (under step v) w ≡ None
nothing_before step None w e f = f
nothing_before step (Some v) w e f = absurd cc

none_among : (find : AbstractValue → Option AbstractViolation) → ((v : AbstractValue) → find v ≡ None) → (i : ℕ) (vs : Items) → failure_among find i vs ≡ None
none_among find none i value.no_items = refl
none_among find none i (value.item v vs) = nothing_before (Element i) (find v) _ (none v) (none_among find none (suc i) vs)

mutual
  fails_nothing : (t : AbstractType) → IsTrue (is_free t) → (v : AbstractValue) → failure t v ≡ None
  fails_nothing (type_of tags kind no_constraints) free v = nothing_inside kind free v
  fails_nothing (type_of tags kind (constraint c cs)) free v = absurd cc

  nothing_inside : (kind : AbstractKind) → IsTrue (has_free_parts kind) → (v : AbstractValue) → failure_inside kind v ≡ None
  nothing_inside (type.sequence cs) free (value.fields fs) = nothing_from 0 cs free fs
  nothing_inside (type.set cs) free (value.fields fs) = nothing_from 0 cs free fs
  nothing_inside (type.choice cs) free (value.chosen i v) = ap (under (Component i)) (nothing_chosen cs free i v)
  nothing_inside (type.sequence_of t) free (value.items vs) = none_among (failure t) (fails_nothing t free) 0 vs
  nothing_inside (type.set_of t) free (value.items vs) = none_among (failure t) (fails_nothing t free) 0 vs
  nothing_inside _ free v = refl

  nothing_from : (i : ℕ) (cs : Components) → IsTrue (are_free cs) → (fs : Fields) → failure_from i cs fs ≡ None
  nothing_from i no_components free fs = refl
  nothing_from i (component name t presence cs) free value.no_fields = refl
  nothing_from i (component name t presence cs) free (value.absent fs) = nothing_from (suc i) cs (and_parts (is_free t) (are_free cs) free).1 fs
  nothing_from i (component name t presence cs) free (value.present v fs) =
      let both = and_parts (is_free t) (are_free cs) free in
      nothing_before (Component i) (failure t v) _ (fails_nothing t both.0 v) (nothing_from (suc i) cs both.1 fs)

  nothing_chosen : (cs : Components) → IsTrue (are_free cs) → (i : ℕ) (v : AbstractValue) → failure_of_chosen cs i v ≡ None
  nothing_chosen no_components free i v = refl
  nothing_chosen (component name t presence cs) free zero v = fails_nothing t (and_parts (is_free t) (are_free cs) free).0 v
  nothing_chosen (component name t presence cs) free (suc i) v = nothing_chosen cs (and_parts (is_free t) (are_free cs) free).1 i v

pub free_inside : (kind : AbstractKind) → IsTrue (has_free_parts kind) → (vs : List AbstractValue) → list_all (keeps_inside kind) vs ≡ true
free_inside kind free vs = all_true (keeps_inside kind) (λ v. ap is_none (nothing_inside kind free v)) vs

pub free_keeps : (t : AbstractType) → IsTrue (is_free t) → (vs : List AbstractValue) → list_all (keeps t) vs ≡ true
free_keeps t free vs = all_true (keeps t) (λ v. ap is_none (fails_nothing t free v)) vs

-- ---- fields from a place on

abbrev past : ℕ → Fields → Fields
past zero fs = fs
past (suc i) value.no_fields = value.no_fields
past (suc i) (value.present v fs) = past i fs
past (suc i) (value.absent fs) = past i fs

abbrev first_of : Fields → Option AbstractValue
first_of value.no_fields = None
first_of (value.present v fs) = Some v
first_of (value.absent fs) = None

abbrev rest_of : Fields → Fields
rest_of value.no_fields = value.no_fields
rest_of (value.present v fs) = fs
rest_of (value.absent fs) = fs

field_first : (i : ℕ) (fs : Fields) → field_at i fs ≡ first_of (past i fs)
field_first zero value.no_fields = refl
field_first zero (value.present v fs) = refl
field_first zero (value.absent fs) = refl
field_first (suc i) value.no_fields = refl
field_first (suc i) (value.present v fs) = field_first i fs
field_first (suc i) (value.absent fs) = field_first i fs

past_next : (i : ℕ) (fs : Fields) → past (suc i) fs ≡ rest_of (past i fs)
past_next zero value.no_fields = refl
past_next zero (value.present v fs) = refl
past_next zero (value.absent fs) = refl
past_next (suc i) value.no_fields = refl
past_next (suc i) (value.present v fs) = past_next i fs
past_next (suc i) (value.absent fs) = past_next i fs

no_more : (i : ℕ) (cs : Components) → failure_from i cs value.no_fields ≡ None
no_more i no_components = refl
no_more i (component name t presence cs) = refl

clear_under : (step : Step) (w : Option AbstractViolation) → is_none (under step w) ≡ is_none w
clear_under step None = refl
clear_under step (Some w) = refl

from_one : (i : ℕ) (name : List ℕ) (t : AbstractType) (presence : AbstractPresence) (cs : Components) (fs : Fields)
    → is_none (failure_from i (component name t presence cs) fs) ≡ (if_there (keeps t) (first_of fs) && is_none (failure_from (suc i) cs (rest_of fs)))
from_one i name t presence cs value.no_fields = sym (ap is_none (no_more (suc i) cs))
from_one i name t presence cs (value.absent fs) = refl
from_one i name t presence cs (value.present v fs) =
    clear_either (under (Component i) (failure t v)) (failure_from (suc i) cs fs) ∙ ap (λ (b : Bool). b && is_none (failure_from (suc i) cs fs)) (clear_under (Component i) (failure t v))

from_keeps : (i : ℕ) (cs : Components) (fs : Fields) → is_none (failure_from i cs (past i fs)) ≡ parts_keep false i cs (value.fields fs)
from_keeps i no_components fs = refl
from_keeps i (component name t presence cs) fs =
    from_one i name t presence cs (past i fs)
    ∙ ap (λ (o : Option AbstractValue). if_there (keeps t) o && is_none (failure_from (suc i) cs (rest_of (past i fs)))) (sym (field_first i fs))
    ∙ ap (λ (r : Fields). if_there (keeps t) (field_at i fs) && is_none (failure_from (suc i) cs r)) (sym (past_next i fs))
    ∙ ap (λ (b : Bool). if_there (keeps t) (field_at i fs) && b) (from_keeps (suc i) cs fs)

-- ---- the chosen alternative

and_true : (a : Bool) → (a && true) ≡ a
and_true true = refl
and_true false = refl

later : (cs : Components) (i j : ℕ) (v : AbstractValue) → j < i → parts_keep true i cs (value.chosen j v) ≡ true
later no_components i j v less = refl
later (component name t presence cs) i j v less =
    ap (λ (b : Bool). if_there (keeps t) (if b then Some v else None) && parts_keep true (suc i) cs (value.chosen j v)) (ne_eqb i j (λ e. absurd (omega (arith, e))))
    ∙ later cs (suc i) j v (omega arith)

chosen_keeps : (cs : Components) (i j n : ℕ) (v : AbstractValue) → n ≡ i + j → is_none (failure_of_chosen cs j v) ≡ parts_keep true i cs (value.chosen n v)
chosen_keeps no_components i j n v e = refl
chosen_keeps (component name t presence cs) i zero n v e =
    sym (ap (λ (b : Bool). if_there (keeps t) (if b then Some v else None) && parts_keep true (suc i) cs (value.chosen n v)) (eq-eqb i n (omega (arith, e)))
    ∙ ap (λ (b : Bool). keeps t v && b) (later cs (suc i) n v (omega (arith, e))) ∙ and_true (keeps t v))
chosen_keeps (component name t presence cs) i (suc j) n v e =
    chosen_keeps cs (suc i) j n v (omega (arith, e))
    ∙ sym (ap (λ (b : Bool). if_there (keeps t) (if b then Some v else None) && parts_keep true (suc i) cs (value.chosen n v)) (ne_eqb i n (λ d. absurd (omega (arith, e, d)))))

-- ---- kinds with parts, of any values

apart : (of_choice : Bool) (v : AbstractValue) → ((k : ℕ) → part_of of_choice k v ≡ None) → (i : ℕ) (cs : Components) → true ≡ parts_keep of_choice i cs v
apart of_choice v none i no_components = refl
apart of_choice v none i (component name t presence cs) =
    apart of_choice v none (suc i) cs ∙ ap (λ (o : Option AbstractValue). if_there (keeps t) o && parts_keep of_choice (suc i) cs v) (sym (none i))

sequence_keeps : (cs : Components) (v : AbstractValue) → keeps_inside (type.sequence cs) v ≡ parts_keep false 0 cs v
sequence_keeps cs (value.fields fs) = from_keeps 0 cs fs
sequence_keeps cs v = apart false v (λ k. refl) 0 cs

set_keeps : (cs : Components) (v : AbstractValue) → keeps_inside (type.set cs) v ≡ parts_keep false 0 cs v
set_keeps cs (value.fields fs) = from_keeps 0 cs fs
set_keeps cs v = apart false v (λ k. refl) 0 cs

choice_keeps : (cs : Components) (v : AbstractValue) → keeps_inside (type.choice cs) v ≡ parts_keep true 0 cs v
choice_keeps cs (value.chosen i v) = clear_under (Component i) (failure_of_chosen cs i v) ∙ chosen_keeps cs 0 i i v (omega arith)
choice_keeps cs v = apart true v (λ k. refl) 0 cs

pub all_sequences : (cs : Components) (vs : List AbstractValue) → list_all (parts_keep false 0 cs) vs ≡ list_all (keeps_inside (type.sequence cs)) vs
all_sequences cs vs = sym (all_alike (keeps_inside (type.sequence cs)) (parts_keep false 0 cs) (sequence_keeps cs) vs)

pub all_sets : (cs : Components) (vs : List AbstractValue) → list_all (parts_keep false 0 cs) vs ≡ list_all (keeps_inside (type.set cs)) vs
all_sets cs vs = sym (all_alike (keeps_inside (type.set cs)) (parts_keep false 0 cs) (set_keeps cs) vs)

pub all_choices : (cs : Components) (vs : List AbstractValue) → list_all (parts_keep true 0 cs) vs ≡ list_all (keeps_inside (type.choice cs)) vs
all_choices cs vs = sym (all_alike (keeps_inside (type.choice cs)) (parts_keep true 0 cs) (choice_keeps cs) vs)

-- ---- columns

pub with_part_all : (p : AbstractValue → Bool) (o : Option AbstractValue) (vs : List AbstractValue) → list_all p (with_part o vs) ≡ (if_there p o && list_all p vs)
with_part_all p None vs = refl
with_part_all p (Some v) vs = refl

column_all : (p : AbstractValue → Bool) (of_choice : Bool) (i : ℕ) (vs : List AbstractValue) → list_all p (column of_choice i vs) ≡ list_all (λ v. if_there p (part_of of_choice i v)) vs
column_all p of_choice i [] = refl
column_all p of_choice i (v ∷ vs) =
    with_part_all p (part_of of_choice i v) (column of_choice i vs) ∙ ap (λ (b : Bool). if_there p (part_of of_choice i v) && b) (column_all p of_choice i vs)

pub parts_next : (of_choice : Bool) (comps : List Comp) (i : ℕ) (comp : Comp) → i < length comps → comp ≡ get_or comps i comp → (vs : List AbstractValue)
    → list_all (parts_keep of_choice i (left comps i)) vs
    ≡ (list_all (keeps (type_view (out-Comp comp).ty)) (column of_choice i vs) && list_all (parts_keep of_choice (i + 1) (left comps (i + 1))) vs)
parts_next of_choice comps i comp lt is vs =
    let t = type_view (out-Comp comp).ty in
    let one_more : suc i ≡ i + 1 = omega arith in
    ap (λ (cs : Components). list_all (parts_keep of_choice i cs) vs) (left_is comps i comp lt is)
    ∙ all_both (λ v. if_there (keeps t) (part_of of_choice i v)) (parts_keep of_choice (suc i) (left comps (i + 1))) vs
    ∙ ap (λ (b : Bool). b && list_all (parts_keep of_choice (suc i) (left comps (i + 1))) vs) (sym (column_all (keeps t) of_choice i vs))
    ∙ ap (λ (k : ℕ). list_all (keeps t) (column of_choice i vs) && list_all (parts_keep of_choice k (left comps (i + 1))) vs) one_more

pub parts_end : (of_choice : Bool) (comps : List Comp) (i : ℕ) → length comps ≤ i → (vs : List AbstractValue) → list_all (parts_keep of_choice i (left comps i)) vs ≡ true
parts_end of_choice comps i le vs =
    ap (λ (cs : Components). list_all (parts_keep of_choice i cs) vs) (none_left comps i le) ∙ all_true (λ v. true) (λ v. refl) vs

-- ---- elements

pub among_all : (find : AbstractValue → Option AbstractViolation) (i : ℕ) (vs : Items) → is_none (failure_among find i vs) ≡ list_all (λ v. is_none (find v)) (listed vs)
among_all find i value.no_items = refl
among_all find i (value.item v vs) =
    clear_either (under (Element i) (find v)) (failure_among find (suc i) vs)
    ∙ ap (λ (b : Bool). b && is_none (failure_among find (suc i) vs)) (clear_under (Element i) (find v)) ∙ ap (λ (b : Bool). is_none (find v) && b) (among_all find (suc i) vs)

pub elements_all : (p : AbstractValue → Bool) (vs : List AbstractValue) → list_all p (elements_of vs) ≡ list_all (λ v. list_all p (elements_in v)) vs
elements_all p [] = refl
elements_all p (v ∷ vs) = list_all-append p (elements_in v) (elements_of vs) ∙ ap (λ (b : Bool). list_all p (elements_in v) && b) (elements_all p vs)

sequence_of_keeps : (t : AbstractType) (v : AbstractValue) → list_all (keeps t) (elements_in v) ≡ keeps_inside (type.sequence_of t) v
sequence_of_keeps t (value.items vs) = sym (among_all (failure t) 0 vs)
sequence_of_keeps t v = refl

set_of_keeps : (t : AbstractType) (v : AbstractValue) → list_all (keeps t) (elements_in v) ≡ keeps_inside (type.set_of t) v
set_of_keeps t (value.items vs) = sym (among_all (failure t) 0 vs)
set_of_keeps t v = refl

pub all_sequences_of : (t : AbstractType) (vs : List AbstractValue) → list_all (keeps t) (elements_of vs) ≡ list_all (keeps_inside (type.sequence_of t)) vs
all_sequences_of t vs = elements_all (keeps t) vs ∙ all_alike (λ v. list_all (keeps t) (elements_in v)) (keeps_inside (type.sequence_of t)) (sequence_of_keeps t) vs

pub all_sets_of : (t : AbstractType) (vs : List AbstractValue) → list_all (keeps t) (elements_of vs) ≡ list_all (keeps_inside (type.set_of t)) vs
all_sets_of t vs = elements_all (keeps t) vs ∙ all_alike (λ v. list_all (keeps t) (elements_in v)) (keeps_inside (type.set_of t)) (set_of_keeps t) vs

pub listed_is : (vs : List AbstractValue) → listed (items_of vs) ≡ vs
listed_is [] = refl
listed_is (v ∷ vs) = ap (λ (rest : List AbstractValue). v ∷ rest) (listed_is vs)

-- one value more, with these elements
pub elements_next : (values : List (Bor Value)) (i : ℕ) (v : Bor Value) (before after more whole : List AbstractValue) → i < length values → v ≡ get_or values i v
    → elements_in (value_view v.now) ≡ more → after ≡ before ++ more → before ++ elements_of (values_view (drop i values)) ≡ whole → after ++ elements_of (values_view (drop (i + 1) values)) ≡ whole
elements_next values i v before after more whole lt is has added so_far =
    let rest = elements_of (values_view (drop (i + 1) values)) in
    ap (λ (xs : List AbstractValue). xs ++ rest) added ∙ append_assoc before more rest ∙ ap (λ (xs : List AbstractValue). before ++ (xs ++ rest)) (sym has)
    ∙ ap (λ (x : Bor Value). before ++ (elements_in (value_view x.now) ++ rest)) is
    ∙ ap (λ (xs : List AbstractValue). before ++ xs) (sym (at_drop_more (λ (xs : List (Bor Value)). elements_of (values_view xs)) values i v lt)) ∙ so_far

pub item_elements : (items : ArcSlice Value Global) → map value_view (arc_slice_items items) ≡ elements_in (value_view (variant.Items items))
item_elements items = sym (ap elements_in (value_view_items items) ∙ listed_is (map value_view (arc_slice_items items)))

pub items_walked : (t : AbstractType) (items : List Value) (v : AbstractValue) → map value_view items ≡ elements_in v → is_none (failure_among (failure t) 0 (items_view items)) ≡ list_all (keeps t) (elements_in v)
items_walked t items v is =
    among_all (failure t) 0 (items_view items) ∙ ap (list_all (keeps t)) (listed_is (map value_view items) ∙ is)

-- ---- one value of a sound type

pub keeps_is_member : (t : AbstractType) (v : AbstractValue) → KeepsBase t → IsTrue (fits t v) → list_all (keeps t) (v ∷ []) ≡ is_member t v
keeps_is_member t v b h = and_true (keeps t v) ∙ ap is_none (walked t v b h) ∙ seen_clear (violation t v) ∙ type_clear t v h
