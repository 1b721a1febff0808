-- The slots that demands take are no more than conditions are counted.
use Rattle.std.proofs.Common.{◌≡◌, ℕ, suc, ◌+◌, ◌≤◌, Bool, true, false, cond, List, [], ◌∷◌, length, refl, arith}
use Rattle.guard_model.specs.AbstractType as type
use Rattle.guard_model.specs.AbstractType.{AbstractType, AbstractKind, Constraint, Constraints, Element, type_of, at, no_constraints, constraint}
use Rattle.guard_tables.specs.declared.slots.Slots.{Slots}
use Rattle.guard_tables.specs.Conditions.{of_type, of_kind, of_constraints, of_constraint, of_element}
use Rattle.guard_tables.specs.Slots.{only}
use Rattle.guard_tables.specs.Demands.{Demand, by_type, by_constraint, SlotDemand, scalar}
use Rattle.guard_tables.specs.Terms.{term, is_scalar}
use Rattle.guard_tables.specs.Forms.{Formula, and_terms, aside, taking, form_one, form_element, form_all, form_each, form_own, form_type, form, conjoined, forms_from, nothing_yet}
use Rattle.guard_tables.specs.OfParts.{of_demand, of_demands}

at_most_either : (b : Bool) (x y : Formula) (most : ℕ) → x.next ≤ most → y.next ≤ most → (cond b x y).next ≤ most
at_most_either true x y most p q = p
at_most_either false x y most p q = q

pub kind_counts : (kind : AbstractKind) → of_kind kind [] ≡ 1
kind_counts type.boolean = refl
kind_counts (type.integer names) = refl
kind_counts (type.bit_string names) = refl
kind_counts type.octet_string = refl
kind_counts type.null = refl
kind_counts type.object_identifier = refl
kind_counts (type.enumerated items) = refl
kind_counts (type.characters kind) = refl
kind_counts (type.sequence cs) = refl
kind_counts (type.set cs) = refl
kind_counts (type.choice alternatives) = refl
kind_counts (type.sequence_of t) = refl
kind_counts (type.set_of t) = refl

mutual
  one_count : (k : Slots) (kind : AbstractKind) (c : Constraint) (f : Formula) → (form_one k kind c f).next + 1 ≤ f.next + of_constraint c []
  one_count k kind (at site e) f =
      let p = at_most_either (is_scalar kind) (and_terms f (term k (scalar kind (at site e)) ∷ [])) (form_element k kind e f) (f.next + of_element e []) (omega arith) (element_count k kind e f) in
      omega (arith, p)

  element_count : (k : Slots) (kind : AbstractKind) (e : Element) (f : Formula) → (form_element k kind e f).next ≤ f.next + of_element e []
  element_count k kind (type.single_value w) f = omega arith
  element_count k kind (type.contained_subtype t) f = let p = type_count k t f in omega (arith, p)
  element_count k kind (type.range low high) f = omega arith
  element_count k kind (type.size c) f = omega arith
  element_count k kind (type.permitted_alphabet ranges) f = omega arith
  element_count k kind (type.with_component c) f = omega arith
  element_count k kind (type.with_components partial ps) f = omega arith
  element_count k kind (type.union cs) f = each_count kind cs (aside f)
  element_count k kind (type.intersection cs) f = all_count k kind cs f
  element_count k kind (type.except c d) f =
      let p = one_count k kind c f in
      let g : Formula = form_one k kind c f in
      let q = one_count (only g.next) kind d (taking g) in
      omega (arith, p, q)
  element_count k kind (type.all_except c) f = let p = one_count (only f.next) kind c (taking f) in omega (arith, p)

  all_count : (k : Slots) (kind : AbstractKind) (cs : Constraints) (f : Formula) → (form_all k kind cs f).next ≤ f.next + of_constraints cs []
  all_count k kind no_constraints f = omega arith
  all_count k kind (constraint c cs) f =
      let p = one_count k kind c f in
      let q = all_count k kind cs (form_one k kind c f) in
      omega (arith, p, q)

  each_count : (kind : AbstractKind) (cs : Constraints) (f : Formula) → (form_each kind cs f).next ≤ f.next + of_constraints cs []
  each_count kind no_constraints f = omega arith
  each_count kind (constraint c cs) f =
      let p = one_count (only f.next) kind c (taking f) in
      let q = each_count kind cs (form_own false kind c f) in
      omega (arith, p, q)

  type_count : (k : Slots) (t : AbstractType) (f : Formula) → (form_type k t f).next + 1 ≤ f.next + of_type t []
  type_count k (type_of tags kind cons) f =
      let p = all_count k kind cons f in
      let e = kind_counts kind in
      omega (arith, p, e)

pub count_law : (k : Slots) (d : Demand) (f : Formula) → (form k d f).next + 1 ≤ f.next + of_demand d []
count_law k (by_type t) f = type_count k t f
count_law k (by_constraint kind c) f = one_count k kind c f

-- ---- all that is asked

conjoined_count : (demands : List SlotDemand) (f : Formula) → (conjoined demands f).next + length demands ≤ f.next + of_demands demands []
conjoined_count [] f = omega arith
conjoined_count (a ∷ demands) f =
    let p = count_law a.slots a.demand f in
    let q = conjoined_count demands (form a.slots a.demand f) in
    omega (arith, p, q)

forms_count : (k : ℕ) (demands : List SlotDemand) (f : Formula) → (forms_from k demands f).next + length demands ≤ f.next + of_demands demands []
forms_count k [] f = omega arith
forms_count k (a ∷ demands) f =
    let p = count_law (only k) a.demand (aside f) in
    let q = forms_count (suc k) demands (aside (form (only k) a.demand (aside f))) in
    omega (arith, p, q)

pub conjoined_few : (demands : List SlotDemand) (n : ℕ) → n ≡ length demands → of_demands demands [] ≤ 256 → (conjoined demands (nothing_yet n)).next ≤ 256
conjoined_few demands n e h = let p = conjoined_count demands (nothing_yet n) in omega (arith, p, e, h)

pub forms_few : (demands : List SlotDemand) (n : ℕ) → n ≡ length demands → of_demands demands [] ≤ 256 → (forms_from 0 demands (nothing_yet n)).next ≤ 256
forms_few demands n e h = let p = forms_count 0 demands (nothing_yet n) in omega (arith, p, e, h)

-- ---- from the first free one on

at_least_either : (b : Bool) (x y : Formula) (least : ℕ) → least ≤ x.next → least ≤ y.next → least ≤ (cond b x y).next
at_least_either true x y least p q = p
at_least_either false x y least p q = q

mutual
  pub one_up : (k : Slots) (kind : AbstractKind) (c : Constraint) (f : Formula) → f.next ≤ (form_one k kind c f).next
  one_up k kind (at site e) f = at_least_either (is_scalar kind) (and_terms f (term k (scalar kind (at site e)) ∷ [])) (form_element k kind e f) f.next (omega arith) (element_up k kind e f)

  element_up : (k : Slots) (kind : AbstractKind) (e : Element) (f : Formula) → f.next ≤ (form_element k kind e f).next
  element_up k kind (type.single_value w) f = omega arith
  element_up k kind (type.contained_subtype t) f = type_up k t f
  element_up k kind (type.range low high) f = omega arith
  element_up k kind (type.size c) f = omega arith
  element_up k kind (type.permitted_alphabet ranges) f = omega arith
  element_up k kind (type.with_component c) f = omega arith
  element_up k kind (type.with_components partial ps) f = omega arith
  element_up k kind (type.union cs) f = each_up kind cs (aside f)
  element_up k kind (type.intersection cs) f = all_up k kind cs f
  element_up k kind (type.except c d) f =
      let g : Formula = form_one k kind c f in
      let p = one_up k kind c f in
      let q = one_up (only g.next) kind d (taking g) in
      omega (arith, p, q)
  element_up k kind (type.all_except c) f = let p = one_up (only f.next) kind c (taking f) in omega (arith, p)

  pub all_up : (k : Slots) (kind : AbstractKind) (cs : Constraints) (f : Formula) → f.next ≤ (form_all k kind cs f).next
  all_up k kind no_constraints f = omega arith
  all_up k kind (constraint c cs) f = let p = one_up k kind c f in let q = all_up k kind cs (form_one k kind c f) in omega (arith, p, q)

  pub each_up : (kind : AbstractKind) (cs : Constraints) (f : Formula) → f.next ≤ (form_each kind cs f).next
  each_up kind no_constraints f = omega arith
  each_up kind (constraint c cs) f =
      let p = one_up (only f.next) kind c (taking f) in
      let q = each_up kind cs (form_own false kind c f) in
      omega (arith, p, q)

  type_up : (k : Slots) (t : AbstractType) (f : Formula) → f.next ≤ (form_type k t f).next
  type_up k (type_of tags kind cons) f = all_up k kind cons f

form_up : (k : Slots) (d : Demand) (f : Formula) → f.next ≤ (form k d f).next
form_up k (by_type t) f = type_up k t f
form_up k (by_constraint kind c) f = one_up k kind c f

pub own_up : (taken : Bool) (kind : AbstractKind) (c : Constraint) (f : Formula) → f.next + 1 ≤ (form_own taken kind c f).next
own_up taken kind c f = let p = one_up (only f.next) kind c (taking f) in omega (arith, p)

pub conjoined_up : (demands : List SlotDemand) (f : Formula) → f.next ≤ (conjoined demands f).next
conjoined_up [] f = omega arith
conjoined_up (a ∷ demands) f = let p = form_up a.slots a.demand f in let q = conjoined_up demands (form a.slots a.demand f) in omega (arith, p, q)

pub forms_up : (k : ℕ) (demands : List SlotDemand) (f : Formula) → f.next ≤ (forms_from k demands f).next
forms_up k [] f = omega arith
forms_up k (a ∷ demands) f =
    let g : Formula = form (only k) a.demand (aside f) in
    let p = form_up (only k) a.demand (aside f) in
    let q = forms_up (suc k) demands (aside g) in
    omega (arith, p, q)
