-- What a node hands on to its parts is no more than what was counted there.
use Rattle.std.proofs.Common.{◌≡◌, ℕ, zero, suc, ◌+◌, ◌<◌, ◌≤◌, Bool, true, false, cond, eqb, List, [], ◌∷◌, ◌++◌, length, Option, Some, None, refl, arith}
use Rattle.std.specs.Prelude.{not, ◌||◌}
use Rattle.std.proofs.lemmas.Bool.{ne_eqb}
use Rattle.guard_model.specs.declared.ty.Word.{Word}
use Rattle.guard_model.specs.declared.ty.Word.TheVariants.{Present, Absent, Optional}
use Rattle.guard_model.specs.AbstractType as type
use Rattle.guard_model.specs.AbstractType.{AbstractType, AbstractKind, Components, Constraint, Constraints, Element, Parts, type_of, no_components, component, at, no_constraints, constraint}
use Rattle.guard_model.specs.Components.{components_in, component_at}
use Rattle.guard_model.specs.TypeView.{OneComponent}
use Rattle.guard_der.specs.Fits.{may_be_absent}
use Rattle.guard_eval.specs.Presence.{is_ruled_out, kind_at, element_kind}
use Rattle.guard_tables.specs.Conditions.{of_type, of_kind, of_component, of_constraints, of_constraint, of_element, of_parts}
use Rattle.guard_tables.specs.declared.slots.Slots.{Slots}
use Rattle.guard_tables.specs.Slots.{only}
use Rattle.guard_tables.specs.Demands.{Demand, by_type, by_constraint, SlotDemand, Atom, scalar, equals, sized, spelled, each, within, sent, unsent, Term}
use Rattle.guard_tables.specs.Terms.{term, is_scalar, placed, ruled_out, unlisted, parts_from, kind_terms, listed_terms}
use Rattle.guard_tables.specs.Forms.{Formula, and_terms, aside, taking, form_one, form_element, form_all, form_each, form_own, form_type, form, conjoined, forms_from, nothing_yet}
use Rattle.guard_tables.proofs.Speaking.{either_forms}
use Rattle.guard_tables.specs.OfParts.{each_in, each_of, within_in, within_of, slot_demand, terms_at, of_demand, of_demands, of_atom, of_terms}

two : (xs ys : List Term) (p : ℕ) (w : List ℕ) → of_terms (xs ++ ys) p w ≡ of_terms xs p w + of_terms ys p w
two [] ys p w = omega arith
two (x ∷ xs) ys p w = let e = two xs ys p w in omega (arith, e)

either_form_hands : (b : Bool) (x y : Formula) (p : ℕ) (w : List ℕ) (most : ℕ) → of_terms x.terms p w ≤ most → of_terms y.terms p w ≤ most → of_terms (cond b x y).terms p w ≤ most
either_form_hands true x y p w most g h = g
either_form_hands false x y p w most g h = h

-- ---- words hand nothing on

choice : (b : Bool) (i : ℕ) (k : Slots) (p : ℕ) (w : List ℕ) → of_terms (cond b [] (term k (sent i) ∷ [])) p w ≡ 0
choice true i k p w = refl
choice false i k p w = refl

placed_hands : (partial : Bool) (c : Option OneComponent) (word : Option Word) (i : ℕ) (k : Slots) (p : ℕ) (w : List ℕ) → of_terms (placed partial c word i k) p w ≡ 0
placed_hands partial None word i k p w = refl
placed_hands partial (Some c) (Some Present) i k p w = refl
placed_hands partial (Some c) (Some Absent) i k p w = refl
placed_hands partial (Some c) (Some Optional) i k p w = refl
placed_hands partial (Some c) None i k p w = choice (partial || not (may_be_absent c.presence)) i k p w

gone_choice : (b : Bool) (i : ℕ) (k : Slots) (rest : List Term) (p : ℕ) (w : List ℕ) → of_terms rest p w ≡ 0 → of_terms (cond b (term k (unsent i) ∷ []) [] ++ rest) p w ≡ 0
gone_choice true i k rest p w e = omega (arith, e)
gone_choice false i k rest p w e = e

ruled_hands : (kind : AbstractKind) (ps : Parts) (i : ℕ) (k : Slots) (cs : Components) (p : ℕ) (w : List ℕ) → of_terms (ruled_out kind ps i k cs) p w ≡ 0
ruled_hands kind ps i k no_components p w = refl
ruled_hands kind ps i k (component name t presence cs) p w = gone_choice (is_ruled_out kind ps i presence) i k (ruled_out kind ps (suc i) k cs) p w (ruled_hands kind ps (suc i) k cs p w)

unlisted_hands : (partial : Bool) (kind : AbstractKind) (ps : Parts) (k : Slots) (p : ℕ) (w : List ℕ) → of_terms (unlisted partial kind ps k) p w ≡ 0
unlisted_hands true kind ps k p w = refl
unlisted_hands false kind ps k p w = ruled_hands kind ps 0 k (components_in kind) p w

-- ---- what a type asks of its parts

beside : (b : Bool) (x y : ℕ) → b ≡ false → cond b x y ≡ y
beside true x y e = absurd cc
beside false x y e = refl

at_most : (b : Bool) (x : ℕ) → cond b x 0 ≤ x
at_most true x = omega arith
at_most false x = omega arith

below : (n p : ℕ) (k : Slots) (cs : Components) (w : List ℕ) → p < n → of_terms (parts_from n k cs) p w ≡ 0
below n p k no_components w lt = refl
below n p k (component name t presence cs) w lt =
    let a = beside (eqb n p) (of_type t w) 0 (ne_eqb n p (λ e. absurd (omega (arith, lt, e)))) in
    let b = below (suc n) p k cs w (omega (arith, lt)) in
    omega (arith, a, b)

parts_hand : (cs : Components) (n i p : ℕ) (k : Slots) (w : List ℕ) → p ≡ n + i → of_terms (parts_from n k cs) p w ≤ of_component cs i w
parts_hand no_components n i p k w e = omega arith
parts_hand (component name t presence cs) n zero p k w e =
    let a = at_most (eqb n p) (of_type t w) in
    let b = below (suc n) p k cs w (omega (arith, e)) in
    omega (arith, a, b)
parts_hand (component name t presence cs) n (suc i) p k w e =
    let a = beside (eqb n p) (of_type t w) 0 (ne_eqb n p (λ same. absurd (omega (arith, e, same)))) in
    let b = parts_hand cs (suc n) i p k w (omega (arith, e)) in
    omega (arith, a, b)

kind_hands : (kind : AbstractKind) (k : Slots) (p : ℕ) (w : List ℕ) → of_terms (kind_terms k kind) p w ≤ of_kind kind (p ∷ w)
kind_hands (type.sequence cs) k p w = parts_hand cs 0 p p k w (omega arith)
kind_hands (type.set cs) k p w = parts_hand cs 0 p p k w (omega arith)
kind_hands (type.choice cs) k p w = parts_hand cs 0 p p k w (omega arith)
kind_hands (type.sequence_of t) k p w = omega arith
kind_hands (type.set_of t) k p w = omega arith
kind_hands _ k p w = omega arith

-- ---- all demands

parts_of_list_hand : (k : Slots) (kind : AbstractKind) (partial : Bool) (ps : Parts) (p : ℕ) (w : List ℕ) → of_terms (listed_terms k kind partial ps) p w ≤ of_parts ps p w
parts_of_list_hand k kind partial type.no_parts p w = omega arith
parts_of_list_hand k kind partial (type.part site i word ps) p w =
    let e = two (placed partial (component_at i (components_in kind)) word i k) (listed_terms k kind partial ps) p w in
    let a = placed_hands partial (component_at i (components_in kind)) word i k p w in
    let b = parts_of_list_hand k kind partial ps p w in
    omega (arith, e, a, b)
parts_of_list_hand k kind partial (type.part_within site i c word ps) p w =
    let d : Demand = by_constraint (kind_at i kind) c in
    let e = two (placed partial (component_at i (components_in kind)) word i k) (term k (within i d) ∷ listed_terms k kind partial ps) p w in
    let a = placed_hands partial (component_at i (components_in kind)) word i k p w in
    let b = parts_of_list_hand k kind partial ps p w in
    omega (arith, e, a, b)

mutual
  type_hands : (k : Slots) (t : AbstractType) (f : Formula) (p : ℕ) (w : List ℕ) → of_terms (form_type k t f).terms p w ≤ of_terms f.terms p w + of_type t (p ∷ w)
  type_hands k (type_of tags kind cons) f p w =
      let e = two (form_all k kind cons f).terms (kind_terms k kind) p w in
      let a = all_hands k kind cons f p w in
      let b = kind_hands kind k p w in
      omega (arith, e, a, b)

  one_hands : (k : Slots) (kind : AbstractKind) (c : Constraint) (f : Formula) (p : ℕ) (w : List ℕ) → of_terms (form_one k kind c f).terms p w ≤ of_terms f.terms p w + of_constraint c (p ∷ w)
  one_hands k kind (at site e) f p w =
      let own = two f.terms (term k (scalar kind (at site e)) ∷ []) p w in
      let a = either_form_hands (is_scalar kind) (and_terms f (term k (scalar kind (at site e)) ∷ [])) (form_element k kind e f) p w (of_terms f.terms p w + of_element e (p ∷ w)) (omega (arith, own)) (element_hands k kind e f p w) in
      omega (arith, a)

  element_hands : (k : Slots) (kind : AbstractKind) (e : Element) (f : Formula) (p : ℕ) (w : List ℕ) → of_terms (form_element k kind e f).terms p w ≤ of_terms f.terms p w + of_element e (p ∷ w)
  element_hands k kind (type.single_value v) f p w = let e = two f.terms (term k (equals v) ∷ []) p w in omega (arith, e)
  element_hands k kind (type.contained_subtype t) f p w = type_hands k t f p w
  element_hands k kind (type.range low high) f p w = omega arith
  element_hands k kind (type.size c) f p w = let e = two f.terms (term k (sized c) ∷ []) p w in omega (arith, e)
  element_hands k kind (type.permitted_alphabet ranges) f p w = let e = two f.terms (term k (spelled ranges) ∷ []) p w in omega (arith, e)
  element_hands k kind (type.with_component c) f p w = let e = two f.terms (term k (each (by_constraint (element_kind kind) c)) ∷ []) p w in omega (arith, e)
  element_hands k kind (type.with_components partial ps) f p w =
      let whole = two f.terms (listed_terms k kind partial ps ++ unlisted partial kind ps k) p w in
      let e = two (listed_terms k kind partial ps) (unlisted partial kind ps k) p w in
      let a = parts_of_list_hand k kind partial ps p w in
      let b = unlisted_hands partial kind ps k p w in
      omega (arith, whole, e, a, b)
  element_hands k kind (type.union cs) f p w = each_hand kind cs (aside f) p w
  element_hands k kind (type.intersection cs) f p w = all_hands k kind cs f p w
  element_hands k kind (type.except c d) f p w =
      let a = one_hands k kind c f p w in
      let b = one_hands (only (form_one k kind c f).next) kind d (taking (form_one k kind c f)) p w in
      omega (arith, a, b)
  element_hands k kind (type.all_except c) f p w = one_hands (only f.next) kind c (taking f) p w

  all_hands : (k : Slots) (kind : AbstractKind) (cs : Constraints) (f : Formula) (p : ℕ) (w : List ℕ) → of_terms (form_all k kind cs f).terms p w ≤ of_terms f.terms p w + of_constraints cs (p ∷ w)
  all_hands k kind no_constraints f p w = omega arith
  all_hands k kind (constraint c cs) f p w =
      let a = one_hands k kind c f p w in
      let b = all_hands k kind cs (form_one k kind c f) p w in
      omega (arith, a, b)

  each_hand : (kind : AbstractKind) (cs : Constraints) (f : Formula) (p : ℕ) (w : List ℕ) → of_terms (form_each kind cs f).terms p w ≤ of_terms f.terms p w + of_constraints cs (p ∷ w)
  each_hand kind no_constraints f p w = omega arith
  each_hand kind (constraint c cs) f p w =
      let a = one_hands (only f.next) kind c (taking f) p w in
      let b = each_hand kind cs (form_own false kind c f) p w in
      omega (arith, a, b)

form_hands : (k : Slots) (d : Demand) (f : Formula) (p : ℕ) (w : List ℕ) → of_terms (form k d f).terms p w ≤ of_terms f.terms p w + of_demand d (p ∷ w)
form_hands k (by_type t) f p w = type_hands k t f p w
form_hands k (by_constraint kind c) f p w = one_hands k kind c f p w

-- ---- all demands at a node

conjoined_hand : (demands : List SlotDemand) (f : Formula) (p : ℕ) (w : List ℕ) → of_terms (conjoined demands f).terms p w ≤ of_terms f.terms p w + of_demands demands (p ∷ w)
conjoined_hand [] f p w = omega arith
conjoined_hand (a ∷ demands) f p w =
    let x = form_hands a.slots a.demand f p w in
    let y = conjoined_hand demands (form a.slots a.demand f) p w in
    omega (arith, x, y)

forms_hand : (k : ℕ) (demands : List SlotDemand) (f : Formula) (p : ℕ) (w : List ℕ) → of_terms (forms_from k demands f).terms p w ≤ of_terms f.terms p w + of_demands demands (p ∷ w)
forms_hand k [] f p w = omega arith
forms_hand k (a ∷ demands) f p w =
    let x = form_hands (only k) a.demand (aside f) p w in
    let y = forms_hand (suc k) demands (aside (form (only k) a.demand (aside f))) p w in
    omega (arith, x, y)

terms_hand : (demands : List SlotDemand) (p : ℕ) (w : List ℕ) → of_terms (terms_at demands) p w ≤ of_demands demands (p ∷ w)
terms_hand demands p w =
    let n : ℕ = length demands in
    let a = conjoined_hand demands (nothing_yet n) p w in
    let b = forms_hand 0 demands (nothing_yet n) p w in
    either_forms (λ ts. of_terms ts p w ≤ of_demands demands (p ∷ w)) (conjoined demands (nothing_yet n)).forms _ (forms_from 0 demands (nothing_yet n)) (omega (arith, a)) (omega (arith, b))

each_step : (k : Slots) (a : Atom) (demands : List SlotDemand) (p : ℕ) (w : List ℕ) (rest : ℕ) → of_demands demands w ≤ rest → of_demands (each_in k a ++ demands) w ≤ of_atom a p w + rest
each_step k (each d) demands p w rest h = omega (arith, h)
each_step k (within i d) demands p w rest h = omega (arith, h)
each_step k (scalar kind c) demands p w rest h = omega (arith, h)
each_step k (equals v) demands p w rest h = omega (arith, h)
each_step k (sized c) demands p w rest h = omega (arith, h)
each_step k (spelled ranges) demands p w rest h = omega (arith, h)
each_step k (sent i) demands p w rest h = omega (arith, h)
each_step k (unsent i) demands p w rest h = omega (arith, h)

each_hands : (ts : List Term) (p : ℕ) (w : List ℕ) → of_demands (each_of ts) w ≤ of_terms ts p w
each_hands [] p w = omega arith
each_hands (t ∷ ts) p w = each_step t.slots t.atom (each_of ts) p w (of_terms ts p w) (each_hands ts p w)

chosen : (b : Bool) (k : Slots) (d : Demand) (demands : List SlotDemand) (w : List ℕ) (rest : ℕ) → of_demands demands w ≤ rest → of_demands (cond b (slot_demand k d ∷ []) [] ++ demands) w ≤ cond b (of_demand d w) 0 + rest
chosen true k d demands w rest h = omega (arith, h)
chosen false k d demands w rest h = omega (arith, h)

within_step : (k : Slots) (a : Atom) (demands : List SlotDemand) (p : ℕ) (w : List ℕ) (rest : ℕ) → of_demands demands w ≤ rest → of_demands (within_in p k a ++ demands) w ≤ of_atom a p w + rest
within_step k (within i d) demands p w rest h = chosen (eqb i p) k d demands w rest h
within_step k (each d) demands p w rest h = omega (arith, h)
within_step k (scalar kind c) demands p w rest h = omega (arith, h)
within_step k (equals v) demands p w rest h = omega (arith, h)
within_step k (sized c) demands p w rest h = omega (arith, h)
within_step k (spelled ranges) demands p w rest h = omega (arith, h)
within_step k (sent i) demands p w rest h = omega (arith, h)
within_step k (unsent i) demands p w rest h = omega (arith, h)

within_hands : (ts : List Term) (p : ℕ) (w : List ℕ) → of_demands (within_of p ts) w ≤ of_terms ts p w
within_hands [] p w = omega arith
within_hands (t ∷ ts) p w = within_step t.slots t.atom (within_of p ts) p w (of_terms ts p w) (within_hands ts p w)

pub each_law : (demands : List SlotDemand) (p : ℕ) (w : List ℕ) → of_demands (each_of (terms_at demands)) w ≤ of_demands demands (p ∷ w)
each_law demands p w =
    let a = terms_hand demands p w in
    let b = each_hands (terms_at demands) p w in
    omega (arith, a, b)

pub within_law : (demands : List SlotDemand) (p : ℕ) (w : List ℕ) → of_demands (within_of p (terms_at demands)) w ≤ of_demands demands (p ∷ w)
within_law demands p w =
    let a = terms_hand demands p w in
    let b = within_hands (terms_at demands) p w in
    omega (arith, a, b)
