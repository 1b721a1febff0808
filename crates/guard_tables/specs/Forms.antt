-- What a demand comes to at a node (X.680 clauses 49 to 51): terms with its slots, and where they aren't all that it
-- asks, formulas over what fails in slots of the node's own.
use Rattle.std.specs.Prelude.{ℕ, suc, Bool, true, false, List, [], ◌∷◌, ◌++◌, length, if◌then◌else◌}
use Rattle.guard_model.specs.AbstractType as type
use Rattle.guard_model.specs.AbstractType.{AbstractType, AbstractKind, Constraint, Constraints, Element, type_of, at, no_constraints, constraint}
use Rattle.guard_eval.specs.Presence.{element_kind}
use Rattle.guard_tables.specs.declared.slots.Slots.{Slots}
use Rattle.guard_tables.specs.Slots.{only}
use Rattle.guard_tables.specs.Formulas.{Form, never, always, slot, both, either, unless, Implication}
use Rattle.guard_tables.specs.Demands.{Demand, by_type, by_constraint, SlotDemand, scalar, equals, sized, spelled, each, Term}
use Rattle.guard_tables.specs.Terms.{term, is_scalar, unlisted, listed_terms, kind_terms}

-- What is asked so far: terms; formulas, of which each says where it fails too; and the next slot that is free. A
-- conjunction has no formulas.
pub record Formula : Type 0 where
  pub terms : List Term
  pub forms : List Form
  pub next : ℕ

abbrev pub and_terms : Formula → List Term → Formula
and_terms f ts = record { terms = f.terms ++ ts; forms = f.forms; next = f.next }

-- without formulas yet
abbrev pub aside : Formula → Formula
aside f = record { terms = f.terms; forms = []; next = f.next }

-- nor that, with the next slot taken
abbrev pub taking : Formula → Formula
taking f = record { terms = f.terms; forms = []; next = suc f.next }

-- the first, and what came after it as this form
abbrev pub and_form : Formula → Form → Formula → Formula
and_form f w g = record { terms = g.terms; forms = f.forms ++ w ∷ []; next = g.next }

-- one of these, or the last
abbrev pub eithers : List Form → Form → Form
eithers [] last = last
eithers (f ∷ fs) last = either f (eithers fs last)

-- all of these, and the last
abbrev pub boths : List Form → Form → Form
boths [] last = last
boths (f ∷ fs) last = both f (boths fs last)

-- where its own slot has failed, or one of the formulas says so
abbrev pub own_form : ℕ → List Form → Form
own_form n ws = either (slot n) (eithers ws never)

-- of a set that is taken away
abbrev pub turned : Bool → Form → Form
turned true w = unless w
turned false w = w

abbrev pub in_own : Bool → Formula → Formula → Formula
in_own taken f g = and_form f (turned taken (own_form f.next g.forms)) g

-- what comes of it with the next free slot as its own
abbrev pub with_own : Bool → Formula → (Slots → Formula → Formula) → Formula
with_own taken f more = in_own taken f (more (only f.next) (taking f))

abbrev pub in_union : Formula → Formula → Formula
in_union f g = and_form f (boths g.forms always) g

-- With the slots k: what is asked together has them too; each member of a union, and each set that is taken away, has
-- the next free slot as its own.
abbrev mutual
  pub form_one : Slots → AbstractKind → Constraint → Formula → Formula
  form_one k kind (at site e) f =
      if is_scalar kind then and_terms f (term k (scalar kind (at site e)) ∷ []) else form_element k kind e f

  -- of a kind that isn't scalar
  pub form_element : Slots → AbstractKind → Element → Formula → Formula
  form_element k kind (type.single_value w) f = and_terms f (term k (equals w) ∷ [])
  form_element k kind (type.contained_subtype t) f = form_type k t f
  -- a range is on INTEGER alone, which is scalar
  form_element k kind (type.range low high) f = f
  form_element k kind (type.size c) f = and_terms f (term k (sized c) ∷ [])
  form_element k kind (type.permitted_alphabet ranges) f = and_terms f (term k (spelled ranges) ∷ [])
  form_element k kind (type.with_component c) f = and_terms f (term k (each (by_constraint (element_kind kind) c)) ∷ [])
  form_element k kind (type.with_components partial ps) f =
      and_terms f (listed_terms k kind partial ps ++ unlisted partial kind ps k)
  -- a union fails where all of its members do
  form_element k kind (type.union cs) f = in_union f (form_each kind cs (aside f))
  form_element k kind (type.intersection cs) f = form_all k kind cs f
  -- A EXCEPT B fails where A does or B doesn't
  form_element k kind (type.except c d) f = with_own true (form_one k kind c f) (λ k f. form_one k kind d f)
  form_element k kind (type.all_except c) f = with_own true f (λ k f. form_one k kind c f)

  pub form_all : Slots → AbstractKind → Constraints → Formula → Formula
  form_all k kind no_constraints f = f
  form_all k kind (constraint c cs) f = form_all k kind cs (form_one k kind c f)

  -- the members of a union
  pub form_each : AbstractKind → Constraints → Formula → Formula
  form_each kind no_constraints f = f
  form_each kind (constraint c cs) f = form_each kind cs (with_own false f (λ k f. form_one k kind c f))

  pub form_type : Slots → AbstractType → Formula → Formula
  form_type k (type_of tags kind cons) f = and_terms (form_all k kind cons f) (kind_terms k kind)

abbrev pub form_own : Bool → AbstractKind → Constraint → Formula → Formula
form_own taken kind c f = with_own taken f (λ k f. form_one k kind c f)

abbrev pub form : Slots → Demand → Formula → Formula
form k (by_type t) f = form_type k t f
form k (by_constraint kind c) f = form_one k kind c f

-- ---- all that is asked at a node

pub record Formulas : Type 0 where
  pub terms : List Term
  pub implications : List Implication
  pub next : ℕ

abbrev pub formulas : List Term → List Implication → ℕ → Formulas
formulas terms implications next = record { terms = terms; implications = implications; next = next }

-- all of these, with their own slots
abbrev pub conjoined : List SlotDemand → Formula → Formula
conjoined [] f = f
conjoined (a ∷ demands) f = conjoined demands (form a.slots a.demand f)

abbrev pub and_implication : Implication → Formulas → Formulas
and_implication r fs = formulas fs.terms (r ∷ fs.implications) fs.next

abbrev pub implication_of : ℕ → Slots → Formula → Implication
implication_of k slots f = record { slots = slots; where_failed = own_form k f.forms }

-- The first of them has slot k, each other the next one.
abbrev pub forms_from : ℕ → List SlotDemand → Formula → Formulas
forms_from k [] f = formulas f.terms [] f.next
forms_from k (a ∷ demands) f =
    and_implication (implication_of k a.slots (form (only k) a.demand (aside f)))
    (forms_from (suc k) demands (aside (form (only k) a.demand (aside f))))

-- so many slots are taken
abbrev pub nothing_yet : ℕ → Formula
nothing_yet n = record { terms = []; forms = []; next = n }

-- conjunctions as they are, with no implications; otherwise the others
abbrev pub if_conjoined : List Form → Formulas → Formulas → Formulas
if_conjoined [] own others = own
if_conjoined (w ∷ ws) own others = others

abbrev pub chosen_forms : Formula → Formulas → Formulas
chosen_forms f others = if_conjoined f.forms (formulas f.terms [] f.next) others

abbrev pub forms_of : List SlotDemand → Formulas
forms_of demands =
    chosen_forms (conjoined demands (nothing_yet (length demands))) (forms_from 0 demands (nothing_yet (length demands)))
