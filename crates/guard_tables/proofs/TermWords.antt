-- What is asked with slots of 64-bit words is tested with such slots.
use Rattle.std.proofs.Common.{ℕ, suc, Bool, true, false, cond, List, [], ◌∷◌, ◌++◌, length, Option, Some, None}
use Rattle.std.specs.Prelude.{◌||◌, not, nat_eq, ⊤}
use Rattle.guard_model.specs.declared.ty.Word.{Word}
use Rattle.guard_model.specs.declared.ty.Word.TheVariants.{Present, Absent, Optional}
use Rattle.guard_model.specs.AbstractType as type
use Rattle.guard_model.specs.AbstractType.{AbstractType, AbstractKind, AbstractPresence, Components, Constraint, Constraints, Element, Parts, type_of, no_components, component, at, no_constraints, constraint}
use Rattle.guard_model.specs.Components.{components_in, component_at}
use Rattle.guard_model.specs.TypeView.{OneComponent}
use Rattle.guard_der.specs.Fits.{may_be_absent}
use Rattle.guard_eval.specs.Presence.{is_ruled_out}
use Rattle.guard_tables.specs.declared.slots.Slots.{Slots}
use Rattle.guard_tables.specs.Slots.{only}
use Rattle.guard_tables.specs.Demands.{Demand, by_type, by_constraint, SlotDemand, Atom, scalar, each, within, sent, unsent, Term}
use Rattle.guard_tables.specs.Formulas.{Form, Implication}
use Rattle.guard_tables.specs.Terms.{term, is_scalar, said, placed, ruled_out, unlisted, parts_from, kind_terms, listed_terms}
use Rattle.guard_tables.specs.Forms.{Formula, formulas, and_terms, aside, taking, form_one, form_element, form_all, form_each, form_own, form_type, form, conjoined, forms_from, forms_of, if_conjoined, nothing_yet}
use Rattle.guard_tables.specs.OfParts.{slot_demand, each_in, each_of, within_in, within_of, terms_at}
use Rattle.guard_tables.specs.inside.SlotWords.{InWords, DemandsIn}
use Rattle.guard_tables.proofs.SlotWords.{only_in}
use Rattle.guard_tables.proofs.Speaking.{either_forms}

abbrev pub TermsIn : List Term → Type 0
TermsIn [] = ⊤
TermsIn (t ∷ ts) = InWords t.slots × TermsIn ts

abbrev pub ImplicationsIn : List Implication → Type 0
ImplicationsIn [] = ⊤
ImplicationsIn (r ∷ rs) = InWords r.slots × ImplicationsIn rs

both_in : (xs ys : List Term) → TermsIn xs → TermsIn ys → TermsIn (xs ++ ys)
both_in [] ys p q = q
both_in (x ∷ xs) ys p q = (p.0, both_in xs ys p.1 q)

chosen_in : (b : Bool) (xs ys : List Term) → TermsIn xs → TermsIn ys → TermsIn (cond b xs ys)
chosen_in true xs ys p q = p
chosen_in false xs ys p q = q

-- ---- each term has the slots of the demand, or one of its own

said_in : (partial : Bool) (presence : AbstractPresence) (word : Option Word) (i : ℕ) (k : Slots) → InWords k
    → TermsIn (said partial presence word i k)
said_in partial presence (Some Present) i k h = (h, tt)
said_in partial presence (Some Absent) i k h = (h, tt)
said_in partial presence (Some Optional) i k h = tt
said_in partial presence None i k h = chosen_in (partial || not (may_be_absent presence)) [] (term k (sent i) ∷ []) tt
    (h, tt)

placed_in : (partial : Bool) (found : Option OneComponent) (word : Option Word) (i : ℕ) (k : Slots) → InWords k
    → TermsIn (placed partial found word i k)
placed_in partial None word i k h = tt
placed_in partial (Some c) word i k h = said_in partial c.presence word i k h

ruled_in : (kind : AbstractKind) (ps : Parts) (i : ℕ) (k : Slots) (cs : Components) → InWords k
    → TermsIn (ruled_out kind ps i k cs)
ruled_in kind ps i k no_components h = tt
ruled_in kind ps i k (component name t presence rest) h =
    both_in (cond (is_ruled_out kind ps i presence) (term k (unsent i) ∷ []) []) (ruled_out kind ps (suc i) k rest)
    (chosen_in (is_ruled_out kind ps i presence) (term k (unsent i) ∷ []) [] (h, tt) tt)
    (ruled_in kind ps (suc i) k rest h)

unlisted_in : (partial : Bool) (kind : AbstractKind) (ps : Parts) (k : Slots) → InWords k
    → TermsIn (unlisted partial kind ps k)
unlisted_in true kind ps k h = tt
unlisted_in false kind ps k h = ruled_in kind ps 0 k (components_in kind) h

parts_in : (i : ℕ) (k : Slots) (cs : Components) → InWords k → TermsIn (parts_from i k cs)
parts_in i k no_components h = tt
parts_in i k (component name t presence cs) h = (h, parts_in (suc i) k cs h)

kind_in : (k : Slots) (kind : AbstractKind) → InWords k → TermsIn (kind_terms k kind)
kind_in k (type.sequence cs) h = parts_in 0 k cs h
kind_in k (type.set cs) h = parts_in 0 k cs h
kind_in k (type.choice cs) h = parts_in 0 k cs h
kind_in k (type.sequence_of t) h = (h, tt)
kind_in k (type.set_of t) h = (h, tt)
kind_in k _ h = tt

listed_in : (k : Slots) (kind : AbstractKind) (partial : Bool) (ps : Parts) → InWords k
    → TermsIn (listed_terms k kind partial ps)
listed_in k kind partial type.no_parts h = tt
listed_in k kind partial (type.part site i word ps) h =
    both_in (placed partial (component_at i (components_in kind)) word i k) (listed_terms k kind partial ps)
    (placed_in partial (component_at i (components_in kind)) word i k h) (listed_in k kind partial ps h)
listed_in k kind partial (type.part_within site i c word ps) h =
    both_in (placed partial (component_at i (components_in kind)) word i k) _
    (placed_in partial (component_at i (components_in kind)) word i k h) (h, listed_in k kind partial ps h)

one_of : (b : Bool) (f g : Formula) → TermsIn f.terms → TermsIn g.terms → TermsIn (cond b f g).terms
one_of true f g p q = p
one_of false f g p q = q

mutual
  type_in : (k : Slots) (t : AbstractType) (f : Formula) → InWords k → TermsIn f.terms → TermsIn (form_type k t f).terms
  type_in k (type_of tags kind cons) f h p = both_in (form_all k kind cons f).terms (kind_terms k kind) (all_in k kind cons f h p) (kind_in k kind h)

  one_in : (k : Slots) (kind : AbstractKind) (c : Constraint) (f : Formula) → InWords k → TermsIn f.terms → TermsIn (form_one k kind c f).terms
  one_in k kind (at site e) f h p = one_of (is_scalar kind) (and_terms f (term k (scalar kind (at site e)) ∷ [])) (form_element k kind e f) (both_in f.terms _ p (h, tt)) (element_in k kind e f h p)

  element_in : (k : Slots) (kind : AbstractKind) (e : Element) (f : Formula) → InWords k → TermsIn f.terms → TermsIn (form_element k kind e f).terms
  element_in k kind (type.single_value w) f h p = both_in f.terms _ p (h, tt)
  element_in k kind (type.contained_subtype t) f h p = type_in k t f h p
  element_in k kind (type.range low high) f h p = p
  element_in k kind (type.size c) f h p = both_in f.terms _ p (h, tt)
  element_in k kind (type.permitted_alphabet ranges) f h p = both_in f.terms _ p (h, tt)
  element_in k kind (type.with_component c) f h p = both_in f.terms _ p (h, tt)
  element_in k kind (type.with_components partial ps) f h p =
      both_in f.terms _ p (both_in (listed_terms k kind partial ps) (unlisted partial kind ps k) (listed_in k kind partial ps h) (unlisted_in partial kind ps k h))
  element_in k kind (type.union cs) f h p = each_in_words kind cs (aside f) p
  element_in k kind (type.intersection cs) f h p = all_in k kind cs f h p
  element_in k kind (type.except c d) f h p = one_in (only (form_one k kind c f).next) kind d (taking (form_one k kind c f)) (only_in _) (one_in k kind c f h p)
  element_in k kind (type.all_except c) f h p = one_in (only f.next) kind c (taking f) (only_in f.next) p

  all_in : (k : Slots) (kind : AbstractKind) (cs : Constraints) (f : Formula) → InWords k → TermsIn f.terms → TermsIn (form_all k kind cs f).terms
  all_in k kind no_constraints f h p = p
  all_in k kind (constraint c cs) f h p = all_in k kind cs (form_one k kind c f) h (one_in k kind c f h p)

  each_in_words : (kind : AbstractKind) (cs : Constraints) (f : Formula) → TermsIn f.terms → TermsIn (form_each kind cs f).terms
  each_in_words kind no_constraints f p = p
  each_in_words kind (constraint c cs) f p = each_in_words kind cs (form_own false kind c f) (one_in (only f.next) kind c (taking f) (only_in f.next) p)

form_in : (k : Slots) (d : Demand) (f : Formula) → InWords k → TermsIn f.terms → TermsIn (form k d f).terms
form_in k (by_type t) f h p = type_in k t f h p
form_in k (by_constraint kind c) f h p = one_in k kind c f h p

conjoined_in : (demands : List SlotDemand) (f : Formula) → DemandsIn demands → TermsIn f.terms → TermsIn (conjoined demands f).terms
conjoined_in [] f h p = p
conjoined_in (a ∷ demands) f h p = conjoined_in demands (form a.slots a.demand f) h.1 (form_in a.slots a.demand f h.0 p)

forms_in : (k : ℕ) (demands : List SlotDemand) (f : Formula) → DemandsIn demands → TermsIn f.terms → TermsIn (forms_from k demands f).terms
forms_in k [] f h p = p
forms_in k (a ∷ demands) f h p = forms_in (suc k) demands (aside (form (only k) a.demand (aside f))) h.1 (form_in (only k) a.demand (aside f) (only_in k) p)

implied_in : (k : ℕ) (demands : List SlotDemand) (f : Formula) → DemandsIn demands → ImplicationsIn (forms_from k demands f).implications
implied_in k [] f h = tt
implied_in k (a ∷ demands) f h = (h.0, implied_in (suc k) demands (aside (form (only k) a.demand (aside f))) h.1)

-- ---- all that is asked at a node, and of its parts

pub terms_in : (demands : List SlotDemand) → DemandsIn demands → TermsIn (terms_at demands)
terms_in demands h =
    let n : ℕ = length demands in
    either_forms TermsIn (conjoined demands (nothing_yet n)).forms _ (forms_from 0 demands (nothing_yet n)) (conjoined_in demands (nothing_yet n) h tt) (forms_in 0 demands (nothing_yet n) h tt)

some_implied : (ws : List Form) (f : Formula) (demands : List SlotDemand) → DemandsIn demands → ImplicationsIn (if_conjoined ws (formulas f.terms [] f.next) (forms_from 0 demands (nothing_yet (length demands)))).implications
some_implied [] f demands h = tt
some_implied (w ∷ ws) f demands h = implied_in 0 demands (nothing_yet (length demands)) h

pub implications_in : (demands : List SlotDemand) → DemandsIn demands → ImplicationsIn (forms_of demands).implications
implications_in demands h = some_implied (conjoined demands (nothing_yet (length demands))).forms (conjoined demands (nothing_yet (length demands))) demands h

all_demands : (xs ys : List SlotDemand) → DemandsIn xs → DemandsIn ys → DemandsIn (xs ++ ys)
all_demands [] ys p q = q
all_demands (x ∷ xs) ys p q = (p.0, all_demands xs ys p.1 q)

each_one : (k : Slots) (a : Atom) → InWords k → DemandsIn (each_in k a)
each_one k (each d) h = (h, tt)
each_one k _ h = tt

pub each_demands : (ts : List Term) → TermsIn ts → DemandsIn (each_of ts)
each_demands [] h = tt
each_demands (t ∷ ts) h = all_demands (each_in t.slots t.atom) (each_of ts) (each_one t.slots t.atom h.0) (each_demands ts h.1)

if_asked : (b : Bool) (k : Slots) (d : Demand) → InWords k → DemandsIn (cond b (slot_demand k d ∷ []) [])
if_asked true k d h = (h, tt)
if_asked false k d h = tt

within_one : (i : ℕ) (k : Slots) (a : Atom) → InWords k → DemandsIn (within_in i k a)
within_one i k (within j d) h = if_asked (nat_eq j i) k d h
within_one i k _ h = tt

pub within_demands : (i : ℕ) (ts : List Term) → TermsIn ts → DemandsIn (within_of i ts)
within_demands i [] h = tt
within_demands i (t ∷ ts) h = all_demands (within_in i t.slots t.atom) (within_of i ts) (within_one i t.slots t.atom h.0)
    (within_demands i ts h.1)
