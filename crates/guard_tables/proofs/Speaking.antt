-- What a demand comes down to speaks of the values of its kind, and asks of parts what may be asked of them.
use Rattle.std.proofs.Common.{◌≡◌, ℕ, suc, ◌+◌, Bool, true, false, cond, List, [], ◌∷◌, ◌++◌, length, Option, Some, None, refl, sym, ap, subst, arith, IsTrue}
use Rattle.std.specs.Prelude.{not, ◌&&◌, ◌||◌, nat_le, option_map}
use Rattle.std.specs.Option.{is_some}
use Rattle.std.proofs.lemmas.Bool.{and_parts}
use Rattle.guard_model.specs.declared.ty.Word.{Word}
use Rattle.guard_model.specs.declared.ty.Word.TheVariants.{Present, Absent, Optional}
use Rattle.guard_model.specs.AbstractType as type
use Rattle.guard_model.specs.AbstractType.{AbstractType, AbstractKind, AbstractPresence, Components, Constraint, Constraints, Element, Parts, type_of, no_components, component, at, no_constraints, constraint}
use Rattle.guard_model.specs.Components.{components_in, component_at}
use Rattle.guard_model.specs.Counts.{component_count}
use Rattle.guard_model.specs.Kinds.{kind_of, element_of, part_of, has_parts, type_of_size}
use Rattle.guard_model.specs.SameBase.{HasSameBase}
use Rattle.guard_model.specs.SameType.{same_base}
use Rattle.guard_model.specs.TypeView.{OneComponent}
use Rattle.guard_model.proofs.SameTypes.{same_base-Decides}
use Rattle.guard_tagcheck.specs.Limits.{nesting, is_tagged, are_low}
use Rattle.guard_der.specs.Fits.{may_be_absent}
use Rattle.guard_der.specs.ProperConstraints.{is_there_and, takes_size}
use Rattle.guard_der.specs.Sound.{is_proper, is_proper_kind, is_proper_presence, are_proper, are_proper_constraints, is_proper_constraint, is_proper_element, are_proper_parts, has_distinct_tags, is_sound}
use Rattle.guard_eval.specs.Presence.{element_kind, kind_at, kind_found, is_ruled_out}
use Rattle.guard_tables.specs.declared.slots.Slots.{Slots}
use Rattle.guard_tables.specs.Demands.{Demand, by_type, by_constraint, SlotDemand, scalar, within, sent, unsent, Term}
use Rattle.guard_tables.specs.Slots.{only}
use Rattle.guard_tables.specs.Formulas.{Form}
use Rattle.guard_tables.specs.Terms.{term, is_scalar, said, placed, ruled_out, unlisted, listed_terms, parts_from, kind_terms}
use Rattle.guard_tables.specs.Forms.{Formula, and_terms, aside, taking, form_one, form_element, form_all, form_each, form_own, form_type, form, Formulas, conjoined, forms_from, if_conjoined, nothing_yet}
use Rattle.guard_tables.specs.OfParts.{terms_at}
use Rattle.guard_tables.specs.Apt.{IsApt, AreApt, IsAptFor, AllSpeak}
use Rattle.guard_tables.proofs.Bases.{base_is, all_alike}

-- ---- lists of tests

pub speak_two : (kind : AbstractKind) (xs ys : List Term) → AllSpeak kind xs → AllSpeak kind ys → AllSpeak kind (xs ++ ys)
speak_two kind [] ys p q = q
speak_two kind (x ∷ xs) ys p q = (p.0, speak_two kind xs ys p.1 q)

pub speak_either : (b : Bool) (kind : AbstractKind) (xs ys : List Term) → (b ≡ true → AllSpeak kind xs) → (b ≡ false → AllSpeak kind ys) → AllSpeak kind (cond b xs ys)
speak_either true kind xs ys p q = p refl
speak_either false kind xs ys p q = q refl

-- ---- sound types

pub proper_of_sound : (t : AbstractType) → IsTrue (is_sound t) → IsTrue (is_proper t)
proper_of_sound t h = (and_parts (is_proper t) (has_distinct_tags t) (and_parts (is_proper t && has_distinct_tags t) (nat_le (nesting t) 32) h).0).0

-- constraints of a proper type, and what is in it
pub proper_inside : (t : AbstractType) → IsTrue (is_proper t) → IsTrue (is_proper_kind (kind_of t))
proper_inside (type_of tags kind cons) h = (and_parts (is_tagged tags kind && are_low tags && are_proper_constraints cons (type_of tags kind cons)) (is_proper_kind kind) h).1

pub proper_constraints : (tags : List _) (kind : AbstractKind) (cons : Constraints) → IsTrue (is_proper (type_of tags kind cons)) → IsTrue (are_proper_constraints cons (type_of tags kind cons))
proper_constraints tags kind cons h =
    (and_parts (is_tagged tags kind && are_low tags) (are_proper_constraints cons (type_of tags kind cons)) (and_parts (is_tagged tags kind && are_low tags && are_proper_constraints cons (type_of tags kind cons)) (is_proper_kind kind) h).0).1

-- a contained type has the base, and is proper
pub record Contained (u t : AbstractType) : Type 0 where
  pub base : HasSameBase u t
  pub proper : IsTrue (is_proper u)

pub contained : (u t : AbstractType) → IsTrue (is_proper_element (type.contained_subtype u) t) → Contained u t
contained u t h =
    let a = and_parts (same_base u t) (is_sound u) h in
    record { base = (same_base-Decides u t).0 a.0; proper = proper_of_sound u a.1 }

-- ---- presence

there : (kind : AbstractKind) (i : ℕ) (test : AbstractType → Bool) (found : Option AbstractType) → IsTrue (is_there_and test found) → IsTrue (is_some found)
there kind i test None h = absurd cc
there kind i test (Some t) h = refl

said_speaks : (partial : Bool) (presence : AbstractPresence) (word : Option Word) (i : ℕ) (k : Slots) (kind : AbstractKind) → IsTrue (is_some (part_of i kind)) → AllSpeak kind (said partial presence word i k)
said_speaks partial presence (Some Present) i k kind h = (h, tt)
said_speaks partial presence (Some Absent) i k kind h = (h, tt)
said_speaks partial presence (Some Optional) i k kind h = tt
said_speaks partial presence None i k kind h =
    speak_either (partial || not (may_be_absent presence)) kind [] (term k (sent i) ∷ []) (λ e. tt) (λ e. (h, tt))

pub placed_speaks : (partial : Bool) (found : Option OneComponent) (word : Option Word) (i : ℕ) (k : Slots) (kind : AbstractKind) → IsTrue (is_some (part_of i kind)) → AllSpeak kind (placed partial found word i k)
placed_speaks partial None word i k kind h = tt
placed_speaks partial (Some c) word i k kind h = said_speaks partial c.presence word i k kind h

-- the components from place i on are these
abbrev Follow : ℕ → Components → AbstractKind → Type 0
Follow i cs kind = (j : ℕ) → part_of (i + j) kind ≡ option_map (λ (c : OneComponent). c.ty) (component_at j cs)

one_on : (i : ℕ) (cs : Components) (kind : AbstractKind) (name : List ℕ) (t : AbstractType) (presence : AbstractPresence) → Follow i (component name t presence cs) kind → Follow (suc i) cs kind
one_on i cs kind name t presence h j = subst (λ (n : ℕ). part_of n kind ≡ option_map (λ (c : OneComponent). c.ty) (component_at j cs)) (omega arith) (h (suc j))

first_one : (i : ℕ) (cs : Components) (kind : AbstractKind) (name : List ℕ) (t : AbstractType) (presence : AbstractPresence) → Follow i (component name t presence cs) kind → part_of i kind ≡ Some t
first_one i cs kind name t presence h = subst (λ (n : ℕ). part_of n kind ≡ Some t) (omega arith) (h 0)

ruled_speak : (own kind : AbstractKind) (ps : Parts) (i : ℕ) (k : Slots) (cs : Components) → Follow i cs kind → AllSpeak kind (ruled_out own ps i k cs)
ruled_speak own kind ps i k no_components h = tt
ruled_speak own kind ps i k (component name t presence rest) h =
    let here : IsTrue (is_some (part_of i kind)) = ap is_some (first_one i rest kind name t presence h) in
    speak_two kind (cond (is_ruled_out own ps i presence) (term k (unsent i) ∷ []) []) (ruled_out own ps (suc i) k rest)
    (speak_either (is_ruled_out own ps i presence) kind (term k (unsent i) ∷ []) [] (λ e. (here, tt)) (λ e. tt))
    (ruled_speak own kind ps (suc i) k rest (one_on i rest kind name t presence h))

pub unlisted_speak : (partial : Bool) (kind : AbstractKind) (ps : Parts) (k : Slots) → AllSpeak kind (unlisted partial kind ps k)
unlisted_speak true kind ps k = tt
unlisted_speak false kind ps k = ruled_speak kind kind ps 0 k (components_in kind) (λ j. ap (λ (n : ℕ). part_of n kind) (omega arith))

-- ---- the parts of a type

apt_here : (found : Option AbstractType) (t : AbstractType) → found ≡ Some t → IsTrue (is_proper t) → IsAptFor found (by_type t)
apt_here found t e h = subst (λ (o : Option AbstractType). IsAptFor o (by_type t)) (sym e) (refl, h)

from_speak : (i : ℕ) (k : Slots) (cs : Components) (kind : AbstractKind) → Follow i cs kind → IsTrue (are_proper cs) → AllSpeak kind (parts_from i k cs)
from_speak i k no_components kind h proper = tt
from_speak i k (component name t presence cs) kind h proper =
    let a = and_parts (is_proper t && is_proper_presence t presence) (are_proper cs) proper in
    (apt_here (part_of i kind) t (first_one i cs kind name t presence h) (and_parts (is_proper t) (is_proper_presence t presence) a.0).0, from_speak (suc i) k cs kind (one_on i cs kind name t presence h) a.1)

few : (cs : Components) → IsTrue (nat_le (component_count cs) 64 && are_proper cs) → IsTrue (are_proper cs)
few cs h = (and_parts (nat_le (component_count cs) 64) (are_proper cs) h).1

pub kind_speaks : (k : Slots) (kind : AbstractKind) → IsTrue (is_proper_kind kind) → AllSpeak kind (kind_terms k kind)
kind_speaks k (type.sequence cs) h = from_speak 0 k cs (type.sequence cs) (λ j. ap (λ (n : ℕ). part_of n (type.sequence cs)) (omega arith)) (few cs h)
kind_speaks k (type.set cs) h = from_speak 0 k cs (type.set cs) (λ j. ap (λ (n : ℕ). part_of n (type.set cs)) (omega arith)) (few cs h)
kind_speaks k (type.choice cs) h = from_speak 0 k cs (type.choice cs) (λ j. ap (λ (n : ℕ). part_of n (type.choice cs)) (omega arith)) (few cs h)
kind_speaks k (type.sequence_of t) h = ((refl, h), tt)
kind_speaks k (type.set_of t) h = ((refl, h), tt)
kind_speaks k _ h = tt

-- ---- constraints on parts

element_apt : (kind : AbstractKind) (c : Constraint) → IsTrue (is_there_and (is_proper_constraint c) (element_of kind)) → IsAptFor (element_of kind) (by_constraint (element_kind kind) c)
element_apt (type.sequence_of t) c h = (refl, (t, refl, h))
element_apt (type.set_of t) c h = (refl, (t, refl, h))
element_apt _ c h = absurd cc

found_apt : (kind : AbstractKind) (c : Constraint) (found : Option OneComponent) → IsTrue (is_there_and (is_proper_constraint c) (option_map (λ (d : OneComponent). d.ty) found))
    → IsAptFor (option_map (λ (d : OneComponent). d.ty) found) (by_constraint (kind_found kind found) c)
found_apt kind c None h = absurd cc
found_apt kind c (Some d) h = (refl, (d.ty, refl, h))

-- ---- all elements

-- a constraint on a scalar kind, whole
pub scalar_speaks : (k : Slots) (c : Constraint) (t : AbstractType) → IsTrue (is_proper_constraint c t) → is_scalar (kind_of t) ≡ true → AllSpeak (kind_of t) (term k (scalar (kind_of t) c) ∷ [])
scalar_speaks k c t h e = ((e, (refl, (t, refl, h))), tt)

pub parts_speak : (k : Slots) (partial : Bool) (ps : Parts) (t : AbstractType) → IsTrue (are_proper_parts ps t) → AllSpeak (kind_of t) (listed_terms k (kind_of t) partial ps)
parts_speak k partial type.no_parts t h = tt
parts_speak k partial (type.part site i word ps) t h =
    let kind : AbstractKind = kind_of t in
    let a = and_parts (is_some (part_of i kind)) (are_proper_parts ps t) h in
    speak_two kind (placed partial (component_at i (components_in kind)) word i k) (listed_terms k kind partial ps)
    (placed_speaks partial (component_at i (components_in kind)) word i k kind a.0) (parts_speak k partial ps t a.1)
parts_speak k partial (type.part_within site i c word ps) t h =
    let kind : AbstractKind = kind_of t in
    let a = and_parts (is_there_and (is_proper_constraint c) (part_of i kind)) (are_proper_parts ps t) h in
    speak_two kind (placed partial (component_at i (components_in kind)) word i k) (term k (within i (by_constraint (kind_at i kind) c)) ∷ listed_terms k kind partial ps)
    (placed_speaks partial (component_at i (components_in kind)) word i k kind (there kind i (is_proper_constraint c) (part_of i kind) a.0))
    (found_apt kind c (component_at i (components_in kind)) a.0, parts_speak k partial ps t a.1)

formula_speaks : (b : Bool) (kind : AbstractKind) (x y : Formula) → (b ≡ true → AllSpeak kind x.terms) → (b ≡ false → AllSpeak kind y.terms) → AllSpeak kind (cond b x y).terms
formula_speaks true kind x y p q = p refl
formula_speaks false kind x y p q = q refl

mutual
  type_speaks : (k : Slots) (t : AbstractType) (f : Formula) → IsTrue (is_proper t) → AllSpeak (kind_of t) f.terms → AllSpeak (kind_of t) (form_type k t f).terms
  type_speaks k (type_of tags kind cons) f h s =
      speak_two kind (form_all k kind cons f).terms (kind_terms k kind) (all_speak k cons f (type_of tags kind cons) (proper_constraints tags kind cons h) s) (kind_speaks k kind (proper_inside (type_of tags kind cons) h))

  one_speaks : (k : Slots) (c : Constraint) (f : Formula) (t : AbstractType) → IsTrue (is_proper_constraint c t) → AllSpeak (kind_of t) f.terms → AllSpeak (kind_of t) (form_one k (kind_of t) c f).terms
  one_speaks k (at site e) f t h s =
      formula_speaks (is_scalar (kind_of t)) (kind_of t) (and_terms f (term k (scalar (kind_of t) (at site e)) ∷ [])) (form_element k (kind_of t) e f)
      (λ yes. speak_two (kind_of t) f.terms (term k (scalar (kind_of t) (at site e)) ∷ []) s (scalar_speaks k (at site e) t h yes)) (λ other. element_speaks k e f t h other s)

  element_speaks : (k : Slots) (e : Element) (f : Formula) (t : AbstractType) → IsTrue (is_proper_element e t) → is_scalar (kind_of t) ≡ false → AllSpeak (kind_of t) f.terms → AllSpeak (kind_of t) (form_element k (kind_of t) e f).terms
  element_speaks k (type.single_value w) f t h other s = speak_two (kind_of t) f.terms _ s ((ap not other, t, refl, h), tt)
  element_speaks k (type.contained_subtype u) f t h other s =
      let p = contained u t h in
      let base = base_is u t p.base in
      all_alike (kind_of u) (kind_of t) (form_type k u f).terms base (type_speaks k u f p.proper (all_alike (kind_of t) (kind_of u) f.terms (sym base) s))
  element_speaks k (type.range low high) f t h other s = s
  element_speaks k (type.size c) f t h other s = speak_two (kind_of t) f.terms _ s (and_parts (takes_size (kind_of t)) (is_proper_constraint c type_of_size) h, tt)
  element_speaks k (type.permitted_alphabet ranges) f t h other s = speak_two (kind_of t) f.terms _ s (h, tt)
  element_speaks k (type.with_component c) f t h other s = speak_two (kind_of t) f.terms _ s (element_apt (kind_of t) c h, tt)
  element_speaks k (type.with_components partial ps) f t h other s =
      let kind : AbstractKind = kind_of t in
      speak_two kind f.terms (listed_terms k kind partial ps ++ unlisted partial kind ps k) s
      (speak_two kind (listed_terms k kind partial ps) (unlisted partial kind ps k) (parts_speak k partial ps t (and_parts (has_parts kind) (are_proper_parts ps t) h).1) (unlisted_speak partial kind ps k))
  element_speaks k (type.union cs) f t h other s = each_speak cs (aside f) t h s
  element_speaks k (type.intersection cs) f t h other s = all_speak k cs f t h s
  element_speaks k (type.except c d) f t h other s =
      let a = and_parts (is_proper_constraint c t) (is_proper_constraint d t) h in
      one_speaks (only (form_one k (kind_of t) c f).next) d (taking (form_one k (kind_of t) c f)) t a.1 (one_speaks k c f t a.0 s)
  element_speaks k (type.all_except c) f t h other s = one_speaks (only f.next) c (taking f) t h s

  all_speak : (k : Slots) (cs : Constraints) (f : Formula) (t : AbstractType) → IsTrue (are_proper_constraints cs t) → AllSpeak (kind_of t) f.terms → AllSpeak (kind_of t) (form_all k (kind_of t) cs f).terms
  all_speak k no_constraints f t h s = s
  all_speak k (constraint c cs) f t h s =
      let a = and_parts (is_proper_constraint c t) (are_proper_constraints cs t) h in
      all_speak k cs (form_one k (kind_of t) c f) t a.1 (one_speaks k c f t a.0 s)

  each_speak : (cs : Constraints) (f : Formula) (t : AbstractType) → IsTrue (are_proper_constraints cs t) → AllSpeak (kind_of t) f.terms → AllSpeak (kind_of t) (form_each (kind_of t) cs f).terms
  each_speak no_constraints f t h s = s
  each_speak (constraint c cs) f t h s =
      let a = and_parts (is_proper_constraint c t) (are_proper_constraints cs t) h in
      each_speak cs (form_own false (kind_of t) c f) t a.1 (one_speaks (only f.next) c (taking f) t a.0 s)

form_speaks : (kind : AbstractKind) (d : Demand) (k : Slots) (f : Formula) → IsApt kind d → AllSpeak kind f.terms → AllSpeak kind (form k d f).terms
form_speaks kind (by_type t) k f apt s = all_alike (kind_of t) kind (form_type k t f).terms apt.0 (type_speaks k t f apt.1 (all_alike kind (kind_of t) f.terms (sym apt.0) s))
form_speaks kind (by_constraint own c) k f apt s =
    let t : AbstractType = apt.1.0 in
    all_alike own kind (form_one k own c f).terms apt.0
    (subst (λ (of : AbstractKind). AllSpeak of f.terms → AllSpeak of (form_one k of c f).terms) apt.1.1 (one_speaks k c f t apt.1.2) (all_alike kind own f.terms (sym apt.0) s))

pub speak_law : (kind : AbstractKind) (d : Demand) → IsApt kind d → (k : Slots) (n : ℕ) → AllSpeak kind (form k d (nothing_yet n)).terms
speak_law kind d apt k n = form_speaks kind d k (nothing_yet n) apt tt

pub sound_law : (t : AbstractType) → IsTrue (is_sound t) → IsApt (kind_of t) (by_type t)
sound_law t h = (refl, proper_of_sound t h)

-- ---- all that is asked at a node

conjoined_speak : (kind : AbstractKind) (demands : List SlotDemand) (f : Formula) → AreApt kind demands → AllSpeak kind f.terms → AllSpeak kind (conjoined demands f).terms
conjoined_speak kind [] f apt s = s
conjoined_speak kind (a ∷ demands) f apt s = conjoined_speak kind demands (form a.slots a.demand f) apt.1 (form_speaks kind a.demand a.slots f apt.0 s)

formulas_speak : (kind : AbstractKind) (k : ℕ) (demands : List SlotDemand) (f : Formula) → AreApt kind demands → AllSpeak kind f.terms → AllSpeak kind (forms_from k demands f).terms
formulas_speak kind k [] f apt s = s
formulas_speak kind k (a ∷ demands) f apt s =
    formulas_speak kind (suc k) demands (aside (form (only k) a.demand (aside f))) apt.1 (form_speaks kind a.demand (only k) (aside f) apt.0 s)

-- of both where there is the one or the other
pub either_forms : (P : List Term → Type 0) (ws : List Form) (own others : Formulas) → P own.terms → P others.terms → P (if_conjoined ws own others).terms
either_forms P [] own others p q = p
either_forms P (w ∷ ws) own others p q = q

pub terms_speak : (kind : AbstractKind) (demands : List SlotDemand) → AreApt kind demands → AllSpeak kind (terms_at demands)
terms_speak kind demands apt =
    let n : ℕ = length demands in
    either_forms (AllSpeak kind) (conjoined demands (nothing_yet n)).forms _ (forms_from 0 demands (nothing_yet n)) (conjoined_speak kind demands (nothing_yet n) apt tt) (formulas_speak kind 0 demands (nothing_yet n) apt tt)
