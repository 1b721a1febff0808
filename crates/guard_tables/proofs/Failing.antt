-- What is asked of parts fails its slots exactly where one of its terms does.
use Rattle.std.proofs.Common.{◌≡◌, ℕ, zero, suc, ◌+◌, ◌<◌, Bool, true, false, cond, List, [], ◌∷◌, ◌++◌, Option, Some, None, refl, ap, ◌∙◌, subst, arith, IsTrue}
use Rattle.std.specs.Prelude.{not, ◌&&◌, ◌||◌, option_map}
use Rattle.std.specs.Option.{is_none, is_some}
use Rattle.std.proofs.lemmas.Bool.{and_parts, eq-eqb, ne_eqb}
use Rattle.std.proofs.lemmas.List.Folds.{list_any-append}
use Rattle.guard_model.specs.declared.ty.Word.{Word}
use Rattle.guard_model.specs.declared.ty.Word.TheVariants.{Present, Absent, Optional}
use Rattle.guard_model.specs.AbstractType as type
use Rattle.guard_model.specs.AbstractType.{AbstractType, AbstractKind, AbstractPresence, Components, Parts, no_components, component}
use Rattle.guard_model.specs.AbstractValue as value
use Rattle.guard_model.specs.AbstractValue.{AbstractValue, Fields}
use Rattle.guard_model.specs.Components.{components_in, component_at}
use Rattle.guard_model.specs.Kinds.{kind_of, part_of, is_integer, has_parts}
use Rattle.guard_model.specs.TypeView.{OneComponent}
use Rattle.guard_der.specs.Fits.{fits, fits_kind, fits_fields, fits_alternative, may_be_absent}
use Rattle.guard_der.specs.ProperConstraints.{is_there_and}
use Rattle.guard_der.specs.Sound.{is_proper_constraint, is_proper_element, are_proper_parts}
use Rattle.guard_eval.specs.Presence as presence
use Rattle.guard_eval.specs.Presence.{kind_at, field_at, part_at, is_there, if_there, is_placed, is_as_said, is_ruled_out, first_ruled_out, first_intruder}
use Rattle.guard_eval.specs.Member.{holds_element, parts_hold, is_member, parts_are_members, fields_are_members, chosen_is_member}
use Rattle.guard_eval.proofs.SameFits.{same_fits}
use Rattle.guard_tables.specs.declared.slots.Slots.{Slots}
use Rattle.guard_tables.specs.Slots.{has}
use Rattle.guard_tables.specs.Demands.{Demand, by_type, by_constraint, Atom, each, within, sent, unsent, Term, meets, passes, term_fails, terms_fail}
use Rattle.guard_tables.specs.Terms.{term, is_scalar, said, placed, ruled_out, unlisted, parts_from, kind_terms, listed_terms}
use Rattle.guard_tables.proofs.Bases.{base_is}
use Rattle.guard_tables.proofs.Speaking.{contained}

-- ---- truth

no_more : (b : Bool) → (b || false) ≡ b
no_more true = refl
no_more false = refl

either : (h x y : Bool) → ((h && not x) || (h && not y)) ≡ (h && not (x && y))
either true true y = refl
either true false y = refl
either false x y = refl

and_turned : (x y z : Bool) → (x && (y && z)) ≡ (x && y && z)
and_turned true y z = refl
and_turned false y z = refl

never : (h : Bool) → false ≡ (h && false)
never true = refl
never false = refl

pub with_true : (a b c : Bool) → a ≡ true → (b && c) ≡ (a && b && c)
with_true a b c e = rw e refl

-- ---- tests that fail, with the slots of k, where this is false

abbrev pub Fails : Slots → AbstractValue → List Term → Bool → Type 0
Fails k v ts test = (slot : ℕ) → terms_fail slot v ts ≡ (has k slot && not test)

pub nothing : (k : Slots) (v : AbstractValue) → Fails k v [] true
nothing k v slot = never (has k slot)

pub one : (k : Slots) (v : AbstractValue) (a : Atom) → Fails k v (term k a ∷ []) (passes a v)
one k v a slot = no_more (has k slot && not (passes a v))

pub two : (k : Slots) (v : AbstractValue) (xs ys : List Term) (a b : Bool) → Fails k v xs a → Fails k v ys b → Fails k v (xs ++ ys) (a && b)
two k v xs ys a b p q slot =
    list_any-append (term_fails slot v) xs ys
    ∙ ap (λ (f : Bool). f || terms_fail slot v ys) (p slot) ∙ ap (λ (f : Bool). (has k slot && not a) || f) (q slot) ∙ either (has k slot) a b

pub of_same : (k : Slots) (v : AbstractValue) (ts : List Term) (a b : Bool) → a ≡ b → Fails k v ts a → Fails k v ts b
of_same k v ts a b e p slot = p slot ∙ ap (λ (t : Bool). has k slot && not t) e

-- ---- presence

sent_unless : (k : Slots) (v : AbstractValue) (i : ℕ) (b : Bool) → Fails k v (cond b [] (term k (sent i) ∷ [])) (b || is_there i v)
sent_unless k v i true = nothing k v
sent_unless k v i false = one k v (sent i)

said_fails : (partial : Bool) (presence : AbstractPresence) (word : Option Word) (i : ℕ) (k : Slots) (v : AbstractValue)
    → Fails k v (said partial presence word i k) (is_as_said partial presence word (is_there i v))
said_fails partial presence (Some Present) i k v = one k v (sent i)
said_fails partial presence (Some Absent) i k v = one k v (unsent i)
said_fails partial presence (Some Optional) i k v = nothing k v
said_fails partial presence None i k v = sent_unless k v i (partial || not (may_be_absent presence))

placed_fails : (partial : Bool) (found : Option OneComponent) (word : Option Word) (i : ℕ) (k : Slots) (v : AbstractValue)
    → IsTrue (is_some (option_map (λ (c : OneComponent). c.ty) found)) → Fails k v (placed partial found word i k) (is_placed partial found word (is_there i v))
placed_fails partial None word i k v h = absurd cc
placed_fails partial (Some c) word i k v h = said_fails partial c.presence word i k v

gone_if : (k : Slots) (v : AbstractValue) (i : ℕ) (r : Bool) → Fails k v (cond r (term k (unsent i) ∷ []) []) (not (r && is_there i v))
gone_if k v i true = one k v (unsent i)
gone_if k v i false = nothing k v

none_found : (x : Bool) (i : ℕ) (rest : Option ℕ) → (not x && is_none rest) ≡ is_none (cond x (Some i) rest)
none_found true i rest = refl
none_found false i rest = refl

ruled_fails : (kind : AbstractKind) (ps : Parts) (i : ℕ) (k : Slots) (cs : Components) (v : AbstractValue) → Fails k v (ruled_out kind ps i k cs) (is_none (first_ruled_out kind ps v i cs))
ruled_fails kind ps i k no_components v = nothing k v
ruled_fails kind ps i k (component name t presence rest) v =
    let r : Bool = is_ruled_out kind ps i presence in
    of_same k v (ruled_out kind ps i k (component name t presence rest)) _ _ (none_found (r && is_there i v) i (first_ruled_out kind ps v (suc i) rest))
    (two k v (cond r (term k (unsent i) ∷ []) []) (ruled_out kind ps (suc i) k rest) (not (r && is_there i v)) (is_none (first_ruled_out kind ps v (suc i) rest)) (gone_if k v i r) (ruled_fails kind ps (suc i) k rest v))

unlisted_fails : (partial : Bool) (kind : AbstractKind) (ps : Parts) (k : Slots) (v : AbstractValue) → Fails k v (unlisted partial kind ps k) (is_none (first_intruder partial kind ps v))
unlisted_fails true kind ps k v = nothing k v
unlisted_fails false kind ps k v = ruled_fails kind ps 0 k (components_in kind) v

-- ---- the parts of a type

-- the fields from place i on are these
abbrev Follow : ℕ → Fields → Fields → Type 0
Follow i fs rs = (j : ℕ) → field_at (i + j) fs ≡ field_at j rs

after_present : (i : ℕ) (fs rs : Fields) (v : AbstractValue) → Follow i fs (value.present v rs) → Follow (suc i) fs rs
after_present i fs rs v h j = subst (λ (n : ℕ). field_at n fs ≡ field_at j rs) (omega arith) (h (suc j))

after_absent : (i : ℕ) (fs rs : Fields) → Follow i fs (value.absent rs) → Follow (suc i) fs rs
after_absent i fs rs h j = subst (λ (n : ℕ). field_at n fs ≡ field_at j rs) (omega arith) (h (suc j))

part_fails : (k : Slots) (i : ℕ) (v : AbstractValue) (d : Demand) (o : Option AbstractValue) → part_at i v ≡ o → Fails k v (term k (within i d) ∷ []) (if_there (meets d) o)
part_fails k i v d o e = of_same k v (term k (within i d) ∷ []) (if_there (meets d) (part_at i v)) (if_there (meets d) o) (ap (if_there (meets d)) e) (one k v (within i d))

fields_fail : (k : Slots) (cs : Components) (i : ℕ) (fs rs : Fields) → IsTrue (fits_fields cs rs) → Follow i fs rs → Fails k (value.fields fs) (parts_from i k cs) (fields_are_members cs rs)
fields_fail k no_components i fs value.no_fields fit h = nothing k (value.fields fs)
fields_fail k no_components i fs rs fit h = absurd cc
fields_fail k (component name t presence cs) i fs value.no_fields fit h = absurd cc
fields_fail k (component name t presence cs) i fs (value.present v rs) fit h =
    let p = and_parts (fits t v) (fits_fields cs rs) fit in
    let here : field_at i fs ≡ Some v = subst (λ (n : ℕ). field_at n fs ≡ Some v) (omega arith) (h 0) in
    two k (value.fields fs) (term k (within i (by_type t)) ∷ []) (parts_from (suc i) k cs) (is_member t v) (fields_are_members cs rs)
    (part_fails k i (value.fields fs) (by_type t) (Some v) here) (fields_fail k cs (suc i) fs rs p.1 (after_present i fs rs v h))
fields_fail k (component name t presence cs) i fs (value.absent rs) fit h =
    let p = and_parts (may_be_absent presence) (fits_fields cs rs) fit in
    let here : field_at i fs ≡ None = subst (λ (n : ℕ). field_at n fs ≡ None) (omega arith) (h 0) in
    two k (value.fields fs) (term k (within i (by_type t)) ∷ []) (parts_from (suc i) k cs) true (fields_are_members cs rs)
    (part_fails k i (value.fields fs) (by_type t) None here) (fields_fail k cs (suc i) fs rs p.1 (after_absent i fs rs h))

chosen_here : (i j : ℕ) (v : AbstractValue) → i ≡ j → part_at i (value.chosen j v) ≡ Some v
chosen_here i j v e = ap (λ (b : Bool). cond b (Some v) None) (eq-eqb i j e)

chosen_elsewhere : (i j : ℕ) (v : AbstractValue) → (i ≡ j → ⊥) → part_at i (value.chosen j v) ≡ None
chosen_elsewhere i j v e = ap (λ (b : Bool). cond b (Some v) None) (ne_eqb i j e)

-- none of these alternatives is the chosen one
past_chosen : (k : Slots) (cs : Components) (i j : ℕ) (v : AbstractValue) → j < i → Fails k (value.chosen j v) (parts_from i k cs) true
past_chosen k no_components i j v lt = nothing k (value.chosen j v)
past_chosen k (component name t presence cs) i j v lt =
    two k (value.chosen j v) (term k (within i (by_type t)) ∷ []) (parts_from (suc i) k cs) true true
    (part_fails k i (value.chosen j v) (by_type t) None (chosen_elsewhere i j v (λ e. absurd (omega (arith, lt, e))))) (past_chosen k cs (suc i) j v (omega (arith, lt)))

chosen_fails : (k : Slots) (cs : Components) (i n j : ℕ) (v : AbstractValue) → IsTrue (fits_alternative cs n v) → j ≡ i + n → Fails k (value.chosen j v) (parts_from i k cs) (chosen_is_member cs n v)
chosen_fails k no_components i n j v fit e = absurd cc
chosen_fails k (component name t presence cs) i zero j v fit e =
    of_same k (value.chosen j v) (parts_from i k (component name t presence cs)) (is_member t v && true) (is_member t v) (and_true (is_member t v))
    (two k (value.chosen j v) (term k (within i (by_type t)) ∷ []) (parts_from (suc i) k cs) (is_member t v) true
    (part_fails k i (value.chosen j v) (by_type t) (Some v) (chosen_here i j v (omega (arith, e)))) (past_chosen k cs (suc i) j v (omega (arith, e))))
  where
    and_true : (b : Bool) → (b && true) ≡ b
    and_true true = refl
    and_true false = refl
chosen_fails k (component name t presence cs) i (suc n) j v fit e =
    two k (value.chosen j v) (term k (within i (by_type t)) ∷ []) (parts_from (suc i) k cs) true (chosen_is_member cs n v)
    (part_fails k i (value.chosen j v) (by_type t) None (chosen_elsewhere i j v (λ same. absurd (omega (arith, e, same))))) (chosen_fails k cs (suc i) n j v fit (omega (arith, e)))

all_fields : (fs : Fields) → Follow 0 fs fs
all_fields fs j = ap (λ (n : ℕ). field_at n fs) (omega arith)

pub kind_fails : (k : Slots) (kind : AbstractKind) (v : AbstractValue) → IsTrue (fits_kind kind v) → Fails k v (kind_terms k kind) (parts_are_members kind v)
kind_fails k (type.sequence cs) (value.fields fs) fit = fields_fail k cs 0 fs fs fit (all_fields fs)
kind_fails k (type.set cs) (value.fields fs) fit = fields_fail k cs 0 fs fs fit (all_fields fs)
kind_fails k (type.choice cs) (value.chosen j v) fit = chosen_fails k cs 0 j j v fit (omega arith)
kind_fails k (type.sequence_of t) (value.items vs) fit = one k (value.items vs) (each (by_type t))
kind_fails k (type.set_of t) (value.items vs) fit = one k (value.items vs) (each (by_type t))
kind_fails k (type.sequence cs) v fit = absurd cc
kind_fails k (type.set cs) v fit = absurd cc
kind_fails k (type.choice cs) v fit = absurd cc
kind_fails k (type.sequence_of t) v fit = absurd cc
kind_fails k (type.set_of t) v fit = absurd cc
kind_fails k _ v fit = nothing k v

-- ---- all elements

-- a range is on INTEGER alone
pub not_scalar : (kind : AbstractKind) → IsTrue (is_integer kind) → is_scalar kind ≡ false → ⊥
not_scalar (type.integer names) h e = absurd cc
not_scalar _ h e = absurd cc

parts_there : (kind : AbstractKind) (v : AbstractValue) → IsTrue (has_parts kind) → IsTrue (fits_kind kind v) → presence.has_parts v ≡ true
parts_there (type.sequence cs) (value.fields fs) h fit = refl
parts_there (type.set cs) (value.fields fs) h fit = refl
parts_there (type.choice cs) (value.chosen i v) h fit = refl
parts_there (type.sequence cs) v h fit = absurd cc
parts_there (type.set cs) v h fit = absurd cc
parts_there (type.choice cs) v h fit = absurd cc
parts_there _ v h fit = absurd cc

some_there : (test : AbstractType → Bool) (found : Option AbstractType) → IsTrue (is_there_and test found) → IsTrue (is_some found)
some_there test None h = absurd cc
some_there test (Some t) h = refl

parts_fail : (k : Slots) (partial : Bool) (ps : Parts) (t : AbstractType) (v : AbstractValue) → IsTrue (are_proper_parts ps t) → Fails k v (listed_terms k (kind_of t) partial ps) (parts_hold ps partial (kind_of t) v)
parts_fail k partial type.no_parts t v h = nothing k v
parts_fail k partial (type.part site i word ps) t v h =
    let kind : AbstractKind = kind_of t in
    let a = and_parts (is_some (part_of i kind)) (are_proper_parts ps t) h in
    two k v (placed partial (component_at i (components_in kind)) word i k) (listed_terms k kind partial ps) (is_placed partial (component_at i (components_in kind)) word (is_there i v)) (parts_hold ps partial kind v)
    (placed_fails partial (component_at i (components_in kind)) word i k v a.0) (parts_fail k partial ps t v a.1)
parts_fail k partial (type.part_within site i c word ps) t v h =
    let kind : AbstractKind = kind_of t in
    let a = and_parts (is_there_and (is_proper_constraint c) (part_of i kind)) (are_proper_parts ps t) h in
    let d : Demand = by_constraint (kind_at i kind) c in
    let here : Bool = is_placed partial (component_at i (components_in kind)) word (is_there i v) in
    let inside : Bool = if_there (meets d) (part_at i v) in
    let rest : Bool = parts_hold ps partial kind v in
    of_same k v (listed_terms k kind partial (type.part_within site i c word ps)) (here && (inside && rest)) (here && inside && rest) (and_turned here inside rest)
    (two k v (placed partial (component_at i (components_in kind)) word i k) (term k (within i d) ∷ listed_terms k kind partial ps) here (inside && rest)
    (placed_fails partial (component_at i (components_in kind)) word i k v (some_there (is_proper_constraint c) (part_of i kind) a.0))
    (two k v (term k (within i d) ∷ []) (listed_terms k kind partial ps) inside rest (one k v (within i d)) (parts_fail k partial ps t v a.1)))

pub fits_inside : (u t : AbstractType) (v : AbstractValue) → IsTrue (is_proper_element (type.contained_subtype u) t) → IsTrue (fits_kind (kind_of t) v) → IsTrue (fits_kind (kind_of u) v)
fits_inside u t v h fit = same_fits (kind_of u) (kind_of t) v (base_is u t (contained u t h).base) ∙ fit

-- what WITH COMPONENTS says of presence and of the parts that are there
pub components_fail : (k : Slots) (partial : Bool) (ps : Parts) (t : AbstractType) (v : AbstractValue) → IsTrue (is_proper_element (type.with_components partial ps) t) → IsTrue (fits_kind (kind_of t) v)
    → Fails k v (listed_terms k (kind_of t) partial ps ++ unlisted partial (kind_of t) ps k) (holds_element (type.with_components partial ps) (kind_of t) v)
components_fail k partial ps t v h fit =
    let kind : AbstractKind = kind_of t in
    let a = and_parts (has_parts kind) (are_proper_parts ps t) h in
    of_same k v (listed_terms k kind partial ps ++ unlisted partial kind ps k) (parts_hold ps partial kind v && is_none (first_intruder partial kind ps v)) (holds_element (type.with_components partial ps) kind v)
    (with_true (presence.has_parts v) (parts_hold ps partial kind v) (is_none (first_intruder partial kind ps v)) (parts_there kind v a.0 fit))
    (two k v (listed_terms k kind partial ps) (unlisted partial kind ps k) (parts_hold ps partial kind v) (is_none (first_intruder partial kind ps v)) (parts_fail k partial ps t v a.1) (unlisted_fails partial kind ps k v))
