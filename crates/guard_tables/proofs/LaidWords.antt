-- Where what is asked has slots of 64-bit words, so has what fails at a value; and what fails at one is what it doesn't meet.
use Rattle.std.proofs.Common.{◌≡◌, ℕ, zero, suc, Bool, true, false, List, [], ◌∷◌, ◌++◌, refl, sym, ap, ◌∙◌, subst, IsTrue}
use Rattle.std.specs.Prelude.{not, ◌||◌}
use Rattle.guard_model.specs.AbstractType as type
use Rattle.guard_model.specs.AbstractType.{AbstractType, AbstractKind, AbstractPresence, Components, type_of, no_components, component}
use Rattle.guard_model.specs.AbstractValue as value
use Rattle.guard_model.specs.AbstractValue.{AbstractValue, Fields, Items}
use Rattle.guard_model.specs.Kinds.{kind_of}
use Rattle.guard_der.specs.Fits.{fits}
use Rattle.guard_der.specs.Sound.{is_sound}
use Rattle.guard_tables.specs.declared.slots.Slots.{Slots}
use Rattle.guard_tables.specs.Slots.{none, added, has}
use Rattle.guard_tables.specs.Formulas.{Implication, fails_where, failed_unless, implied}
use Rattle.guard_tables.specs.Plan.{AbstractTest, AbstractCondition, Plan, Body, series, set, choice, list, set_of, asked_of}
use Rattle.guard_tables.specs.Marking.{Facts, facts_of, test_passes, conditions_marked, absence_marked, items_marked, marked, type_marked, fields_marked, alternative_marked}
use Rattle.guard_tables.specs.Demands.{SlotDemand, Atom, Term, meets, demand_fails, demands_fail}
use Rattle.guard_tables.specs.Forms.{forms_of}
use Rattle.guard_tables.specs.Apt.{AreApt}
use Rattle.guard_tables.specs.OfParts.{each_of, within_of, terms_at}
use Rattle.guard_tables.specs.Lay.{tests_of, conditions_in, conditions_of, added_if, slots_where, is_sent, absent_of, is_unsent, present_of, chosen_of, side_for, lay, lay_kind, lay_parts, lay_alternatives, implied_of}
use Rattle.guard_tables.specs.inside.SideViews.{demands_marked}
use Rattle.guard_tables.specs.inside.SlotWords.{InWords, DemandsIn}
use Rattle.guard_tables.proofs.SlotWords.{none_in, added_in, same_slots}
use Rattle.guard_tables.proofs.Truths.{or_no, or_again, has_unless}
use Rattle.guard_tables.proofs.Adding.{adds_type}
use Rattle.guard_tables.proofs.SlotSets.{added_law}
use Rattle.guard_tables.proofs.Laying.{lay_law}
use Rattle.guard_tables.proofs.TermWords.{TermsIn, ImplicationsIn, terms_in, implications_in, each_demands, within_demands}

-- it makes such sets of such sets
abbrev Keeps : (Slots → Slots) → Type 0
Keeps f = (m : Slots) → InWords m → InWords (f m)

keeps_unless : (b : Bool) (k : Slots) → InWords k → Keeps (λ m. failed_unless b k m)
keeps_unless true k h m p = p
keeps_unless false k h m p = added_in m k p h

keeps_if : (b : Bool) (k : Slots) → InWords k → Keeps (λ m. added_if b k m)
keeps_if true k h m p = added_in m k p h
keeps_if false k h m p = p

-- ---- conditions, presence and formulas

keeps_tests : (k : Slots) → InWords k → (tests : List AbstractTest) (f : Facts)
    → Keeps (λ m. conditions_marked (conditions_in k tests) f m)
keeps_tests k h [] f m p = p
keeps_tests k h (t ∷ ts) f m p = keeps_tests k h ts f (failed_unless (test_passes t f) k m)
    (keeps_unless (test_passes t f) k h m p)

marked_both : (xs ys : List AbstractCondition) (f : Facts) (m : Slots)
    → conditions_marked (xs ++ ys) f m ≡ conditions_marked ys f (conditions_marked xs f m)
marked_both [] ys f m = refl
marked_both (x ∷ xs) ys f m = marked_both xs ys f (failed_unless (test_passes x.test f) x.slots m)

keeps_conditions : (kind : AbstractKind) (ts : List Term) → TermsIn ts → (f : Facts)
    → Keeps (λ m. conditions_marked (conditions_of kind ts) f m)
keeps_conditions kind [] h f m p = p
keeps_conditions kind (t ∷ ts) h f m p =
    let first : List AbstractCondition = conditions_in t.slots (tests_of kind t.atom) in
    subst InWords (sym (marked_both first (conditions_of kind ts) f m))
    (keeps_conditions kind ts h.1 f (conditions_marked first f m)
    (keeps_tests t.slots h.0 (tests_of kind t.atom) f m p))

keeps_implied : (rs : List Implication) → ImplicationsIn rs → (inner : Slots) → Keeps (λ m. implied rs inner m)
keeps_implied [] h inner m p = p
keeps_implied (r ∷ rs) h inner m p =
    let w : Bool = not (fails_where r.where_failed (has inner)) in keeps_implied rs h.1 inner
    (failed_unless w r.slots m) (keeps_unless w r.slots h.0 m p)

where_words : (test : Atom → Bool) (ts : List Term) → TermsIn ts → InWords (slots_where test ts)
where_words test [] h = none_in
where_words test (t ∷ ts) h = keeps_if (test t.atom) t.slots h.0 (slots_where test ts) (where_words test ts h.1)

-- ---- plans

keeps_asked : (kind : AbstractKind) (ts : List Term) → TermsIn ts → (cs : List AbstractCondition)
    → cs ≡ conditions_of kind ts → (b : Body) (v : AbstractValue)
    → Keeps (λ m. marked kind b v m) → Keeps (λ m. marked kind (asked_of cs b) v m)
unfolding marked
keeps_asked kind ts h [] e b v inside m p = inside m p
keeps_asked kind ts h (c ∷ cs) e b v inside m p =
    subst (λ (ds : List AbstractCondition). InWords (conditions_marked ds (facts_of kind v) (marked kind b v m)))
    (sym e) (keeps_conditions kind ts h (facts_of kind v) (marked kind b v m) (inside m p))

keeps_formulas : (rs : List Implication) → ImplicationsIn rs → (kind : AbstractKind) (b : Body) (v : AbstractValue)
    → Keeps (λ m. marked kind b v m) → Keeps (λ m. marked kind (implied_of rs b) v m)
unfolding marked
keeps_formulas [] h kind b v inside m p = inside m p
keeps_formulas (r ∷ rs) h kind b v inside m p = keeps_implied (r ∷ rs) h (marked kind b v none) m p

keeps_items : (mark : AbstractValue → Slots → Slots) → ((v : AbstractValue) → Keeps (mark v)) → (vs : Items)
    → Keeps (λ m. items_marked mark vs m)
keeps_items mark h value.no_items m p = p
keeps_items mark h (value.item v vs) m p = keeps_items mark h vs (mark v m) (h v m p)

keeps_there : (t : AbstractType) (presence : AbstractPresence) (q : Plan) (absent present : Slots) → InWords present
    → InWords (side_for t presence q absent present).present
keeps_there t type.mandatory q absent present h = h
keeps_there t type.optional q absent present h = h
keeps_there t (type.default d) q absent present h = h
keeps_there t type.pending q absent present h = h

keeps_gone : (t : AbstractType) (presence : AbstractPresence) (q : Plan) (absent present : Slots) → InWords absent
    → InWords present → ((v : AbstractValue) → Keeps (λ m. type_marked t q v m))
    → Keeps (λ m. absence_marked (side_for t presence q absent present).absent m)
keeps_gone t type.mandatory q absent present a b inside m p = p
keeps_gone t type.optional q absent present a b inside m p = added_in m absent p a
keeps_gone t (type.default d) q absent present a b inside m p = added_in m (type_marked t q d present) p
    (inside d present b)
keeps_gone t type.pending q absent present a b inside m p = p

-- a value of the kind's form has its parts marked, any other nothing

keeps_series : (cs : Components) (ts : List Term)
    → ((fs : Fields) → Keeps (λ m. fields_marked cs (lay_parts 0 cs ts) fs m)) → (v : AbstractValue)
    → Keeps (λ m. marked (type.sequence cs) (series (lay_parts 0 cs ts)) v m)
unfolding marked
keeps_series cs ts h (value.fields fs) m p = h fs m p
keeps_series cs ts h _ m p = p

keeps_set : (cs : Components) (ts : List Term)
    → ((fs : Fields) → Keeps (λ m. fields_marked cs (lay_parts 0 cs ts) fs m)) → (v : AbstractValue)
    → Keeps (λ m. marked (type.set cs) (set (lay_parts 0 cs ts)) v m)
unfolding marked
keeps_set cs ts h (value.fields fs) m p = h fs m p
keeps_set cs ts h _ m p = p

keeps_choice : (cs : Components) (ts : List Term)
    → ((j : ℕ) (v : AbstractValue) → Keeps (λ m. alternative_marked cs (lay_alternatives 0 cs ts) j v m))
    → (v : AbstractValue)
    → Keeps (λ m. marked (type.choice cs) (choice (lay_alternatives 0 cs ts)) v m)
unfolding marked
keeps_choice cs ts h (value.chosen j v) m p = h j v m p
keeps_choice cs ts h _ m p = p

keeps_list : (t : AbstractType) (q : Plan) → ((v : AbstractValue) → Keeps (λ m. type_marked t q v m))
    → (v : AbstractValue) → Keeps (λ m. marked (type.sequence_of t) (list q) v m)
unfolding marked
keeps_list t q h (value.items vs) m p = keeps_items (λ v m. type_marked t q v m) h vs m p
keeps_list t q h _ m p = p

keeps_set_of : (t : AbstractType) (q : Plan) → ((v : AbstractValue) → Keeps (λ m. type_marked t q v m))
    → (v : AbstractValue) → Keeps (λ m. marked (type.set_of t) (set_of q) v m)
unfolding marked
keeps_set_of t q h (value.items vs) m p = keeps_items (λ v m. type_marked t q v m) h vs m p
keeps_set_of t q h _ m p = p

mutual
  unfolding marked

  keeps_type : (t : AbstractType) (demands : List SlotDemand) → DemandsIn demands → (v : AbstractValue)
      → Keeps (λ m. type_marked t (lay t demands) v m)
  keeps_type (type_of tags kind cons) demands h v m p =
      keeps_formulas (forms_of demands).implications (implications_in demands h) kind
      (lay_kind kind (terms_at demands)) v (keeps_kind kind (terms_at demands) (terms_in demands h) v) m p

  keeps_kind : (kind : AbstractKind) (ts : List Term) → TermsIn ts → (v : AbstractValue)
      → Keeps (λ m. marked kind (lay_kind kind ts) v m)
  keeps_kind (type.sequence cs) ts h v m p = keeps_asked (type.sequence cs) ts h (conditions_of (type.sequence cs) ts)
      refl (series (lay_parts 0 cs ts)) v (keeps_series cs ts (λ fs m q. keeps_fields cs 0 ts h fs m q) v) m p
  keeps_kind (type.set cs) ts h v m p = keeps_asked (type.set cs) ts h (conditions_of (type.set cs) ts) refl
      (set (lay_parts 0 cs ts)) v (keeps_set cs ts (λ fs m q. keeps_fields cs 0 ts h fs m q) v) m p
  keeps_kind (type.choice cs) ts h v m p = keeps_asked (type.choice cs) ts h (conditions_of (type.choice cs) ts) refl
      (choice (lay_alternatives 0 cs ts)) v (keeps_choice cs ts (λ j v m q. keeps_alternative cs 0 j ts h v m q) v) m p
  keeps_kind (type.sequence_of t) ts h v m p = keeps_asked (type.sequence_of t) ts h
      (conditions_of (type.sequence_of t) ts) refl (list (lay t (each_of ts))) v
      (keeps_list t (lay t (each_of ts)) (λ v m q. keeps_type t (each_of ts) (each_demands ts h) v m q) v) m p
  keeps_kind (type.set_of t) ts h v m p = keeps_asked (type.set_of t) ts h (conditions_of (type.set_of t) ts) refl
      (set_of (lay t (each_of ts))) v
      (keeps_set_of t (lay t (each_of ts)) (λ v m q. keeps_type t (each_of ts) (each_demands ts h) v m q) v) m p
  keeps_kind type.boolean ts h v m p = keeps_conditions type.boolean ts h (facts_of type.boolean v) m p
  keeps_kind (type.integer names) ts h v m p = keeps_conditions (type.integer names) ts h
      (facts_of (type.integer names) v) m p
  keeps_kind (type.bit_string names) ts h v m p = keeps_conditions (type.bit_string names) ts h
      (facts_of (type.bit_string names) v) m p
  keeps_kind type.octet_string ts h v m p = keeps_conditions type.octet_string ts h (facts_of type.octet_string v) m p
  keeps_kind type.null ts h v m p = keeps_conditions type.null ts h (facts_of type.null v) m p
  keeps_kind type.object_identifier ts h v m p = keeps_conditions type.object_identifier ts h
      (facts_of type.object_identifier v) m p
  keeps_kind (type.enumerated items) ts h v m p = keeps_conditions (type.enumerated items) ts h
      (facts_of (type.enumerated items) v) m p
  keeps_kind (type.characters k) ts h v m p = keeps_conditions (type.characters k) ts h
      (facts_of (type.characters k) v) m p

  keeps_fields : (cs : Components) (i : ℕ) (ts : List Term) → TermsIn ts → (fs : Fields)
      → Keeps (λ m. fields_marked cs (lay_parts i cs ts) fs m)
  keeps_fields no_components i ts h fs m p = p
  keeps_fields (component name t presence cs) i ts h value.no_fields m p = p
  keeps_fields (component name t presence cs) i ts h (value.present v fs) m p =
      let demands : List SlotDemand = within_of i ts in
      let q : Plan = lay t demands in
      let g : Slots = (side_for t presence q (absent_of i ts) (present_of i ts)).present in
      keeps_fields cs (suc i) ts h fs (type_marked t q v (added m g))
      (keeps_type t demands (within_demands i ts h) v (added m g)
      (added_in m g p (keeps_there t presence q (absent_of i ts) (present_of i ts) (where_words (is_unsent false i) ts h))))
  keeps_fields (component name t presence cs) i ts h (value.absent fs) m p =
      let demands : List SlotDemand = within_of i ts in
      let q : Plan = lay t demands in
      keeps_fields cs (suc i) ts h fs
      (absence_marked (side_for t presence q (absent_of i ts) (present_of i ts)).absent m)
      (keeps_gone t presence q (absent_of i ts) (present_of i ts) (where_words (is_sent i) ts h) (where_words (is_unsent false i) ts h)
      (λ v m r. keeps_type t demands (within_demands i ts h) v m r) m p)

  keeps_alternative : (cs : Components) (i j : ℕ) (ts : List Term) → TermsIn ts → (v : AbstractValue)
      → Keeps (λ m. alternative_marked cs (lay_alternatives i cs ts) j v m)
  keeps_alternative no_components i j ts h v m p = p
  keeps_alternative (component name t presence cs) i zero ts h v m p =
      keeps_type t (within_of i ts) (within_demands i ts h) v (added m (chosen_of i ts))
      (added_in m (chosen_of i ts) p (where_words (is_unsent true i) ts h))
  keeps_alternative (component name t presence cs) i (suc j) ts h v m p = keeps_alternative cs (suc i) j ts h v m p

-- ---- what a value fails is what it doesn't meet

failed_in : (v : AbstractValue) (demands : List SlotDemand) → DemandsIn demands → Keeps (λ m. demands_marked v demands m)
failed_in v [] h m p = p
failed_in v (a ∷ demands) h m p = failed_in v demands h.1 (failed_unless (meets a.demand v) a.slots m)
    (keeps_unless (meets a.demand v) a.slots h.0 m p)

has_failed : (v : AbstractValue) (demands : List SlotDemand) (m : Slots) (slot : ℕ)
    → has (demands_marked v demands m) slot ≡ (has m slot || demands_fail slot v demands)
has_failed v [] m slot = sym (or_no (has m slot))
has_failed v (a ∷ demands) m slot =
    has_failed v demands (failed_unless (meets a.demand v) a.slots m) slot
    ∙ ap (λ (b : Bool). b || demands_fail slot v demands) (has_unless (meets a.demand v) a.slots m slot)
    ∙ or_again (has m slot) (demand_fails slot v a) (demands_fail slot v demands)

pub failed_by : (t : AbstractType) → IsTrue (is_sound t) → (demands : List SlotDemand) → AreApt (kind_of t) demands → DemandsIn demands
    → (v : AbstractValue) → IsTrue (fits t v) → (m : Slots) → InWords m
    → demands_marked v demands m ≡ type_marked t (lay t demands) v m
failed_by t sound demands apt h v fit m p =
    same_slots (demands_marked v demands m) (type_marked t (lay t demands) v m) (failed_in v demands h m p)
    (keeps_type t demands h v m p)
    (λ slot. has_failed v demands m slot
    ∙ sym (ap (λ (k : Slots). has k slot) (adds_type t (lay t demands) v m) ∙ added_law m
    (type_marked t (lay t demands) v none) slot
    ∙ ap (λ (b : Bool). has m slot || b) (lay_law t sound demands apt v fit slot)))
