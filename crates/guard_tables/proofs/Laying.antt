-- The plan that is laid for a sound type asks of each value all that is asked of it, and nothing else.
use Rattle.std.proofs.Common.{◌≡◌, ℕ, zero, suc, ◌+◌, Bool, true, false, List, [], ◌∷◌, Option, Some, None, refl, sym, ap, ◌∙◌, subst, arith, IsTrue}
use Rattle.std.specs.Prelude.{◌&&◌, ◌||◌, nat_le}
use Rattle.std.specs.Option.{option_or}
use Rattle.std.proofs.lemmas.Bool.{and_parts}
use Rattle.guard_model.specs.declared.site.Step.TheVariants.{Component, Element}
use Rattle.guard_model.specs.AbstractType as type
use Rattle.guard_model.specs.AbstractType.{AbstractType, AbstractKind, Components, type_of, no_components, component}
use Rattle.guard_model.specs.AbstractValue as value
use Rattle.guard_model.specs.AbstractValue.{AbstractValue, Fields}
use Rattle.guard_model.specs.Counts.{component_count}
use Rattle.guard_model.specs.Kinds.{kind_of, element_of, part_of}
use Rattle.guard_tagcheck.specs.Distinct.{AbstractClash}
use Rattle.guard_tagcheck.specs.Limits.{nesting, is_tagged, are_low}
use Rattle.guard_tagcheck.specs.Search.{first_clash, clash_of_kind, clash_inside, first_pair, here, inside}
use Rattle.guard_tagcheck.proofs.Options.{inside_none}
use Rattle.guard_der.specs.Fits.{fits, fits_kind, fits_fields, fits_alternative, every_fits, are_few, fits_items, may_be_absent}
use Rattle.guard_der.specs.Sound.{is_proper, is_proper_kind, are_proper, is_proper_presence, are_proper_constraints, none_clash, is_sound}
use Rattle.guard_eval.specs.Presence.{field_at}
use Rattle.guard_tables.specs.declared.slots.Slots.{Slots}
use Rattle.guard_tables.specs.Slots.{none, added, has}
use Rattle.guard_tables.specs.Plan.{Plan, Body, AbstractCondition, series, set, choice, list, set_of, asked_of}
use Rattle.guard_tables.specs.Marking.{facts_of, conditions_marked, marked, type_marked, fields_marked, alternative_marked}
use Rattle.guard_tables.specs.Demands.{SlotDemand, Term, demands_fail, terms_fail}
use Rattle.guard_tables.specs.Apt.{AreApt, AllSpeak}
use Rattle.guard_tables.specs.OfParts.{each_of, within_of, terms_at}
use Rattle.guard_tables.specs.Lay.{conditions_of, absent_of, present_of, chosen_of, lay, lay_kind, lay_parts, lay_alternatives}
use Rattle.guard_tables.proofs.SlotSets.{none_law, added_law}
use Rattle.guard_tables.proofs.Truths.{or_no, or_again}
use Rattle.guard_tables.proofs.OwnTests.{inside_fail, simple_laid, whole_laid}
use Rattle.guard_tables.proofs.Speaking.{terms_speak}
use Rattle.guard_tables.proofs.FormNodes.{node_laid}
use Rattle.guard_tables.proofs.LaidParts.{each_apt, within_apt, items_laid, chosen_fails, from_fail, all_from, there_fails, gone_fails, FollowFields, FollowTypes, after_present, after_absent, after_component, type_here, at_end, present_is, absence_is}

-- ---- parts of sound types

-- it is proper, and no tags in it clash
abbrev pub IsWell : AbstractType → Type 0
IsWell t = (is_proper t ≡ true) × (first_clash t ≡ None)

abbrev pub IsWellKind : AbstractKind → Type 0
IsWellKind kind = (is_proper_kind kind ≡ true) × (clash_of_kind kind ≡ None)

abbrev pub AreWell : Components → Type 0
AreWell no_components = Unit {0}
AreWell (component name t presence cs) = IsWell t × AreWell cs

pub none_of_two : {A : Type 0} (a b : Option A) → option_or a b ≡ None → (a ≡ None) × (b ≡ None)
none_of_two None b e = (refl, e)
none_of_two (Some x) b e = absurd cc

pub well_kind : (tags : List _) (kind : AbstractKind) (cons : type.Constraints) → IsWell (type_of tags kind cons) → IsWellKind kind
well_kind tags kind cons w = ((and_parts (is_tagged tags kind && are_low tags && are_proper_constraints cons (type_of tags kind cons)) (is_proper_kind kind) w.0).1, w.1)

well_parts : (i : ℕ) (cs : Components) → are_proper cs ≡ true → clash_inside i cs ≡ None → AreWell cs
well_parts i no_components e clear = tt
well_parts i (component name t presence cs) e clear =
    let p = and_parts (is_proper t && is_proper_presence t presence) (are_proper cs) e in
    let n = none_of_two (inside (Component i) (first_clash t)) (clash_inside (suc i) cs) clear in
    (((and_parts (is_proper t) (is_proper_presence t presence) p.0).0, inside_none (Component i) (first_clash t) n.0), well_parts (suc i) cs p.1 n.1)

well_components : (in_sequence : Bool) (cs : Components) → (nat_le (component_count cs) 64 && are_proper cs) ≡ true → option_or (here (first_pair in_sequence 0 cs)) (clash_inside 0 cs) ≡ None → AreWell cs
well_components in_sequence cs e clear =
    well_parts 0 cs (and_parts (nat_le (component_count cs) 64) (are_proper cs) e).1 (none_of_two (here (first_pair in_sequence 0 cs)) (clash_inside 0 cs) clear).1

pub well_sound : (t : AbstractType) → IsTrue (is_sound t) → IsWell t
well_sound t h =
    let a = and_parts (is_proper t && none_clash (first_clash t)) (nat_le (nesting t) 32) h in
    let b = and_parts (is_proper t) (none_clash (first_clash t)) a.0 in
    (b.0, no_clash (first_clash t) b.1)
  where
    no_clash : (c : Option AbstractClash) → none_clash c ≡ true → c ≡ None
    no_clash None e = refl
    no_clash (Some c) e = absurd cc

-- ---- a node with parts

asked_marked : (kind : AbstractKind) (cs : List AbstractCondition) (b : Body) (v : AbstractValue) (m : Slots) → marked kind (asked_of cs b) v m ≡ conditions_marked cs (facts_of kind v) (marked kind b v m)
unfolding marked
asked_marked kind [] b v m = refl
asked_marked kind (c ∷ cs) b v m = refl

-- where its parts fail what is asked of them
with_parts : (kind : AbstractKind) → IsWellKind kind → (ts : List Term) → AllSpeak kind ts → (b : Body) (v : AbstractValue) → IsTrue (fits_kind kind v)
    → ((m : Slots) (slot : ℕ) → has (marked kind b v m) slot ≡ (has m slot || inside_fail slot v ts))
    → (m : Slots) (slot : ℕ) → has (marked kind (asked_of (conditions_of kind ts) b) v m) slot ≡ (has m slot || terms_fail slot v ts)
with_parts kind w ts s b v fit h m slot =
    ap (λ (x : Slots). has x slot) (asked_marked kind (conditions_of kind ts) b v m)
    ∙ whole_laid kind w.0 w.1 ts s v fit m (marked kind b v m) slot (h m slot)

-- ---- all kinds

abbrev Laid : AbstractKind → Body → List Term → AbstractValue → Type 0
Laid kind b ts v = (m : Slots) (slot : ℕ) → has (marked kind b v m) slot ≡ (has m slot || terms_fail slot v ts)

mutual
  unfolding marked

  type_laid : (t : AbstractType) → IsWell t → (demands : List SlotDemand) → AreApt (kind_of t) demands → (v : AbstractValue) → IsTrue (fits t v) → (m : Slots) (slot : ℕ)
      → has (type_marked t (lay t demands) v m) slot ≡ (has m slot || demands_fail slot v demands)
  type_laid (type_of tags kind cons) w demands apt v fit m slot =
      node_laid kind demands apt (lay_kind kind (terms_at demands)) v fit (kind_laid kind (well_kind tags kind cons w) (terms_at demands) (terms_speak kind demands apt) v fit) m slot

  kind_laid : (kind : AbstractKind) → IsWellKind kind → (ts : List Term) → AllSpeak kind ts → (v : AbstractValue) → IsTrue (fits_kind kind v) → Laid kind (lay_kind kind ts) ts v
  kind_laid type.boolean w ts s v fit m slot = simple_laid type.boolean w.0 w.1 refl (λ i. refl) ts s v fit m slot
  kind_laid (type.integer names) w ts s v fit m slot = simple_laid (type.integer names) w.0 w.1 refl (λ i. refl) ts s v fit m slot
  kind_laid (type.bit_string names) w ts s v fit m slot = simple_laid (type.bit_string names) w.0 w.1 refl (λ i. refl) ts s v fit m slot
  kind_laid type.octet_string w ts s v fit m slot = simple_laid type.octet_string w.0 w.1 refl (λ i. refl) ts s v fit m slot
  kind_laid type.null w ts s v fit m slot = simple_laid type.null w.0 w.1 refl (λ i. refl) ts s v fit m slot
  kind_laid type.object_identifier w ts s v fit m slot = simple_laid type.object_identifier w.0 w.1 refl (λ i. refl) ts s v fit m slot
  kind_laid (type.enumerated items) w ts s v fit m slot = simple_laid (type.enumerated items) w.0 w.1 refl (λ i. refl) ts s v fit m slot
  kind_laid (type.characters k) w ts s v fit m slot = simple_laid (type.characters k) w.0 w.1 refl (λ i. refl) ts s v fit m slot
  kind_laid (type.sequence cs) w ts s (value.fields fs) fit m slot =
      let kind : AbstractKind = type.sequence cs in
      with_parts kind w ts s (series (lay_parts 0 cs ts)) (value.fields fs) fit
      (λ m slot. fields_laid kind refl cs 0 (well_components true cs w.0 w.1) ts s fs fs fit (λ j. ap (λ (n : ℕ). field_at n fs) (omega arith)) (λ j. ap (λ (n : ℕ). part_of n kind) (omega arith)) m slot
      ∙ ap (λ (b : Bool). has m slot || b) (all_from ts fs slot)) m slot
  kind_laid (type.set cs) w ts s (value.fields fs) fit m slot =
      let kind : AbstractKind = type.set cs in
      with_parts kind w ts s (set (lay_parts 0 cs ts)) (value.fields fs) fit
      (λ m slot. fields_laid kind refl cs 0 (well_components false cs w.0 w.1) ts s fs fs fit (λ j. ap (λ (n : ℕ). field_at n fs) (omega arith)) (λ j. ap (λ (n : ℕ). part_of n kind) (omega arith)) m slot
      ∙ ap (λ (b : Bool). has m slot || b) (all_from ts fs slot)) m slot
  kind_laid (type.choice cs) w ts s (value.chosen j v) fit m slot =
      let kind : AbstractKind = type.choice cs in
      with_parts kind w ts s (choice (lay_alternatives 0 cs ts)) (value.chosen j v) fit
      (λ m slot. chosen_laid kind refl cs 0 j j (well_components false cs w.0 w.1) ts s v fit (omega arith) (λ i. ap (λ (n : ℕ). part_of n kind) (omega arith)) m slot) m slot
  kind_laid (type.sequence_of t) w ts s (value.items vs) fit m slot =
      let kind : AbstractKind = type.sequence_of t in
      let few = and_parts (are_few vs) (every_fits (fits t) vs) fit in
      with_parts kind w ts s (list (lay t (each_of ts))) (value.items vs) fit
      (λ m slot. items_laid kind (λ i. refl) ts s (fits t) (λ v m. type_marked t (lay t (each_of ts)) v m)
      (λ v fit m slot. type_laid t (w.0, inside_none (Element 0) (first_clash t) w.1) (each_of ts) (each_apt kind t refl ts s) v fit m slot) vs few.1 m slot) m slot
  kind_laid (type.set_of t) w ts s (value.items vs) fit m slot =
      let kind : AbstractKind = type.set_of t in
      let few = and_parts (are_few vs) (every_fits (fits t) vs) (and_parts (fits_items (fits t) vs) _ fit).0 in
      with_parts kind w ts s (set_of (lay t (each_of ts))) (value.items vs) fit
      (λ m slot. items_laid kind (λ i. refl) ts s (fits t) (λ v m. type_marked t (lay t (each_of ts)) v m)
      (λ v fit m slot. type_laid t (w.0, inside_none (Element 0) (first_clash t) w.1) (each_of ts) (each_apt kind t refl ts s) v fit m slot) vs few.1 m slot) m slot
  kind_laid (type.sequence cs) w ts s v fit m slot = absurd cc
  kind_laid (type.set cs) w ts s v fit m slot = absurd cc
  kind_laid (type.choice cs) w ts s v fit m slot = absurd cc
  kind_laid (type.sequence_of t) w ts s v fit m slot = absurd cc
  kind_laid (type.set_of t) w ts s v fit m slot = absurd cc

  -- these components, from place i on, and the fields from there
  fields_laid : (kind : AbstractKind) → element_of kind ≡ None → (cs : Components) (i : ℕ) → AreWell cs → (ts : List Term) → AllSpeak kind ts → (fs rs : Fields) → IsTrue (fits_fields cs rs)
      → FollowFields i fs rs → FollowTypes i cs kind → (m : Slots) (slot : ℕ) → has (fields_marked cs (lay_parts i cs ts) rs m) slot ≡ (has m slot || from_fail i slot fs ts)
  fields_laid kind e no_components i w ts s fs value.no_fields fit h p m slot = sym (or_no (has m slot)) ∙ ap (λ (b : Bool). has m slot || b) (sym (at_end kind e i ts s fs slot p))
  fields_laid kind e no_components i w ts s fs rs fit h p m slot = absurd cc
  fields_laid kind e (component name t presence cs) i w ts s fs value.no_fields fit h p m slot = absurd cc
  fields_laid kind e (component name t presence cs) i w ts s fs (value.present v rs) fit h p m slot =
      let q = and_parts (fits t v) (fits_fields cs rs) fit in
      let there : field_at i fs ≡ Some v = subst (λ (n : ℕ). field_at n fs ≡ Some v) (omega arith) (h 0) in
      let demands : List SlotDemand = within_of i ts in
      let plan : Plan = lay t demands in
      let g : Slots = present_of i ts in
      let rest : Bool = from_fail (suc i) slot fs ts in
      ap (λ (k : Slots). has (fields_marked cs (lay_parts (suc i) cs ts) rs (type_marked t plan v (added m k))) slot) (present_is t presence plan (absent_of i ts) g)
      ∙ fields_laid kind e cs (suc i) w.1 ts s fs rs q.1 (after_present i fs rs v h) (after_component i cs kind name t presence p) (type_marked t plan v (added m g)) slot
      ∙ ap (λ (b : Bool). b || rest) (type_laid t w.0 demands (within_apt kind t i (type_here i cs kind name t presence p) ts s) v q.0 (added m g) slot)
      ∙ ap (λ (b : Bool). (b || demands_fail slot v demands) || rest) (added_law m g slot)
      ∙ ap (λ (b : Bool). b || rest) (or_again (has m slot) (has g slot) (demands_fail slot v demands))
      ∙ or_again (has m slot) (has g slot || demands_fail slot v demands) rest
      ∙ ap (λ (b : Bool). has m slot || b) (there_fails kind e i ts s fs v slot there)
  fields_laid kind e (component name t presence cs) i w ts s fs (value.absent rs) fit h p m slot =
      let q = and_parts (may_be_absent presence) (fits_fields cs rs) fit in
      let gone : field_at i fs ≡ None = subst (λ (n : ℕ). field_at n fs ≡ None) (omega arith) (h 0) in
      let plan : Plan = lay t (within_of i ts) in
      let g : Slots = absent_of i ts in
      ap (λ (k : Slots). has (fields_marked cs (lay_parts (suc i) cs ts) rs k) slot) (absence_is t presence plan g (present_of i ts) m q.0)
      ∙ fields_laid kind e cs (suc i) w.1 ts s fs rs q.1 (after_absent i fs rs h) (after_component i cs kind name t presence p) (added m g) slot
      ∙ ap (λ (b : Bool). b || from_fail (suc i) slot fs ts) (added_law m g slot)
      ∙ or_again (has m slot) (has g slot) (from_fail (suc i) slot fs ts)
      ∙ ap (λ (b : Bool). has m slot || b) (gone_fails kind e i ts s fs slot gone)

  -- the alternative at place j, which is number n of these
  chosen_laid : (kind : AbstractKind) → element_of kind ≡ None → (cs : Components) (i n j : ℕ) → AreWell cs → (ts : List Term) → AllSpeak kind ts → (v : AbstractValue) → IsTrue (fits_alternative cs n v) → j ≡ i + n
      → FollowTypes i cs kind → (m : Slots) (slot : ℕ) → has (alternative_marked cs (lay_alternatives i cs ts) n v m) slot ≡ (has m slot || inside_fail slot (value.chosen j v) ts)
  chosen_laid kind e no_components i n j w ts s v fit same p m slot = absurd cc
  chosen_laid kind e (component name t presence cs) i zero j w ts s v fit same p m slot =
      let demands : List SlotDemand = within_of i ts in
      let g : Slots = chosen_of i ts in
      type_laid t w.0 demands (within_apt kind t i (type_here i cs kind name t presence p) ts s) v fit (added m g) slot
      ∙ ap (λ (b : Bool). b || demands_fail slot v demands) (added_law m g slot)
      ∙ or_again (has m slot) (has g slot) (demands_fail slot v demands)
      ∙ ap (λ (b : Bool). has m slot || b) (chosen_fails kind e i ts s v slot)
      ∙ ap (λ (n : ℕ). has m slot || inside_fail slot (value.chosen n v) ts) (omega (arith, same))
  chosen_laid kind e (component name t presence cs) i (suc n) j w ts s v fit same p m slot =
      chosen_laid kind e cs (suc i) n j w.1 ts s v fit (omega (arith, same)) (after_component i cs kind name t presence p) m slot

pub lay_law : (t : AbstractType) → IsTrue (is_sound t) → (demands : List SlotDemand) → AreApt (kind_of t) demands → (v : AbstractValue) → IsTrue (fits t v) → (slot : ℕ)
    → has (type_marked t (lay t demands) v none) slot ≡ demands_fail slot v demands
lay_law t sound demands apt v fit slot = type_laid t (well_sound t sound) demands apt v fit none slot ∙ ap (λ (b : Bool). b || demands_fail slot v demands) (none_law slot)
