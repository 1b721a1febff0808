-- The fault of the first check that fails stands at its site.
use Rattle.std.proofs.Common.{◌≡◌, ℕ, Bool, true, false, cond, not, ◌&&◌, List, [], ◌∷◌, ◌++◌, Option, Some, None, inl, inr, ◌⊎◌, option_map, refl, sym, ap, subst}
use Rattle.std.specs.Prelude.{bytes_eq}
use Rattle.std.specs.Option.{is_none, option_or}
use Rattle.std.proofs.lemmas.Bool.{and_parts, or_cases, not-false}
use Rattle.std.proofs.lemmas.Slice.Eq.{bytes_eq-Decides}
use Rattle.guard_model.specs.declared.site.Site.{Site}
use Rattle.guard_model.specs.AbstractType.{AbstractType, AbstractKind}
use Rattle.guard_model.specs.Kinds.{kind_of, is_choice, has_named_bits, type_of_size, element_of}
use Rattle.guard_syntax.specs.Trees as written
use Rattle.guard_syntax.specs.Trees.{WrittenValue, WrittenEnd, WrittenRange, WrittenSet, WrittenSetForm, WrittenUnited, WrittenIntersection, WrittenMet, WrittenDifference, WrittenElement, WrittenElementForm, WrittenConstraint, WrittenParts, set_node, all_except, union, none_united, united, intersection, none_met, met, element_alone, element_except, element_node, constraint, no_parts, part, part_in}
use Rattle.guard_values.specs.declared.fault.ValueFault.{ValueFault}
use Rattle.guard_values.specs.declared.fault.ValueFault.TheVariants as value_fault
use Rattle.guard_values.specs.Meanings.{Meaning}
use Rattle.guard_values.specs.Places.{Located}
use Rattle.guard_values.proofs.FirstFaults.WholeValues.{first_holds}
use Rattle.guard_constraints.specs.declared.fault.ConsFault.{ConsFault}
use Rattle.guard_constraints.specs.declared.fault.ConsFault.TheVariants as fault
use Rattle.guard_constraints.specs.Visible.{Visible, has_base_of}
use Rattle.guard_constraints.specs.Applies.{applies}
use Rattle.guard_constraints.specs.RangeEnds.{has_proper_ends, value_of_end}
use Rattle.guard_constraints.specs.PermittedAlphabets.{AlphabetItem, items_of, bad_item, first_bad}
use Rattle.guard_constraints.specs.ListedParts.{PartHead, heads, has_bad_word, is_unknown, is_present, is_among, named_in, first_where, after_first, first_repeated, second_present}
use Rattle.guard_constraints.specs.PartFaults.{word_fault, name_fault, repeated_fault, present_fault, part_fault}
use Rattle.guard_constraints.specs.Faults.{unless, fault_of_form, own_fault, characters_fault, items_fault, named_bits_fault}
use Rattle.guard_constraints.specs.FirstFault.{Check, element_has, value_under, IsOfFirst, IsFirstConstraintFault, end_checks, checks_on, type_there, checks, set_checks, set_form_checks, united_checks, intersection_checks, met_checks, difference_checks, element_checks, checks_inside, part_checks}
use Rattle.guard_constraints.specs.Conditions.{SomePart, SomePair, HasFaultyEnd, HasBadString, HasFaultyValue, Stands, Somewhere, InSet, InSetForm, InUnited, InIntersection, InMet, InDifference, InElement, Inside, InParts, IsConstraintFaultIn}

-- ---- options

same_Some : {A : Type 0} (x y : A) → Some x ≡ Some y → x ≡ y
same_Some x y e = cc

or_cases_of : {A : Type 0} (o p : Option A) (x : A) → option_or o p ≡ Some x → (o ≡ Some x) ⊎ (p ≡ Some x)
or_cases_of None p x e = inr e
or_cases_of (Some y) p x e = inl e

mapped_from : {A B : Type 0} (make : A → B) (o : Option A) (y : B) → option_map make o ≡ Some y → (x : A) × (o ≡ Some x) × (make x ≡ y)
mapped_from make None y e = absurd cc
mapped_from make (Some x) y e = (x, refl, same_Some (make x) y e)

unless_from : (b : Bool) (f g : ConsFault) → unless b f ≡ Some g → (b ≡ false) × (f ≡ g)
unless_from true f g e = absurd cc
unless_from false f g e = (refl, same_Some f g e)

nothing_there : {A : Type 0} (o : Option A) → is_none o ≡ true → o ≡ None
nothing_there None e = refl
nothing_there (Some x) e = absurd cc

-- ---- parts of WITH COMPONENTS

part_where : (test : PartHead → Bool) (hs : List PartHead) (s : Site) → first_where test hs ≡ Some s → SomePart (λ h. (s ≡ h.site) × (test h ≡ true)) hs
part_where test [] s e = absurd cc
part_where test (h ∷ hs) s e = here (test h) refl e (λ later. part_where test hs s later) where
  here : (b : Bool) → test h ≡ b → cond b (Some h.site) (first_where test hs) ≡ Some s → (first_where test hs ≡ Some s → SomePart (λ p. (s ≡ p.site) × (test p ≡ true)) hs)
      → SomePart (λ p. (s ≡ p.site) × (test p ≡ true)) (h ∷ hs)
  here true is e later = inl (sym (same_Some h.site s e), is)
  here false is e later = inr (later e)

part_in_both : (P Q : PartHead → Type 0) (hs : List PartHead) → ((h : PartHead) → P h → Q h) → SomePart P hs → SomePart Q hs
part_in_both P Q [] wider h = absurd h
part_in_both P Q (p ∷ hs) wider (inl h) = inl (wider p h)
part_in_both P Q (p ∷ hs) wider (inr h) = inr (part_in_both P Q hs wider h)

-- one of these parts has the name
abbrev HasName : List ℕ → List PartHead → Type 0
HasName name hs = SomePart (λ h. name ≡ h.name) hs

name_among : (name : List ℕ) (hs : List PartHead) → is_among name hs ≡ true → HasName name hs
name_among name [] e = absurd cc
name_among name (h ∷ hs) e = elim (or_cases (bytes_eq name h.name) (is_among name hs) e) [
  | inl here ↦ inl ((bytes_eq-Decides name h.name).0 here)
  | inr there ↦ inr (name_among name hs there)
]

name_in_both : (name : List ℕ) (before : List PartHead) (h : PartHead) → HasName name (before ++ h ∷ []) → HasName name before ⊎ (name ≡ h.name)
name_in_both name [] h (inl e) = inr e
name_in_both name [] h (inr n) = absurd n
name_in_both name (b ∷ before) h (inl e) = inl (inl e)
name_in_both name (b ∷ before) h (inr n) = elim (name_in_both name before h n) [ inl m ↦ inl (inr m) | inr e ↦ inr e ]

-- a part at the site with the name of one of those before all of them, or of a part before it
abbrev IsRepeatedAfter : List PartHead → Site → List PartHead → Type 0
IsRepeatedAfter before s hs = SomePart (λ h. (s ≡ h.site) × HasName h.name before) hs ⊎ SomePair (λ earlier later. (s ≡ later.site) × (later.name ≡ earlier.name)) hs

split_part : (s : Site) (before : List PartHead) (p : PartHead) (hs : List PartHead) → SomePart (λ h. (s ≡ h.site) × HasName h.name (before ++ p ∷ [])) hs
    → SomePart (λ h. (s ≡ h.site) × HasName h.name before) hs ⊎ SomePart (λ h. (s ≡ h.site) × (h.name ≡ p.name)) hs
split_part s before p [] h = absurd h
split_part s before p (q ∷ hs) (inl h) = elim (name_in_both q.name before p h.1) [ inl n ↦ inl (inl (h.0, n)) | inr e ↦ inr (inl (h.0, e)) ]
split_part s before p (q ∷ hs) (inr h) = elim (split_part s before p hs h) [ inl n ↦ inl (inr n) | inr e ↦ inr (inr e) ]

repeated_after : (before hs : List PartHead) (s : Site) → first_repeated before hs ≡ Some s → IsRepeatedAfter before s hs
repeated_after before [] s e = absurd cc
repeated_after before (h ∷ hs) s e = here (is_among h.name before) refl e (λ next. repeated_after (before ++ h ∷ []) hs s next) where
  here : (b : Bool) → is_among h.name before ≡ b → cond b (Some h.site) (first_repeated (before ++ h ∷ []) hs) ≡ Some s → (first_repeated (before ++ h ∷ []) hs ≡ Some s → IsRepeatedAfter (before ++ h ∷ []) s hs)
      → IsRepeatedAfter before s (h ∷ hs)
  here true is e next = inl (inl (sym (same_Some h.site s e), name_among h.name before is))
  here false is e next = elim (next e) [
    | inl later ↦ elim (split_part s before h hs later) [ inl n ↦ inl (inr n) | inr pair ↦ inr (inl pair) ]
    | inr pairs ↦ inr (inr pairs)
  ]

none_named_before : (s : Site) (hs : List PartHead) → SomePart (λ h. (s ≡ h.site) × HasName h.name []) hs → ⊥
none_named_before s [] h = h
none_named_before s (p ∷ hs) (inl h) = h.1
none_named_before s (p ∷ hs) (inr h) = none_named_before s hs h

repeated_pair : (hs : List PartHead) (s : Site) → first_repeated [] hs ≡ Some s → SomePair (λ earlier later. (s ≡ later.site) × (later.name ≡ earlier.name)) hs
repeated_pair hs s e = elim (repeated_after [] hs s e) [ inl h ↦ absurd (none_named_before s hs h) | inr h ↦ h ]

present_pair : (hs : List PartHead) (s : Site) → first_where is_present (after_first is_present hs) ≡ Some s → SomePair (λ earlier later. (s ≡ later.site) × (is_present earlier ≡ true) × (is_present later ≡ true)) hs
present_pair [] s e = absurd cc
present_pair (h ∷ hs) s e = here (is_present h) refl e (λ next. present_pair hs s next) where
  here : (b : Bool) → is_present h ≡ b → first_where is_present (cond b hs (after_first is_present hs)) ≡ Some s
      → (first_where is_present (after_first is_present hs) ≡ Some s → SomePair (λ earlier later. (s ≡ later.site) × (is_present earlier ≡ true) × (is_present later ≡ true)) hs)
      → SomePair (λ earlier later. (s ≡ later.site) × (is_present earlier ≡ true) × (is_present later ≡ true)) (h ∷ hs)
  here true is e next = inl (part_in_both (λ p. (s ≡ p.site) × (is_present p ≡ true)) (λ p. (s ≡ p.site) × (is_present h ≡ true) × (is_present p ≡ true)) hs (λ p k. (k.0, is, k.1)) (part_where is_present hs s e))
  here false is e next = inr (next e)

second_present_pair : (choice : Bool) (hs : List PartHead) (s : Site) → second_present choice hs ≡ Some s → (choice ≡ true) × SomePair (λ earlier later. (s ≡ later.site) × (is_present earlier ≡ true) × (is_present later ≡ true)) hs
second_present_pair true hs s e = (refl, present_pair hs s e)
second_present_pair false hs s e = absurd cc

module _ (names : Visible) (t : AbstractType) (site : Site) (partial : Bool) (ps : WrittenParts) where
  abbrev AtParts : ConsFault → Type 0
  AtParts g = Stands names g t site (written.with_components partial ps)

  word_stands : (g : ConsFault) → word_fault (kind_of t) (heads ps) ≡ Some g → AtParts g
  word_stands g e =
      let m = mapped_from fault.PresenceWord (first_where (has_bad_word (kind_of t)) (heads ps)) g e in
      subst AtParts m.2 (part_where (has_bad_word (kind_of t)) (heads ps) m.0 m.1)

  name_stands : (g : ConsFault) → name_fault (kind_of t) (heads ps) ≡ Some g → AtParts g
  name_stands g e =
      let m = mapped_from fault.UnknownComponent (first_where (is_unknown (kind_of t)) (heads ps)) g e in
      subst AtParts m.2 (part_in_both (λ h. (m.0 ≡ h.site) × (is_unknown (kind_of t) h ≡ true)) (λ h. (m.0 ≡ h.site) × (named_in (kind_of t) h.name ≡ None)) (heads ps)
      (λ h k. (k.0, nothing_there (named_in (kind_of t) h.name) k.1)) (part_where (is_unknown (kind_of t)) (heads ps) m.0 m.1))

  repeated_stands : (g : ConsFault) → repeated_fault (heads ps) ≡ Some g → AtParts g
  repeated_stands g e = let m = mapped_from fault.RepeatedComponent (first_repeated [] (heads ps)) g e in subst AtParts m.2 (repeated_pair (heads ps) m.0 m.1)

  present_stands : (g : ConsFault) → present_fault (kind_of t) (heads ps) ≡ Some g → AtParts g
  present_stands g e =
      let m = mapped_from fault.TwoPresent (second_present (is_choice (kind_of t)) (heads ps)) g e in
      subst AtParts m.2 (second_present_pair (is_choice (kind_of t)) (heads ps) m.0 m.1)

  part_stands : (g : ConsFault) → part_fault (kind_of t) (heads ps) ≡ Some g → AtParts g
  part_stands g e = elim (or_cases_of (word_fault (kind_of t) (heads ps)) (option_or (name_fault (kind_of t) (heads ps)) (option_or (repeated_fault (heads ps)) (present_fault (kind_of t) (heads ps)))) g e) [
    | inl word ↦ word_stands g word
    | inr after ↦ elim (or_cases_of (name_fault (kind_of t) (heads ps)) (option_or (repeated_fault (heads ps)) (present_fault (kind_of t) (heads ps))) g after) [
      | inl name ↦ name_stands g name
      | inr last ↦ elim (or_cases_of (repeated_fault (heads ps)) (present_fault (kind_of t) (heads ps)) g last) [
        | inl repeated ↦ repeated_stands g repeated
        | inr present ↦ present_stands g present
      ]
    ]
  ]

-- ---- an element's own fault

limit_of_none : (outside : Bool) (e : Option WrittenEnd) → not (outside && is_none e) ≡ false → (outside ≡ true) × (e ≡ None)
limit_of_none outside e h = let p = and_parts outside (is_none e) (not-false (outside && is_none e) h) in (p.0, nothing_there e p.1)

both_or : (a b : Bool) → (a && b) ≡ false → (a ≡ false) ⊎ (b ≡ false)
both_or true b e = inr e
both_or false b e = inl refl

ends_stand : (r : WrittenRange) → has_proper_ends r ≡ false → ((r.above_low ≡ true) × (r.low ≡ None)) ⊎ ((r.below_high ≡ true) × (r.high ≡ None))
ends_stand r e = elim (both_or (not (r.above_low && is_none r.low)) (not (r.below_high && is_none r.high)) e) [
  | inl low ↦ inl (limit_of_none r.above_low r.low low)
  | inr high ↦ inr (limit_of_none r.below_high r.high high)
]

form_stands : (names : Visible) (t : AbstractType) (site : Site) (form : WrittenElementForm) (g : ConsFault) → fault_of_form names t site form ≡ Some g → Stands names g t site form
form_stands names t site (written.parentheses set) g e = absurd cc
form_stands names t site (written.value tree) g e = absurd cc
form_stands names t site (written.contained includes name_site name) g e =
    let u = unless_from (has_base_of t (names.types name)) (fault.ContainedMismatch site) g e in
    subst (λ h. Stands names h t site (written.contained includes name_site name)) u.1 (refl, u.0)
form_stands names t site (written.range r) g e = let u = unless_from (has_proper_ends r) (fault.ExclusiveLimit site) g e in subst (λ h. Stands names h t site (written.range r)) u.1 (refl, ends_stand r u.0)
form_stands names t site (written.size inner) g e = absurd cc
form_stands names t site (written.from (constraint inner set)) g e =
    let u = unless_from (not (is_none (items_of set))) (fault.AlphabetForm site) g e in
    subst (λ h. Stands names h t site (written.from (constraint inner set))) u.1 (refl, nothing_there (items_of set) (not-false (is_none (items_of set)) u.0))
form_stands names t site (written.with_component inner) g e = absurd cc
form_stands names t site (written.with_components partial ps) g e = part_stands names t site partial ps g e

own_stands : (names : Visible) (t : AbstractType) (site : Site) (form : WrittenElementForm) (g : ConsFault) → own_fault names t site form ≡ Some g → Stands names g t site form
own_stands names t site form g e = elim (or_cases_of (unless (applies (kind_of t) form) (fault.NotApplicable site)) (fault_of_form names t site form) g e) [
  | inl other ↦ let u = unless_from (applies (kind_of t) form) (fault.NotApplicable site) g other in subst (λ h. Stands names h t site form) u.1 (refl, u.0)
  | inr own ↦ form_stands names t site form g own
]

-- ---- checks in turn

first_of_both : (m : Meaning) (cs ds : List Check) (f : ConsFault) → IsOfFirst m (cs ++ ds) f → IsOfFirst m cs f ⊎ IsOfFirst m ds f
first_of_both m [] ds f h = inr h
first_of_both m (element_has None ∷ cs) ds f h = first_of_both m cs ds f h
first_of_both m (element_has (Some g) ∷ cs) ds f h = inl h
first_of_both m (value_under t tree ∷ cs) ds f (inl h) = inl (inl h)
first_of_both m (value_under t tree ∷ cs) ds f (inr h) = elim (first_of_both m cs ds f h.1) [ inl k ↦ inl (inr (h.0, k)) | inr k ↦ inr k ]

element_alone_has : (m : Meaning) (o : Option ConsFault) (f : ConsFault) → IsOfFirst m (element_has o ∷ []) f → o ≡ Some f
element_alone_has m None f h = absurd h
element_alone_has m (Some g) f h = ap Some (sym h)

bad_string : (kind : AbstractKind) (items : List AlphabetItem) (s : Site) → first_bad kind items ≡ Some s → HasBadString kind items (value_fault.BadCharacter s)
bad_string kind [] s e = absurd cc
bad_string kind (i ∷ items) s e = elim (or_cases_of (bad_item kind i) (first_bad kind items) s e) [
  | inl here ↦ inl (s, here, refl)
  | inr there ↦ inr (bad_string kind items s there)
]

module _ (names : Visible) (f : ConsFault) where
  -- what is said of an element
  abbrev Standing : AbstractType → Site → WrittenElementForm → Type 0
  Standing t site form = Stands names f t site form

  value_stands : (t : AbstractType) (site : Site) (tree : WrittenValue) → IsOfFirst names.values (value_under t tree ∷ []) f → Standing t site (written.value tree)
  value_stands t site tree (inl h) = subst (λ g. Stands names g t site (written.value tree)) (sym h.2) (first_holds names.values tree t h.0 h.1)
  value_stands t site tree (inr h) = absurd h.1

  end_stands : (t : AbstractType) (site : Site) (r : WrittenRange) (e : Option WrittenEnd) → ((g : ValueFault) → HasFaultyEnd names.values g t e → HasFaultyValue names g t (written.range r)) → IsOfFirst names.values (end_checks t e) f
      → Standing t site (written.range r)
  end_stands t site r None in_range h = absurd h
  end_stands t site r (Some e) in_range (inl h) = subst (λ g. Stands names g t site (written.range r)) (sym h.2) (in_range h.0 (first_holds names.values (value_of_end e) t h.0 h.1))
  end_stands t site r (Some e) in_range (inr h) = absurd h.1

  range_stands : (t : AbstractType) (site : Site) (r : WrittenRange) → IsOfFirst names.values (end_checks t r.low ++ end_checks t r.high) f → Standing t site (written.range r)
  range_stands t site r h = elim (first_of_both names.values (end_checks t r.low) (end_checks t r.high) f h) [
    | inl low ↦ end_stands t site r r.low (λ g k. inl k) low
    | inr high ↦ end_stands t site r r.high (λ g k. inr k) high
  ]

  items_stand : (t : AbstractType) (site inner : Site) (set : WrittenSet) (found : Option (List AlphabetItem)) → items_of set ≡ found → items_fault (kind_of t) found ≡ Some f → Standing t site (written.from (constraint inner set))
  items_stand t site inner set None is e = absurd cc
  items_stand t site inner set (Some items) is e =
      let m = mapped_from characters_fault (first_bad (kind_of t) items) f e in
      subst (λ g. Stands names g t site (written.from (constraint inner set))) m.2 (items, is, bad_string (kind_of t) items m.0 m.1)

  named_bits_stand : (t : AbstractType) (site : Site) (inner : WrittenConstraint) → named_bits_fault (kind_of t) site ≡ Some f → Standing t site (written.size inner)
  named_bits_stand t site inner e =
      let u = unless_from (not (has_named_bits (kind_of t))) (fault.SizeOnNamedBits site) f e in
      subst (λ g. Stands names g t site (written.size inner)) u.1 (refl, not-false (has_named_bits (kind_of t)) u.0)

  -- ---- of elements inside, given what is said of the constraint that they have

  each_stands : (t : AbstractType) (inner : WrittenConstraint) → ((u : AbstractType) → IsOfFirst names.values (checks names u inner) f → Somewhere Standing u inner) → (element : Option AbstractType) → element_of (kind_of t) ≡ element
      → IsOfFirst names.values (checks_on (λ u. checks names u inner) element) f → Inside Standing t (written.with_component inner)
  each_stands t inner inside None is h = absurd h
  each_stands t inner inside (Some u) is h = (u, is, inside u h)

  part_has : (kind : AbstractKind) (name : List ℕ) (inner : WrittenConstraint) → ((u : AbstractType) → IsOfFirst names.values (checks names u inner) f → Somewhere Standing u inner) → (found : Option Located) → named_in kind name ≡ found
      → IsOfFirst names.values (checks_on (λ u. checks names u inner) (type_there found)) f → (p : Located) × (named_in kind name ≡ Some p) × Somewhere Standing p.ty inner
  part_has kind name inner inside None is h = absurd h
  part_has kind name inner inside (Some p) is h = (p, is, inside p.ty h)

-- ---- all of it

mutual
  constraint_stands : (names : Visible) (f : ConsFault) (tree : WrittenConstraint) (t : AbstractType) → IsOfFirst names.values (checks names t tree) f → Somewhere (Standing names f) t tree
  constraint_stands names f (constraint site set) t h = set_stands names f set t h

  set_stands : (names : Visible) (f : ConsFault) (set : WrittenSet) (t : AbstractType) → IsOfFirst names.values (set_checks names t set) f → InSet (Standing names f) t set
  set_stands names f (set_node site form) t h = set_form_stands names f form t h

  set_form_stands : (names : Visible) (f : ConsFault) (form : WrittenSetForm) (t : AbstractType) → IsOfFirst names.values (set_form_checks names t form) f → InSetForm (Standing names f) t form
  set_form_stands names f (all_except e) t h = element_stands names f e t h
  set_form_stands names f (union first others) t h = elim (first_of_both names.values (intersection_checks names t first) (united_checks names t others) f h) [
    | inl k ↦ inl (intersection_stands names f first t k)
    | inr k ↦ inr (united_stand names f others t k)
  ]

  united_stand : (names : Visible) (f : ConsFault) (others : WrittenUnited) (t : AbstractType) → IsOfFirst names.values (united_checks names t others) f → InUnited (Standing names f) t others
  united_stand names f none_united t h = absurd h
  united_stand names f (united mark one others) t h = elim (first_of_both names.values (intersection_checks names t one) (united_checks names t others) f h) [
    | inl k ↦ inl (intersection_stands names f one t k)
    | inr k ↦ inr (united_stand names f others t k)
  ]

  intersection_stands : (names : Visible) (f : ConsFault) (one : WrittenIntersection) (t : AbstractType) → IsOfFirst names.values (intersection_checks names t one) f → InIntersection (Standing names f) t one
  intersection_stands names f (intersection site first others) t h = elim (first_of_both names.values (difference_checks names t first) (met_checks names t others) f h) [
    | inl k ↦ inl (difference_stands names f first t k)
    | inr k ↦ inr (met_stand names f others t k)
  ]

  met_stand : (names : Visible) (f : ConsFault) (others : WrittenMet) (t : AbstractType) → IsOfFirst names.values (met_checks names t others) f → InMet (Standing names f) t others
  met_stand names f none_met t h = absurd h
  met_stand names f (met mark one others) t h = elim (first_of_both names.values (difference_checks names t one) (met_checks names t others) f h) [
    | inl k ↦ inl (difference_stands names f one t k)
    | inr k ↦ inr (met_stand names f others t k)
  ]

  difference_stands : (names : Visible) (f : ConsFault) (one : WrittenDifference) (t : AbstractType) → IsOfFirst names.values (difference_checks names t one) f → InDifference (Standing names f) t one
  difference_stands names f (element_alone site e) t h = element_stands names f e t h
  difference_stands names f (element_except site e less) t h = elim (first_of_both names.values (element_checks names t e) (element_checks names t less) f h) [
    | inl k ↦ inl (element_stands names f e t k)
    | inr k ↦ inr (element_stands names f less t k)
  ]

  element_stands : (names : Visible) (f : ConsFault) (e : WrittenElement) (t : AbstractType) → IsOfFirst names.values (element_checks names t e) f → InElement (Standing names f) t e
  element_stands names f (element_node site form) t h = elim (first_of_both names.values (element_has (own_fault names t site form) ∷ []) (checks_inside names t site form) f h) [
    | inl k ↦ inl (own_stands names t site form f (element_alone_has names.values (own_fault names t site form) f k))
    | inr k ↦ inside_stands names f form t site k
  ]

  inside_stands : (names : Visible) (f : ConsFault) (form : WrittenElementForm) (t : AbstractType) (site : Site) → IsOfFirst names.values (checks_inside names t site form) f → InElement (Standing names f) t (element_node site form)
  inside_stands names f (written.parentheses set) t site h = inr (set_stands names f set t h)
  inside_stands names f (written.value tree) t site h = inl (value_stands names f t site tree h)
  inside_stands names f (written.contained includes name_site name) t site h = absurd h
  inside_stands names f (written.range r) t site h = inl (range_stands names f t site r h)
  inside_stands names f (written.size inner) t site h = elim (first_of_both names.values (checks names type_of_size inner) (element_has (named_bits_fault (kind_of t) site) ∷ []) f h) [
    | inl k ↦ inr (constraint_stands names f inner type_of_size k)
    | inr k ↦ inl (named_bits_stand names f t site inner (element_alone_has names.values (named_bits_fault (kind_of t) site) f k))
  ]
  inside_stands names f (written.from (constraint inner set)) t site h =
      inl (items_stand names f t site inner set (items_of set) refl (element_alone_has names.values (items_fault (kind_of t) (items_of set)) f h))
  inside_stands names f (written.with_component inner) t site h = inr (each_stands names f t inner (λ u k. constraint_stands names f inner u k) (element_of (kind_of t)) refl h)
  inside_stands names f (written.with_components partial ps) t site h = inr (parts_stand names f ps (kind_of t) h)

  parts_stand : (names : Visible) (f : ConsFault) (ps : WrittenParts) (kind : AbstractKind) → IsOfFirst names.values (part_checks names kind ps) f → InParts (Standing names f) kind ps
  parts_stand names f no_parts kind h = absurd h
  parts_stand names f (part site name presence others) kind h = parts_stand names f others kind h
  parts_stand names f (part_in site name inner presence others) kind h =
      elim (first_of_both names.values (checks_on (λ u. checks names u inner) (type_there (named_in kind name))) (part_checks names kind others) f h) [
        | inl k ↦ inl (part_has names f kind name inner (λ u c. constraint_stands names f inner u c) (named_in kind name) refl k)
        | inr k ↦ inr (parts_stand names f others kind k)
      ]

pub first_stands : (names : Visible) (t : AbstractType) (tree : WrittenConstraint) (f : ConsFault) → IsFirstConstraintFault names t tree f → IsConstraintFaultIn names t tree f
first_stands names t tree f h = constraint_stands names f tree t h
