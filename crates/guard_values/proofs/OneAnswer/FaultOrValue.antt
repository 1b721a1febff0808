-- What reading gives, by the definitions: the first fault, or the value denoted; and that there is one of the two, and
-- not both.
use Rattle.std.proofs.Common.{◌≡◌, ℕ, true, false, List, [], ◌∷◌, Option, Some, None, Ok, Err, inl, inr, ◌⊎◌, Result, IfOk, IfErr, IfSome, option_map, refl, sym, ap, ◌∙◌, subst, arith}
use Rattle.std.specs.Prelude.{◌↔◌, nat_eq, not}
use Rattle.std.proofs.lemmas.Bool.{and_parts, eq-eqb}
use Rattle.guard_model.proofs.Results.{same_Ok}
use Rattle.guard_model.specs.Answer.{Gives, Refuses}
use Rattle.guard_model.specs.ValueView.{value_view}
use Rattle.guard_model.specs.declared.value.Value.{Value}
use Rattle.guard_model.specs.declared.site.Site.{Site}
use Rattle.guard_model.specs.AbstractType as type
use Rattle.guard_model.specs.AbstractType.{AbstractType, AbstractKind, Components, type_of}
use Rattle.guard_model.specs.AbstractValue.{AbstractValue, Fields}
use Rattle.guard_tagcheck.specs.Distinct.{component_type}
use Rattle.guard_der.specs.Der.{der, contents_octets}
use Rattle.guard_der.specs.ProperConstraints.{is_short}
use Rattle.guard_der.specs.Sound.{is_proper, is_proper_kind, is_sound}
use Rattle.guard_syntax.specs.Trees as written
use Rattle.guard_syntax.specs.Trees.{WrittenValue, WrittenValueForm, WrittenEntries, value_node, no_entries, entry}
use Rattle.guard_values.specs.declared.fault.ValueFault.{ValueFault}
use Rattle.guard_values.specs.Meanings.{Meaning}
use Rattle.guard_model.specs.Kinds.{kind_of}
use Rattle.guard_values.specs.Places.{Located, located, entry_places, is_among, are_different}
use Rattle.guard_values.specs.Arrangement.{are_short}
use Rattle.guard_values.specs.Denotes.{alternatives_of, Says, FormSays, BracesDenote, ChosenDenotes, EntrySays, EntriesSay, Denotes}
use Rattle.guard_values.specs.Faults.{faults_of}
use Rattle.guard_values.specs.Conditions.{entry_type, chosen_type, Somewhere, Inside, InEntry, HasLongEncoding}
use Rattle.guard_values.specs.FirstFault.{IsFirstFault}
use Rattle.guard_values.specs.inside.Reading.{Read, read_whole}
use Rattle.guard_values.specs.Views.{named}
use Rattle.guard_values.proofs.Denoted.DenotedIsRead.{says_read, after_first, at_first, not_true, place_tells, or_second, ordered_differ}
use Rattle.guard_values.proofs.Denoted.SettledFields.{field_at, located_type, fields_wanted}
use Rattle.guard_values.proofs.Fitting.DenotedValuesFit.{proper_kind}
use Rattle.guard_values.proofs.OneAnswer.LengthsInside.{Within, short_within, within_short, contents_within, alternative_is, AreWithin, items_within, FieldsWithin, sequence_within, set_within}
use Rattle.guard_values.proofs.Braces.ProperComponents.{proper_there, choice_parts}
use Rattle.guard_values.proofs.FirstFaults.WholeValues.{not_there, whole_first, one_first, whole_denotes, denotes_whole}
use Rattle.guard_values.proofs.FirstFaults.ReadingRefuses.{read_tells, Tells, IsLong}
use Rattle.guard_values.proofs.OneAnswer.CodeAnswers.{sound_proper}

-- ---- nothing inside a value with a short encoding has a long one

short_elements : (t : AbstractType) (vs : List AbstractValue) → are_short t vs ≡ true → AreWithin 1048576 t vs
short_elements t [] e = tt
short_elements t (v ∷ vs) e = let p = and_parts (is_short (der t v)) (are_short t vs) e in (short_within (der t v) p.0, short_elements t vs p.1)

short_or_long : (o : Option (List ℕ)) → Within 1048576 o → is_short o ≡ false → ⊥
short_or_long o h e = let short = within_short o h in absurd cc

same_types : (t u : AbstractType) → ◌≡◌ {A = Option AbstractType} (Some t) (Some u) → t ≡ u
same_types t u e = cc

-- the entry for each place that is named, with a value whose encoding is short
abbrev ShortEntries : Meaning → Components → WrittenEntries → Type 0
ShortEntries m cs es = (i : ℕ) (u : AbstractType) → component_type i cs ≡ Some u → is_among i (entry_places cs es) ≡ true → (v : AbstractValue) × EntrySays m cs es i u v × Within 1048576 (der u v)

abbrev pub Long : Meaning → AbstractType → WrittenValue → Type 0
Long m t tree = Somewhere (HasLongEncoding m) t tree

module _ (m : Meaning) (tree : WrittenValue) (inside : (u : AbstractType) (w : AbstractValue) → is_proper u ≡ true → Says m u tree w → Within 1048576 (der u w) → Long m u tree → ⊥) where
  chosen_short : (kind : AbstractKind) (name : List ℕ) (v : AbstractValue) → is_proper_kind kind ≡ true → ChosenDenotes name (alternatives_of kind) (λ u w. Says m u tree w) v → Within 1048576 (contents_octets kind v)
      → (u : AbstractType) → chosen_type kind name ≡ Some u → Long m u tree → ⊥
  chosen_short (type.choice cs) name v proper h short u is long =
      let l = h.0 in
      let ty : l.ty ≡ u = same_types l.ty u (sym (ap (option_map (λ k. k.ty)) h.2) ∙ is) in
      let octets : contents_octets (type.choice cs) v ≡ der l.ty h.1 = ap (contents_octets (type.choice cs)) h.4 ∙ alternative_is cs l.place l.ty h.1 (located_type cs name l h.2) in
      inside l.ty h.1 (proper_there cs name l (choice_parts cs proper).1 h.2) h.3 (subst (Within 1048576) octets short) (subst (λ x. Long m x tree) (sym ty) long)
  chosen_short kind name v proper h short u is long = let none = h.2 in absurd cc

  module _ (cs : Components) (site : Site) (name : List ℕ) (rest : WrittenEntries) (shorts : ShortEntries m cs (entry site (Some name) tree rest)) where
    first_short : (kind : AbstractKind) (found : Option Located) → located name cs ≡ found → entry_type kind (Some name) ≡ option_map (λ l. l.ty) found → are_different (entry_places cs (entry site (Some name) tree rest)) ≡ true
        → ((l : Located) → found ≡ Some l → is_proper l.ty ≡ true) → (u : AbstractType) → entry_type kind (Some name) ≡ Some u → Long m u tree → ⊥
    first_short kind None e typed different proper u is long = let both = sym typed ∙ is in absurd cc
    first_short kind (Some l) e typed different proper u is long =
        let p = l.place in
        let ps = entry_places cs rest in
        let whole = entry_places cs (entry site (Some name) tree rest) in
        let places : whole ≡ Some p ∷ ps = ap (λ (o : Option Located). option_map (λ l. l.place) o ∷ ps) e in
        let d = and_parts (not (is_among p ps)) (are_different ps) (sym (ap are_different places) ∙ different) in
        let same : nat_eq p p ≡ true = eq-eqb p p refl in
        let here : is_among p whole ≡ true = ap (is_among p) places ∙ (rw same refl) in
        let w = shorts p l.ty (located_type cs name l e) here in
        let ty : l.ty ≡ u = same_types l.ty u (sym typed ∙ is) in
        let said : Says m l.ty tree w.0 = at_first m cs site (Some name) tree rest p l.ty w.0 (not_true (is_among p ps) d.0) w.1 in
        inside l.ty w.0 (proper l refl) said w.2 (subst (λ x. Long m x tree) (sym ty) long)

  later_short : (cs : Components) (site : Site) (name : List ℕ) (rest : WrittenEntries) (found : Option Located) → located name cs ≡ found → are_different (entry_places cs (entry site (Some name) tree rest)) ≡ true
      → ShortEntries m cs (entry site (Some name) tree rest) → ShortEntries m cs rest × (are_different (entry_places cs rest) ≡ true)
  later_short cs site name rest None e different shorts = absurd (let h = rw e at different in cc)
  later_short cs site name rest (Some l) e different shorts =
      let p = l.place in
      let ps = entry_places cs rest in
      let whole = entry_places cs (entry site (Some name) tree rest) in
      let places : whole ≡ Some p ∷ ps = ap (λ (o : Option Located). option_map (λ l. l.place) o ∷ ps) e in
      let d = and_parts (not (is_among p ps)) (are_different ps) (sym (ap are_different places) ∙ different) in
      let once : is_among p ps ≡ false = not_true (is_among p ps) d.0 in (
        λ j u ct a.
            let x = shorts j u ct (ap (is_among j) places ∙ or_second (nat_eq j p) (is_among j ps) a) in
            (x.0, after_first m cs site (Some name) tree rest p j u x.0 (ap (option_map (λ l. l.place)) e) (place_tells j p ps once a) x.1, x.2),
        d.1,
      )

module _ (m : Meaning) (es : WrittenEntries)
    (elements : (kind : AbstractKind) (u : AbstractType) (ws : List AbstractValue) → entry_type kind None ≡ Some u → is_proper u ≡ true → EntriesSay m u es ws → AreWithin 1048576 u ws → InEntry (HasLongEncoding m) kind es → ⊥)
    (entries : (kind : AbstractKind) (cs : Components) → ((name : List ℕ) → entry_type kind (Some name) ≡ option_map (λ l. l.ty) (located name cs)) → entry_type kind None ≡ None
    → ((name : List ℕ) (l : Located) → located name cs ≡ Some l → is_proper l.ty ≡ true) → are_different (entry_places cs es) ≡ true → ShortEntries m cs es → InEntry (HasLongEncoding m) kind es → ⊥) where
  fields_short : (cs : Components) (fs : Fields) → are_different (entry_places cs es) ≡ true → FieldsWithin 1048576 cs fs
      → ((i : ℕ) (u : AbstractType) → component_type i cs ≡ Some u → is_among i (entry_places cs es) ≡ true → (v : AbstractValue) × (field_at i fs ≡ Some v) × EntrySays m cs es i u v) → ShortEntries m cs es
  fields_short cs fs different within wanted = λ i u is among. let w = wanted i u is among in (w.0, w.2, within i u w.0 is w.1)

  braces_short : (kind : AbstractKind) (v : AbstractValue) → is_proper_kind kind ≡ true → BracesDenote kind es (λ cs i u w. EntrySays m cs es i u w) (λ u ws. EntriesSay m u es ws) v → Within 1048576 (contents_octets kind v)
      → InEntry (HasLongEncoding m) kind es → ⊥
  braces_short (type.sequence cs) v proper h short long =
      let parts = (choice_parts cs proper).1 in
      let different = ordered_differ 0 (entry_places cs es) h.0 in
      let wanted = fields_wanted (entry_places cs es) (λ i u w. EntrySays m cs es i u w) 0 cs h.1.0 h.1.1 in
      let within = sequence_within cs h.1.0 parts (subst (λ x. Within 1048576 (contents_octets (type.sequence cs) x)) h.1.2 short) in
      entries (type.sequence cs) cs (λ name. refl) refl (λ name l e. proper_there cs name l parts e) different (fields_short cs h.1.0 different within (λ i u e a. wanted i i u (omega arith) e a)) long
  braces_short (type.set cs) v proper h short long =
      let parts = (choice_parts cs proper).1 in
      let wanted = fields_wanted (entry_places cs es) (λ i u w. EntrySays m cs es i u w) 0 cs h.1.0 h.1.1 in
      let within = set_within cs h.1.0 parts (subst (λ x. Within 1048576 (contents_octets (type.set cs) x)) h.1.2 short) in
      entries (type.set cs) cs (λ name. refl) refl (λ name l e. proper_there cs name l parts e) h.0 (fields_short cs h.1.0 h.0 within (λ i u e a. wanted i i u (omega arith) e a)) long
  braces_short (type.sequence_of u) v proper h short long =
      elements (type.sequence_of u) u h.0 refl proper h.1 (items_within 1048576 u h.0 (subst (λ x. Within 1048576 (contents_octets (type.sequence_of u) x)) h.3 short)) long
  braces_short (type.set_of u) v proper h short long = elements (type.set_of u) u h.0 refl proper h.1 (short_elements u h.0 h.3) long
  braces_short (type.bit_string []) v proper h short long = absurd h
  braces_short (type.bit_string (name ∷ names)) v proper h short long = no_value_inside es long where
    no_value_inside : (es : WrittenEntries) → InEntry (HasLongEncoding m) (type.bit_string (name ∷ names)) es → ⊥
    no_value_inside no_entries h = absurd h
    no_value_inside (entry site label tree rest) (inl h) = let is = h.1 in absurd cc
    no_value_inside (entry site label tree rest) (inr h) = no_value_inside rest h
  braces_short kind v proper h short long = absurd h

mutual
  pub none_long : (m : Meaning) (tree : WrittenValue) (t : AbstractType) (v : AbstractValue) → is_proper t ≡ true → Says m t tree v → Within 1048576 (der t v) → Long m t tree → ⊥
  none_long m (value_node site form) t v proper says short (inl h) =
      let same : h.0 ≡ v = same_Ok h.0 v (sym (says_read m (value_node site form) t h.0 h.1) ∙ says_read m (value_node site form) t v says) in
      short_or_long (der t h.0) (subst (λ x. Within 1048576 (der t x)) (sym same) short) h.2
  none_long m (value_node site form) t v proper says short (inr h) = none_inside m form t v (proper_kind t proper) says (contents_within 1048576 t v short) h

  none_inside : (m : Meaning) (form : WrittenValueForm) (t : AbstractType) (v : AbstractValue) → is_proper_kind (kind_of t) ≡ true → FormSays m t form v → Within 1048576 (contents_octets (kind_of t) v)
      → Inside (HasLongEncoding m) (kind_of t) form → ⊥
  none_inside m (written.chosen name tree) t v proper says short h =
      chosen_short m tree (λ u w p s within long. none_long m tree u w p s within long) (kind_of t) name v proper says short h.0 h.1 h.2
  none_inside m (written.list es) t v proper says short h =
      braces_short m es (λ kind u ws is p s within long. none_in_elements m es kind u ws is p s within long)
      (λ kind cs typed alone proper_ones different shorts long. none_in_entries m es kind cs typed alone proper_ones different shorts long) (kind_of t) v proper says short h
  none_inside m form t v proper says short h = absurd h

  none_in_elements : (m : Meaning) (es : WrittenEntries) (kind : AbstractKind) (u : AbstractType) (ws : List AbstractValue) → entry_type kind None ≡ Some u → is_proper u ≡ true → EntriesSay m u es ws → AreWithin 1048576 u ws
      → InEntry (HasLongEncoding m) kind es → ⊥
  none_in_elements m no_entries kind u ws is proper says short h = absurd h
  none_in_elements m (entry site (Some name) tree rest) kind u ws is proper says short h = absurd says
  none_in_elements m (entry site None tree rest) kind u ws is proper says short (inl h) =
      let ty : h.0 ≡ u = same_types h.0 u (sym h.1 ∙ is) in
      let all : AreWithin 1048576 u (says.0 ∷ says.1) = subst (AreWithin 1048576 u) says.4 short in
      none_long m tree u says.0 proper says.2 all.0 (subst (λ x. Long m x tree) ty h.2)
  none_in_elements m (entry site None tree rest) kind u ws is proper says short (inr h) =
      let all : AreWithin 1048576 u (says.0 ∷ says.1) = subst (AreWithin 1048576 u) says.4 short in
      none_in_elements m rest kind u says.1 is proper says.3 all.1 h

  none_in_entries : (m : Meaning) (es : WrittenEntries) (kind : AbstractKind) (cs : Components) → ((name : List ℕ) → entry_type kind (Some name) ≡ option_map (λ l. l.ty) (located name cs)) → entry_type kind None ≡ None
      → ((name : List ℕ) (l : Located) → located name cs ≡ Some l → is_proper l.ty ≡ true) → are_different (entry_places cs es) ≡ true → ShortEntries m cs es → InEntry (HasLongEncoding m) kind es → ⊥
  none_in_entries m no_entries kind cs typed alone proper different shorts h = absurd h
  none_in_entries m (entry site None tree rest) kind cs typed alone proper different shorts h = absurd cc
  none_in_entries m (entry site (Some name) tree rest) kind cs typed alone proper different shorts (inl h) =
      first_short m tree (λ u w p s within long. none_long m tree u w p s within long) cs site name rest shorts kind (located name cs) refl (typed name) different (λ l e. proper name l e) h.0 h.1 h.2
  none_in_entries m (entry site (Some name) tree rest) kind cs typed alone proper different shorts (inr h) =
      let later = later_short m tree (λ u w p s within long. none_long m tree u w p s within long) cs site name rest (located name cs) refl different shorts in
      none_in_entries m rest kind cs typed alone proper later.1 later.0 h

-- ---- the two answers

pub says_faultless : (m : Meaning) (tree : WrittenValue) (t : AbstractType) (v : AbstractValue) → Says m t tree v → faults_of m t tree ≡ []
says_faultless m tree t v h = subst (λ (r : Read AbstractValue). Tells (IsLong m true t tree) (faults_of m t tree) r) (says_read m tree t v h) (read_tells m true tree t)

-- Where a fault is the first, nothing is denoted.
pub first_excludes : (m : Meaning) (tree : WrittenValue) (t : AbstractType) (f : ValueFault) (v : AbstractValue) → is_sound t ≡ true → IsFirstFault m t tree f → Denotes m t tree v → ⊥
first_excludes m tree t f v sound (inl h) d = not_there (faults_of m t tree) f h (says_faultless m tree t v d.0)
first_excludes m (value_node site form) t f v sound (inr h) d = none_long m (value_node site form) t v (sound_proper t sound) d.0 (short_within (der t v) d.1) h.1.1

first_read : (m : Meaning) (tree : WrittenValue) (t : AbstractType) (f : ValueFault) (r : Read AbstractValue) → is_sound t ≡ true → read_whole m t tree ≡ r → IsFirstFault m t tree f → r ≡ Err f
first_read m tree t f (Ok v) sound is h = absurd (first_excludes m tree t f v sound h (whole_denotes m tree t v is))
first_read m tree t f (Err g) sound is h = ap Err (one_first m tree t g f (whole_first m tree t g is) h)

-- Reading refuses with the first fault, and with no other.
pub refused_first : (m : Meaning) (t : AbstractType) (tree : WrittenValue) (f : ValueFault) → is_sound t ≡ true → (read_whole m t tree ≡ Err f) ↔ IsFirstFault m t tree f
refused_first m t tree f sound = (λ e. whole_first m tree t f e, λ h. first_read m tree t f (read_whole m t tree) sound refl h)

-- Reading gives the value denoted, and no other.
pub read_denoted : (m : Meaning) (t : AbstractType) (tree : WrittenValue) (v : AbstractValue) → (read_whole m t tree ≡ Ok v) ↔ Denotes m t tree v
read_denoted m t tree v = (λ e. whole_denotes m tree t v e, λ h. denotes_whole m tree t v h)

either_read : (m : Meaning) (t : AbstractType) (tree : WrittenValue) (r : Read AbstractValue) → read_whole m t tree ≡ r → ((v : AbstractValue) × Denotes m t tree v) ⊎ ((f : ValueFault) × IsFirstFault m t tree f)
either_read m t tree (Ok v) is = inl (v, whole_denotes m tree t v is)
either_read m t tree (Err f) is = inr (f, whole_first m tree t f is)

-- A value is denoted, or there is a first fault.
pub denoted_or_faulty : (m : Meaning) (t : AbstractType) (tree : WrittenValue) → ((v : AbstractValue) × Denotes m t tree v) ⊎ ((f : ValueFault) × IsFirstFault m t tree f)
denoted_or_faulty m t tree = either_read m t tree (read_whole m t tree) refl

-- What a call answers that gives the value denoted and names the first fault.
module _ (m : Meaning) (t : AbstractType) (tree : WrittenValue) (sound : is_sound t ≡ true) where
  refuses_first : (f : Option ValueFault) → IfSome f (IsFirstFault m t tree) → Refuses f (read_whole m t tree)
  refuses_first None h = tt
  refuses_first (Some f) h = (refused_first m t tree f sound).1 h

  pub gives_read : (answer : Result Value ValueFault) → IfOk answer (λ v. Denotes m t tree (value_view v)) → IfErr answer (λ e. IfSome (named e) (IsFirstFault m t tree)) → Gives value_view named answer (read_whole m t tree)
  gives_read (Ok v) denoted first = (read_denoted m t tree (value_view v)).1 denoted
  gives_read (Err e) denoted first = refuses_first (named e) first
