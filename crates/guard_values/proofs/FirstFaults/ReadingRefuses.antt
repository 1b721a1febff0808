-- Reading refuses what has a fault, by the first one; or an encoding inside is too long to sort by.
use Rattle.std.proofs.Common.{◌≡◌, ℕ, zero, suc, ◌+◌, Bool, true, false, cond, not, ◌&&◌, ◌||◌, ℤ, List, [], ◌∷◌, ◌++◌, length, Option, Some, None, Ok, Err, inl, inr, ◌⊎◌, option_map, refl, sym, ap, ◌∙◌, subst, arith}
use Rattle.std.specs.Prelude.{nat_eq, nat_lt, nat_le, is_some, slice_get, option_to_list}
use Rattle.std.proofs.lemmas.Bool.Decides.{eqb_tells}
use Rattle.std.proofs.lemmas.Grind.{common_steps}
use Rattle.guard_model.specs.Answer.{◌>>=◌}
use Rattle.guard_model.proofs.Results.{same_Ok, bind_ok, made_ok}
use Rattle.guard_model.specs.declared.site.Site.{Site}
use Rattle.guard_model.specs.AbstractType as type
use Rattle.guard_model.specs.AbstractType.{AbstractType, AbstractKind, AbstractPresence, Components, NamedNumber, no_components, component}
use Rattle.guard_model.specs.AbstractValue as value
use Rattle.guard_model.specs.AbstractValue.{AbstractValue, Fields, items_of}
use Rattle.guard_model.specs.SameType.{same_base}
use Rattle.guard_tagcheck.specs.Distinct.{component_type}
use Rattle.guard_der.specs.Der.{der}
use Rattle.guard_model.specs.Limits.{fits_128_bits}
use Rattle.guard_der.specs.ProperConstraints.{is_short}
use Rattle.guard_model.specs.Slots.{all_absent}
use Rattle.guard_der.specs.Reading.{is_filled, fill, field_before}
use Rattle.guard_syntax.specs.declared.tree.StringKind.{StringKind}
use Rattle.guard_syntax.specs.declared.tree.StringKind.TheVariants as string
use Rattle.guard_syntax.specs.Trees as written
use Rattle.guard_syntax.specs.Trees.{WrittenNumber, WrittenArc, WrittenValue, WrittenValueForm, WrittenEntries, value_node, no_entries, entry}
use Rattle.guard_values.specs.declared.fault.ValueFault.{ValueFault}
use Rattle.guard_values.specs.declared.fault.ValueFault.TheVariants.{WrongNotation, UnknownName, MissingComponent, RepeatedComponent, OutOfOrder, BadCharacter, BadObjectId, TooLarge}
use Rattle.guard_syntax.specs.Numbers.{number_of}
use Rattle.guard_values.specs.ObjectIdentifiers.{arc_numbers, too_large_arc, are_arcs}
use Rattle.guard_values.specs.Meanings.{Governed, Meaning, own_number}
use Rattle.guard_model.specs.Kinds.{kind_of}
use Rattle.guard_values.specs.NamedBits.{name_alone, named_bit, ones_at}
use Rattle.guard_values.specs.Simple.{bits_value, boolean_value, null_value, text_value}
use Rattle.guard_values.specs.Places.{Located, located, entry_place, entry_places, is_among, may_be_left_out}
use Rattle.guard_values.specs.Arrangement.{arranged}
use Rattle.guard_values.specs.Denotes.{alternatives_of, are_few}
use Rattle.guard_values.specs.Forms.{takes, are_too_few_arcs, entry_count}
use Rattle.guard_values.specs.Conditions.{entry_type, Somewhere, InEntry, HasLongEncoding}
use Rattle.guard_values.specs.Faults.{misses, is_below_some, where_taken, unless, faults_of_name, faults_of_arcs, faults_of_place, faults_after, faults_of_bit, faults_of_bits, faults_of_count, faults_of_list, faults_there, faults_of, faults_of_entries, faults_of_elements}
use Rattle.guard_values.specs.inside.Reading.{Read, answered, read_bit, read_places, read_named_bits, read_integer, read_text, limited_arcs, read_arcs, read_named, read_reference, placed, entry_at, settled, completed, few, read_chosen, read_fields, read_set_of, read_braces, perhaps_limited, site_of, element_at, kept, kept_read, read, read_form, read_entries, read_elements}
use Rattle.guard_values.proofs.Denoted.SettledFields.{field_at, HasFields, has_absent, has_filled, none_filled, filled_there, unfilled_elsewhere, located_type}
use Rattle.guard_values.proofs.Denoted.ReadIsDenoted.{read_said, entry_ok}

-- what an answer says of the faults: there is none, or it is the first
abbrev pub Tells : {A : Type 0} → Type 0 → List ValueFault → Read A → Type 0
Tells Long faults (Ok v) = faults ≡ []
Tells Long faults (Err f) = (slice_get faults 0 ≡ Some f) ⊎ Long

first_then : (first second : List ValueFault) (f : ValueFault) → slice_get first 0 ≡ Some f → slice_get (first ++ second) 0 ≡ Some f
first_then [] second f h = absurd cc
first_then (g ∷ first) second f h = h

module _ {A B : Type 0} (Long : Type 0) where
  tells_then : (first second : List ValueFault) (r : Read A) (next : A → Read B) → Tells Long first r → ((v : A) → r ≡ Ok v → Tells Long second (next v)) → Tells Long (first ++ second) (r >>= next)
  tells_then first second (Ok v) next h more = subst (λ (o : List ValueFault). Tells Long (o ++ second) (next v)) (sym h) (more v refl)
  tells_then first second (Err f) next (inl h) more = inl (first_then first second f h)
  tells_then first second (Err f) next (inr l) more = inr l

  tells_made : (first : List ValueFault) (r : Read A) (make : A → B) → Tells Long first r → Tells Long first (r >>= λ v. Ok (make v))
  tells_made first (Ok v) make h = h
  tells_made first (Err f) make h = h

tells_in : {A : Type 0} (Long Longer : Type 0) (first : List ValueFault) (r : Read A) → (Long → Longer) → Tells Long first r → Tells Longer first r
tells_in Long Longer first (Ok v) wider h = h
tells_in Long Longer first (Err f) wider (inl h) = inl h
tells_in Long Longer first (Err f) wider (inr l) = inr (wider l)

kept_tells : (Long : Type 0) (sorted : Bool) (first : List ValueFault) (r : Read AbstractValue) → Tells Long first r → Tells Long first (kept_read sorted r)
kept_tells Long true first r h = h
kept_tells Long false first r h = tells_made Long first r (λ v. value.null) h

-- ---- without a value inside

module _ (Long : Type 0) where
  test_tells : {A : Type 0} (b : Bool) (f : ValueFault) (v : A) → Tells Long (unless b f) (cond b (Ok v) (Err f))
  test_tells true f v = refl
  test_tells false f v = inl refl

  limit_tells : {A : Type 0} (b : Bool) (f : ValueFault) (v : A) → Tells Long (unless b f) (answered f (cond b (Some v) None))
  limit_tells true f v = refl
  limit_tells false f v = inl refl

  some_tells : {A : Type 0} (f : ValueFault) (o : Option A) → Tells Long (unless (is_some o) f) (answered f o)
  some_tells f None = inl refl
  some_tells f (Some v) = refl

  module _ (site : Site) where
    boolean_tells : (kind : AbstractKind) (b : Bool) → Tells Long (where_taken (takes kind (written.boolean b)) site []) (answered (WrongNotation site) (boolean_value kind b))
    boolean_tells type.boolean b = refl
    boolean_tells kind b = inl refl

    null_tells : (kind : AbstractKind) → Tells Long (where_taken (takes kind written.null) site []) (answered (WrongNotation site) (null_value kind))
    null_tells type.null = refl
    null_tells kind = inl refl

    integer_tells : (kind : AbstractKind) (n : WrittenNumber)
        → Tells Long (where_taken (takes kind (written.integer n)) site (unless (fits_128_bits (number_of n)) (TooLarge n.site))) (read_integer site kind n)
    integer_tells (type.integer ns) n = limit_tells (fits_128_bits (number_of n)) (TooLarge n.site) (value.integer (number_of n))
    integer_tells kind n = inl refl

    text_tells : (kind : AbstractKind) (k : StringKind) (spelling : List ℕ)
        → Tells Long (where_taken (takes kind (written.text k spelling)) site (unless (is_some (text_value kind k spelling)) (BadCharacter site))) (read_text site kind k spelling)
    text_tells (type.characters c) string.Characters spelling = some_tells (BadCharacter site) (text_value (type.characters c) string.Characters spelling)
    text_tells (type.bit_string names) string.Bits spelling = refl
    text_tells (type.bit_string names) string.Hexadecimal spelling = refl
    text_tells type.octet_string string.Bits spelling = refl
    text_tells type.octet_string string.Hexadecimal spelling = refl
    text_tells kind string.Characters spelling = inl refl
    text_tells kind string.Bits spelling = inl refl
    text_tells kind string.Hexadecimal spelling = inl refl

    named_tells : (t : AbstractType) (own : Option ℤ) (visible : Option Governed) → Tells Long (faults_of_name site t own visible) (read_named site t own visible)
    named_tells t (Some z) visible = limit_tells (fits_128_bits z) (TooLarge site) _
    named_tells t None None = inl refl
    named_tells t None (Some g) = limit_tells (same_base t g.ty) (WrongNotation site) g.value

    reference_tells : (t : AbstractType) (kind : AbstractKind) (name : List ℕ) (visible : Option Governed)
        → Tells Long (where_taken (takes kind (written.reference name)) site (faults_of_name site t (own_number kind name) visible)) (read_named site t (own_number kind name) visible)
    reference_tells t kind name visible = named_tells t (own_number kind name) visible

    limits_tell : (large : Option Site) (arcs : List ℕ) → Tells Long (option_to_list (option_map TooLarge large) ++ unless (are_arcs arcs) (BadObjectId site)) (limited_arcs site large arcs)
    limits_tell (Some s) arcs = inl refl
    limits_tell None arcs = test_tells (are_arcs arcs) (BadObjectId site) (value.object_identifier arcs)

    arcs_tell : (kind : AbstractKind) (arcs : List WrittenArc) → Tells Long (where_taken (takes kind (written.arcs arcs)) site (faults_of_arcs site arcs)) (read_arcs site kind arcs)
    arcs_tell type.object_identifier arcs = limits_tell (too_large_arc arcs) (arc_numbers arcs)
    arcs_tell kind arcs = inl refl

    -- ---- a chosen alternative

    module _ (find : AbstractType → List ValueFault) (value_read : AbstractType → Read AbstractValue) where
      found_tells : (found : Option Located) → ((l : Located) → found ≡ Some l → Tells Long (find l.ty) (value_read l.ty))
          → Tells Long (unless (is_some found) (UnknownName site) ++ faults_there find found) (answered (UnknownName site) found >>= λ l. value_read l.ty >>= λ v. Ok (value.chosen l.place v))
      found_tells None inside = inl refl
      found_tells (Some l) inside = tells_made Long (find l.ty) (value_read l.ty) (λ v. value.chosen l.place v) (inside l refl)

      chosen_tells : (kind : AbstractKind) (name : List ℕ) (tree : WrittenValue) → ((l : Located) → located name (alternatives_of kind) ≡ Some l → Tells Long (find l.ty) (value_read l.ty))
          → Tells Long (where_taken (takes kind (written.chosen name tree)) site
          (unless (is_some (located name (alternatives_of kind))) (UnknownName site) ++ faults_there find (located name (alternatives_of kind)))) (read_chosen site kind name value_read)
      chosen_tells (type.choice cs) name tree inside = found_tells (located name cs) inside
      chosen_tells kind name tree inside = inl refl

-- ---- named bits

module _ (Long : Type 0) (names : List NamedNumber) where
  bit_tells : (site : Site) (name : Option (List ℕ)) → Tells Long (faults_of_bit names site name) (read_bit names site name)
  bit_tells site None = inl refl
  bit_tells site (Some name) = some_tells Long (UnknownName site) (named_bit names name)

  bits_tell : (es : WrittenEntries) → Tells Long (faults_of_bits names es) (read_places names es)
  bits_tell no_entries = refl
  bits_tell (entry site label tree rest) =
      tells_then Long (faults_of_bit names site (name_alone label tree)) (faults_of_bits names rest) (read_bit names site (name_alone label tree)) (λ place. read_places names rest >>= λ places. Ok (place ∷ places))
      (bit_tells site (name_alone label tree)) (λ place is. tells_made Long (faults_of_bits names rest) (read_places names rest) (λ places. place ∷ places) (bits_tell rest))

-- ---- entries for components

-- What is filled is what was named. What comes before the next place, and isn't filled, comes before a place that was
-- named.
abbrev pub WereNamed : Bool → ℕ → Fields → List (Option ℕ) → Type 0
WereNamed ordered next fs before = ((j : ℕ) → is_filled j fs ≡ is_among j before) × (ordered ≡ true → (j : ℕ) → is_filled j fs ≡ false → nat_lt j next ≡ is_below_some j before)

filled_field : (j : ℕ) (v : AbstractValue) (fs : Fields) → field_at j fs ≡ Some v → is_filled j fs ≡ true
filled_field j v value.no_fields e = absurd cc
filled_field zero v (value.present w fs) e = refl
filled_field zero v (value.absent fs) e = absurd cc
filled_field (suc j) v (value.present w fs) e = filled_field j v fs e
filled_field (suc j) v (value.absent fs) e = filled_field j v fs e

only_once : {P : Type 0} (b : Bool) → b ≡ true → b ≡ false → P
only_once b e f = let contrary : true ≡ false = sym e ∙ f in absurd cc

none_below : (j : ℕ) → nat_lt j 0 ≡ false
none_below j = grind (arith, common_steps)

not_late : (ordered : Bool) (p next : ℕ) → (ordered && nat_lt p next) ≡ false → ordered ≡ true → nat_lt p next ≡ false
not_late true p next e o = e
not_late false p next e o = absurd cc

below_then : (j p next : ℕ) (b : Bool) → nat_eq j p ≡ false → nat_lt p next ≡ false → nat_lt j next ≡ b → nat_lt j (suc p) ≡ (nat_lt j p || b)
below_then j p next b other early e = here (nat_lt j p) refl where
  far : nat_lt j p ≡ false → nat_lt j next ≡ false
  far g = grind (arith, common_steps)

  near : nat_lt j p ≡ true → nat_lt j (suc p) ≡ true
  near g = grind (arith, common_steps)

  past : nat_lt j p ≡ false → nat_lt j (suc p) ≡ false
  past g = grind (arith, common_steps)

  here : (c : Bool) → nat_lt j p ≡ c → nat_lt j (suc p) ≡ (c || b)
  here true g = near g
  here false g = past g ∙ sym (far g) ∙ e

module _ (ordered : Bool) (next p : ℕ) (cs : Components) (t : AbstractType) (v : AbstractValue) (fs : Fields) (before : List (Option ℕ))
    (ty : component_type p cs ≡ Some t) (shape : HasFields cs fs) (were : WereNamed ordered next fs before) (early : (ordered && nat_lt p next) ≡ false) where
  full : is_filled p (fill p v fs) ≡ true
  full = filled_field p v (fill p v fs) (filled_there cs p t v fs shape ty)

  named_on : WereNamed ordered (suc p) (fill p v fs) (Some p ∷ before)
  named_on = (
    λ j. elim (eqb_tells j p) [
      | inl h ↦ subst (λ n. is_filled n (fill p v fs) ≡ true) (sym h.1) full ∙ sym (ap (λ (b : Bool). b || is_among j before) h.0)
      | inr h ↦ unfilled_elsewhere p j v fs h.0 ∙ were.0 j ∙ sym (ap (λ (b : Bool). b || is_among j before) h.0)
    ],
    λ o j free. elim (eqb_tells j p) [
      | inl h ↦ only_once (is_filled j (fill p v fs)) (subst (λ n. is_filled n (fill p v fs) ≡ true) (sym h.1) full) free
      | inr h ↦ below_then j p next (is_below_some j before) h.0 (not_late ordered p next early o) (were.1 o j (sym (unfilled_elsewhere p j v fs h.0) ∙ free))
    ],
  )

tested : {X Y : Type 0} (Long : Type 0) (a b c d : Bool) (f g : ValueFault) (l : Located) (rest : List ValueFault) (step : Located → Read X) (next : X → Read Y) → a ≡ c → (a ≡ false → b ≡ d)
    → (b ≡ false → Tells Long rest (step l >>= next)) → Tells Long (cond c (f ∷ []) (cond d (g ∷ []) []) ++ rest) ((cond a (Err f) (cond b (Err g) (Ok l)) >>= step) >>= next)
tested Long true b true d f g l rest step next e h inside = inl refl
tested Long true b false d f g l rest step next e h inside = absurd cc
tested Long false b true d f g l rest step next e h inside = absurd cc
tested Long false true false true f g l rest step next e h inside = inl refl
tested Long false true false false f g l rest step next e h inside = absurd (let wrong = h refl in cc)
tested Long false false false true f g l rest step next e h inside = absurd (let wrong = h refl in cc)
tested Long false false false false f g l rest step next e h inside = inside refl

late_same : (ordered : Bool) (next : ℕ) (fs : Fields) (before : List (Option ℕ)) (p : ℕ) → WereNamed ordered next fs before → is_filled p fs ≡ false → (ordered && nat_lt p next) ≡ (ordered && is_below_some p before)
late_same true next fs before p were free = were.1 refl p free
late_same false next fs before p were free = refl

module _ (Long : Type 0) (ordered : Bool) (cs : Components) (next : ℕ) (fs : Fields) (before : List (Option ℕ)) (site : Site) (find : AbstractType → List ValueFault) (value_read : AbstractType → Read AbstractValue)
    (rest_fault : List (Option ℕ) → List ValueFault) (rest_read : ℕ × AbstractValue → Read Fields) (shape : HasFields cs fs) (were : WereNamed ordered next fs before)
    (rest_tells : (p : ℕ) (v : AbstractValue) → HasFields cs (fill p v fs) → WereNamed ordered (suc p) (fill p v fs) (Some p ∷ before) → Tells Long (rest_fault (Some p ∷ before)) (rest_read (p, v))) where
  entry_tells : (found : Option Located) → ((l : Located) → found ≡ Some l → Tells Long (find l.ty) (value_read l.ty) × (component_type l.place cs ≡ Some l.ty))
      → Tells Long (faults_of_place ordered before site found ++ (faults_there find found ++ rest_fault (option_map (λ l. l.place) found ∷ before)))
      ((placed ordered next fs site found >>= λ l. value_read l.ty >>= λ v. Ok (l.place, v)) >>= rest_read)
  entry_tells None inside = inl refl
  entry_tells (Some l) inside =
      let i = inside l refl in
      tested Long (is_filled l.place fs) (ordered && nat_lt l.place next) (is_among l.place before) (ordered && is_below_some l.place before) (RepeatedComponent site) (OutOfOrder site) l
      (find l.ty ++ rest_fault (Some l.place ∷ before)) (λ k. value_read k.ty >>= λ v. Ok (k.place, v)) rest_read (were.0 l.place) (λ free. late_same ordered next fs before l.place were free)
      (λ early. tells_then Long (find l.ty) (rest_fault (Some l.place ∷ before)) (value_read l.ty >>= λ v. Ok (l.place, v)) rest_read
      (tells_made Long (find l.ty) (value_read l.ty) (λ v. (l.place, v)) i.0)
      (λ x is.
      let w = made_ok (value_read l.ty) (λ v. (l.place, v)) x is in
      let P : ℕ × AbstractValue → Type 0 = λ y. Tells Long (rest_fault (Some l.place ∷ before)) (rest_read y) in
      subst P w.2 (rest_tells l.place w.0 (has_filled cs l.place w.0 fs shape) (named_on ordered next l.place cs l.ty w.0 fs before i.1 shape were early))))

or_true : (b : Bool) → (b || true) ≡ true
or_true true = refl
or_true false = refl

-- what is filled after the entries
module _ (m : Meaning) (sorted : Bool) where
  filled_after : (p : ℕ) (place : Option ℕ) (ps : List (Option ℕ)) (cs : Components) (t : AbstractType) (v : AbstractValue) (fs after : Fields) (j : ℕ) → place ≡ Some p → component_type p cs ≡ Some t → HasFields cs fs
      → is_filled j after ≡ (is_among j ps || is_filled j (fill p v fs)) → is_filled j after ≡ (is_among j (place ∷ ps) || is_filled j fs)
  filled_after p place ps cs t v fs after j is ty shape e =
      subst (λ (o : Option ℕ). is_filled j after ≡ (is_among j (o ∷ ps) || is_filled j fs)) (sym is) (elim (eqb_tells j p) [
        | inl h ↦
            let full : is_filled j (fill p v fs) ≡ true = subst (λ n. is_filled n (fill p v fs) ≡ true) (sym h.1) (filled_field p v (fill p v fs) (filled_there cs p t v fs shape ty)) in
            e ∙ ap (λ (b : Bool). is_among j ps || b) full ∙ or_true (is_among j ps) ∙ sym (ap (λ (b : Bool). (b || is_among j ps) || is_filled j fs) h.0)
        | inr h ↦ e ∙ ap (λ (b : Bool). is_among j ps || b) (unfilled_elsewhere p j v fs h.0) ∙ sym (ap (λ (b : Bool). (b || is_among j ps) || is_filled j fs) h.0)
      ])

  entries_filled : (es : WrittenEntries) (ordered : Bool) (cs : Components) (next : ℕ) (fs after : Fields) → HasFields cs fs → read_entries m sorted ordered cs next fs es ≡ Ok after
      → ((j : ℕ) → is_filled j after ≡ (is_among j (entry_places cs es) || is_filled j fs)) × HasFields cs after
  unfolding read
  entries_filled no_entries ordered cs next fs after shape e = let same : fs ≡ after = same_Ok fs after e in (λ j. ap (is_filled j) (sym same), subst (HasFields cs) same shape)
  entries_filled (entry site name tree rest) ordered cs next fs after shape e =
      let b = bind_ok (entry_at ordered cs next fs site name (λ u. read m sorted u tree)) (λ x. read_entries m sorted ordered cs (suc x.0) (fill x.0 x.1 fs) rest) after e in
      let x = b.0 in
      let o = entry_ok ordered cs next fs site name (λ u. read m sorted u tree) x b.1 in
      let l = o.0 in
      let P : ℕ → Type 0 = (λ n. read_entries m sorted ordered cs (suc n) (fill n x.1 fs) rest ≡ Ok after) in
      let more = entries_filled rest ordered cs (suc l.place) (fill l.place x.1 fs) after (has_filled cs l.place x.1 fs shape) (subst P (sym o.6) b.2) in
      (λ j. filled_after l.place (entry_place cs name) (entry_places cs rest) cs l.ty x.1 fs after j o.1 o.2 shape (more.0 j), more.1)

-- ---- what components are after the last entry

module _ (Long : Type 0) (site : Site) where
  component_tells : (presence : AbstractPresence) (slot : Option AbstractValue) (among others : Bool) (r : Read Fields) → is_some slot ≡ among → Tells Long (unless (not others) (MissingComponent site)) r
      → Tells Long (unless (not ((not (may_be_left_out presence) && not among) || others)) (MissingComponent site)) (settled site presence slot >>= λ f. r >>= λ gs. Ok (field_before f gs))
  component_tells presence (Some v) false others r e h = absurd cc
  component_tells presence None true others r e h = absurd cc
  component_tells type.mandatory (Some v) true others r e h = tells_made Long (unless (not others) (MissingComponent site)) r (λ gs. field_before (Some v) gs) h
  component_tells type.pending (Some v) true others r e h = tells_made Long (unless (not others) (MissingComponent site)) r (λ gs. field_before (Some v) gs) h
  component_tells type.optional (Some v) true others r e h = tells_made Long (unless (not others) (MissingComponent site)) r (λ gs. field_before (Some v) gs) h
  component_tells (type.default d) (Some v) true others r e h = tells_made Long (unless (not others) (MissingComponent site)) r (λ gs. field_before (Some v) gs) h
  component_tells type.mandatory None false others r e h = inl refl
  component_tells type.pending None false others r e h = inl refl
  component_tells type.optional None false others r e h = tells_made Long (unless (not others) (MissingComponent site)) r (λ gs. field_before None gs) h
  component_tells (type.default d) None false others r e h = tells_made Long (unless (not others) (MissingComponent site)) r (λ gs. field_before (Some d) gs) h

  completed_tells : (places : List (Option ℕ)) (i : ℕ) (cs : Components) (cur : Fields) → HasFields cs cur → ((j k : ℕ) → k ≡ i + j → is_filled j cur ≡ is_among k places)
      → Tells Long (unless (not (misses places i cs)) (MissingComponent site)) (completed site cs cur)
  unfolding completed
  completed_tells places i no_components value.no_fields shape filled = refl
  completed_tells places i no_components (value.present w cur) shape filled = absurd shape
  completed_tells places i no_components (value.absent cur) shape filled = absurd shape
  completed_tells places i (component name t presence rest) value.no_fields shape filled = absurd shape
  completed_tells places i (component name t presence rest) (value.present w cur) shape filled =
      component_tells presence (Some w) (is_among i places) (misses places (suc i) rest) (completed site rest cur) (filled 0 i (omega arith))
      (completed_tells places (suc i) rest cur shape (λ j k e. filled (suc j) k (omega (arith, e))))
  completed_tells places i (component name t presence rest) (value.absent cur) shape filled =
      component_tells presence None (is_among i places) (misses places (suc i) rest) (completed site rest cur) (filled 0 i (omega arith))
      (completed_tells places (suc i) rest cur shape (λ j k e. filled (suc j) k (omega (arith, e))))

-- ---- elements

count_tells : (Long : Type 0) (site : Site) (vs : List AbstractValue) (n : ℕ) → length vs ≡ n → Tells Long (unless (nat_le n 4294967295) (TooLarge site)) (few site vs)
count_tells Long site vs n e = subst (λ k. Tells Long (unless (nat_le k 4294967295) (TooLarge site)) (few site vs)) e (test_tells Long (are_few vs) (TooLarge site) vs)

pub here_somewhere : (P : AbstractType → WrittenValue → Type 0) (t : AbstractType) (tree : WrittenValue) → P t tree → Somewhere P t tree
here_somewhere P t (value_node site form) h = inl h

-- such an encoding in the value or inside it
abbrev pub IsLong : Meaning → Bool → AbstractType → WrittenValue → Type 0
IsLong m sorted t tree = (sorted ≡ true) × Somewhere (HasLongEncoding m) t tree

abbrev pub IsLongInside : Meaning → Bool → AbstractKind → WrittenEntries → Type 0
IsLongInside m sorted kind es = (sorted ≡ true) × InEntry (HasLongEncoding m) kind es

module _ (m : Meaning) (sorted : Bool) where
  long_here : (t : AbstractType) (tree : WrittenValue) (v : AbstractValue) → sorted ≡ true → read m sorted t tree ≡ Ok v → is_short (der t v) ≡ false → IsLong m sorted t tree
  long_here t tree v is e long =
      let P : Bool → Type 0 = λ b. read m b t tree ≡ Ok v in
      (is, here_somewhere (HasLongEncoding m) t tree (v, read_said m tree t v (subst P is e), long))

  limited_tells : (short : Bool) (t : AbstractType) (tree : WrittenValue) (first : List ValueFault) (r : Read AbstractValue) → (short ≡ true → sorted ≡ true) → read m sorted t tree ≡ r → Tells (IsLong m sorted t tree) first r
      → Tells (IsLong m sorted t tree) first (r >>= λ v. perhaps_limited short (site_of tree) t v)
  limited_tells short t tree first (Err f) both is h = h
  limited_tells false t tree first (Ok v) both is h = h
  limited_tells true t tree first (Ok v) both is h = here (is_short (der t v)) refl where
    here : (b : Bool) → is_short (der t v) ≡ b → Tells (IsLong m sorted t tree) first (cond b (Ok v) (Err (TooLarge (site_of tree))))
    here true e = h
    here false e = inr (long_here t tree v (both refl) is e)

  elements_count : (es : WrittenEntries) (short : Bool) (t : AbstractType) (vs : List AbstractValue) → read_elements m sorted short t es ≡ Ok vs → length vs ≡ entry_count es
  unfolding read
  elements_count no_entries short t vs e = ap length (sym (same_Ok [] vs e))
  elements_count (entry site name tree rest) short t vs e =
      let b = bind_ok (element_at short t site name (site_of tree) (read m sorted t tree)) (λ v. read_elements m sorted short t rest >>= λ more. Ok (kept sorted v ∷ more)) vs e in
      let c = made_ok (read_elements m sorted short t rest) (λ more. kept sorted b.0 ∷ more) vs b.2 in
      ap length (sym c.2) ∙ ap suc (elements_count rest short t c.0 c.1)

-- ---- values in braces

module _ (m : Meaning) (sorted : Bool) (site : Site) (es : WrittenEntries) (Long : Type 0) where
  module _ (kind : AbstractKind) (wider : IsLongInside m sorted kind es → Long) where
    fields_tell : (ordered : Bool) (cs : Components) → Tells (IsLongInside m sorted kind es) (faults_of_entries m ordered cs [] es) (read_entries m sorted ordered cs 0 (all_absent cs) es)
        → Tells Long (faults_of_entries m ordered cs [] es ++ faults_after site cs es) (read_fields site cs (read_entries m sorted ordered cs 0 (all_absent cs) es))
    fields_tell ordered cs h =
        tells_then Long (faults_of_entries m ordered cs [] es) (faults_after site cs es) (read_entries m sorted ordered cs 0 (all_absent cs) es) (λ given. completed site cs given >>= λ fs. Ok (value.fields fs))
        (tells_in (IsLongInside m sorted kind es) Long (faults_of_entries m ordered cs [] es) (read_entries m sorted ordered cs 0 (all_absent cs) es) wider h)
        (λ given is.
        let f = entries_filled m sorted es ordered cs 0 (all_absent cs) given (has_absent cs) is in
        tells_made Long (faults_after site cs es) (completed site cs given) (λ fs. value.fields fs)
        (completed_tells Long site (entry_places cs es) 0 cs given f.1 (λ j k e. let same : j ≡ k = omega (arith, e) in subst (λ n. is_filled j given ≡ is_among n (entry_places cs es)) same (f.0 j ∙ none_besides (is_among j (entry_places cs es)) (is_filled j (all_absent cs)) (none_filled cs j)))))
      where
        none_besides : (b c : Bool) → c ≡ false → (b || c) ≡ b
        none_besides true c e = refl
        none_besides false c e = e

    items_tell : (short : Bool) (u : AbstractType) (make : List AbstractValue → AbstractValue) → Tells (IsLongInside m sorted kind es) (faults_of_elements m u es) (read_elements m sorted short u es)
        → Tells Long (faults_of_elements m u es ++ faults_of_count site es) (read_elements m sorted short u es >>= λ vs. few site vs >>= λ ws. Ok (make ws))
    items_tell short u make h =
        tells_then Long (faults_of_elements m u es) (faults_of_count site es) (read_elements m sorted short u es) (λ vs. few site vs >>= λ ws. Ok (make ws))
        (tells_in (IsLongInside m sorted kind es) Long (faults_of_elements m u es) (read_elements m sorted short u es) wider h)
        (λ vs is. tells_made Long (faults_of_count site es) (few site vs) make (count_tells Long site vs (entry_count es) (elements_count m sorted es short u vs is)))

  arcs_or_form : (b : Bool) → Tells {A = AbstractValue} Long (where_taken b site (BadObjectId site ∷ [])) (cond b (Err (BadObjectId site)) (Err (WrongNotation site)))
  arcs_or_form true = inl refl
  arcs_or_form false = inl refl

  module _
      (elements : (kind : AbstractKind) (short : Bool) (u : AbstractType) → (short ≡ true → sorted ≡ true) → entry_type kind None ≡ Some u
      → Tells (IsLongInside m sorted kind es) (faults_of_elements m u es) (read_elements m sorted short u es))
      (entries : (kind : AbstractKind) (ordered : Bool) (cs : Components) → ((name : List ℕ) → entry_type kind (Some name) ≡ option_map (λ l. l.ty) (located name cs))
      → Tells (IsLongInside m sorted kind es) (faults_of_entries m ordered cs [] es) (read_entries m sorted ordered cs 0 (all_absent cs) es)) where
    set_of_tells : (u : AbstractType) → (IsLongInside m sorted (type.set_of u) es → Long) → (b : Bool) → sorted ≡ b
        → Tells Long (faults_of_elements m u es ++ faults_of_count site es) (read_set_of b site u (λ short u. read_elements m sorted short u es))
    set_of_tells u wider true is = items_tell (type.set_of u) wider true u (λ ws. value.items (items_of (arranged u ws))) (elements (type.set_of u) true u (λ _. is) refl)
    set_of_tells u wider false is = items_tell (type.set_of u) wider false u (λ ws. value.items (items_of ws)) (elements (type.set_of u) false u (λ e. absurd cc) refl)

    braces_tell : (kind : AbstractKind) → (IsLongInside m sorted kind es → Long)
        → Tells Long (where_taken (takes kind (written.list es)) site (faults_of_list site kind es (λ ordered cs. faults_of_entries m ordered cs [] es) (λ u. faults_of_elements m u es)))
        (read_braces sorted site kind es (λ ordered cs. read_entries m sorted ordered cs 0 (all_absent cs) es) (λ short u. read_elements m sorted short u es))
    braces_tell (type.sequence cs) wider = fields_tell (type.sequence cs) wider true cs (entries (type.sequence cs) true cs (λ name. refl))
    braces_tell (type.set cs) wider = fields_tell (type.set cs) wider false cs (entries (type.set cs) false cs (λ name. refl))
    braces_tell (type.sequence_of u) wider = items_tell (type.sequence_of u) wider false u (λ ws. value.items (items_of ws)) (elements (type.sequence_of u) false u (λ e. absurd cc) refl)
    braces_tell (type.set_of u) wider = set_of_tells u wider sorted refl
    braces_tell type.object_identifier wider = arcs_or_form (are_too_few_arcs es)
    braces_tell (type.bit_string []) wider = kept_tells Long sorted (WrongNotation site ∷ []) (Err (WrongNotation site)) (inl refl)
    braces_tell (type.bit_string (name ∷ names)) wider =
        kept_tells Long sorted (faults_of_bits (name ∷ names) es) (read_named_bits site (name ∷ names) es)
        (tells_made Long (faults_of_bits (name ∷ names) es) (read_places (name ∷ names) es) (λ places. bits_value (ones_at places)) (bits_tell Long (name ∷ names) es))
    braces_tell kind wider = inl refl

-- ---- all trees

mutual
  unfolding read

  pub read_tells : (m : Meaning) (sorted : Bool) (tree : WrittenValue) (t : AbstractType) → Tells (IsLong m sorted t tree) (faults_of m t tree) (read m sorted t tree)
  read_tells m sorted (value_node site form) t = form_tells m sorted form site t

  form_tells : (m : Meaning) (sorted : Bool) (form : WrittenValueForm) (site : Site) (t : AbstractType) → Tells (IsLong m sorted t (value_node site form)) (faults_of m t (value_node site form)) (read_form m sorted t site form)
  form_tells m sorted (written.boolean b) site t = boolean_tells (IsLong m sorted t (value_node site (written.boolean b))) site (kind_of t) b
  form_tells m sorted written.null site t = null_tells (IsLong m sorted t (value_node site written.null)) site (kind_of t)
  form_tells m sorted (written.integer n) site t = integer_tells (IsLong m sorted t (value_node site (written.integer n))) site (kind_of t) n
  form_tells m sorted (written.text k spelling) site t = text_tells (IsLong m sorted t (value_node site (written.text k spelling))) site (kind_of t) k spelling
  form_tells m sorted (written.reference name) site t =
      kept_tells (IsLong m sorted t (value_node site (written.reference name))) sorted (faults_of m t (value_node site (written.reference name))) (read_reference m t site name)
      (reference_tells (IsLong m sorted t (value_node site (written.reference name))) site t (kind_of t) name (m name))
  form_tells m sorted (written.chosen name tree) site t =
      chosen_tells (IsLong m sorted t (value_node site (written.chosen name tree))) site (λ u. faults_of m u tree) (λ u. read m sorted u tree) (kind_of t) name tree
      (λ l is. tells_in (IsLong m sorted l.ty tree) (IsLong m sorted t (value_node site (written.chosen name tree))) (faults_of m l.ty tree) (read m sorted l.ty tree)
      (λ long. (long.0, inr (l.ty, ap (option_map (λ k. k.ty)) is, long.1))) (read_tells m sorted tree l.ty))
  form_tells m sorted (written.list es) site t =
      braces_tell m sorted site es (IsLong m sorted t (value_node site (written.list es))) (λ kind short u both is. elements_tell m sorted es kind short u both is)
      (λ kind ordered cs typed. entries_tell m sorted es kind ordered cs typed 0 (all_absent cs) [] (has_absent cs) (λ j. none_filled cs j, λ o j free. none_below j)) (kind_of t) (λ long. (long.0, inr long.1))
  form_tells m sorted (written.arcs arcs) site t = arcs_tell (IsLong m sorted t (value_node site (written.arcs arcs))) site (kind_of t) arcs

  elements_tell : (m : Meaning) (sorted : Bool) (es : WrittenEntries) (kind : AbstractKind) (short : Bool) (u : AbstractType) → (short ≡ true → sorted ≡ true) → entry_type kind None ≡ Some u
      → Tells (IsLongInside m sorted kind es) (faults_of_elements m u es) (read_elements m sorted short u es)
  elements_tell m sorted no_entries kind short u both is = refl
  elements_tell m sorted (entry site None tree rest) kind short u both is =
      tells_then (IsLongInside m sorted kind (entry site None tree rest)) (faults_of m u tree) (faults_of_elements m u rest) (element_at short u site None (site_of tree) (read m sorted u tree))
      (λ v. read_elements m sorted short u rest >>= λ more. Ok (kept sorted v ∷ more))
      (tells_in (IsLong m sorted u tree) (IsLongInside m sorted kind (entry site None tree rest)) (faults_of m u tree) (element_at short u site None (site_of tree) (read m sorted u tree))
      (λ long. (long.0, inl (u, is, long.1))) (limited_tells m sorted short u tree (faults_of m u tree) (read m sorted u tree) both refl (read_tells m sorted tree u)))
      (λ v got. tells_made (IsLongInside m sorted kind (entry site None tree rest)) (faults_of_elements m u rest) (read_elements m sorted short u rest) (λ more. kept sorted v ∷ more)
      (tells_in (IsLongInside m sorted kind rest) (IsLongInside m sorted kind (entry site None tree rest)) (faults_of_elements m u rest) (read_elements m sorted short u rest)
      (λ long. (long.0, inr long.1)) (elements_tell m sorted rest kind short u both is)))
  elements_tell m sorted (entry site (Some name) tree rest) kind short u both is = inl refl

  entries_tell : (m : Meaning) (sorted : Bool) (es : WrittenEntries) (kind : AbstractKind) (ordered : Bool) (cs : Components) → ((name : List ℕ) → entry_type kind (Some name) ≡ option_map (λ l. l.ty) (located name cs))
      → (next : ℕ) (fs : Fields) (before : List (Option ℕ)) → HasFields cs fs → WereNamed ordered next fs before
      → Tells (IsLongInside m sorted kind es) (faults_of_entries m ordered cs before es) (read_entries m sorted ordered cs next fs es)
  entries_tell m sorted no_entries kind ordered cs typed next fs before shape were = refl
  entries_tell m sorted (entry site None tree rest) kind ordered cs typed next fs before shape were = inl refl
  entries_tell m sorted (entry site (Some name) tree rest) kind ordered cs typed next fs before shape were =
      entry_tells (IsLongInside m sorted kind (entry site (Some name) tree rest)) ordered cs next fs before site (λ u. faults_of m u tree) (λ u. read m sorted u tree) (λ named. faults_of_entries m ordered cs named rest)
      (λ x. read_entries m sorted ordered cs (suc x.0) (fill x.0 x.1 fs) rest) shape were
      (λ p v filled named. tells_in (IsLongInside m sorted kind rest) (IsLongInside m sorted kind (entry site (Some name) tree rest)) (faults_of_entries m ordered cs (Some p ∷ before) rest)
      (read_entries m sorted ordered cs (suc p) (fill p v fs) rest) (λ long. (long.0, inr long.1)) (entries_tell m sorted rest kind ordered cs typed (suc p) (fill p v fs) (Some p ∷ before) filled named))
      (located name cs)
      (λ l is. (
        tells_in (IsLong m sorted l.ty tree) (IsLongInside m sorted kind (entry site (Some name) tree rest)) (faults_of m l.ty tree) (read m sorted l.ty tree)
            (λ long. (long.0, inl (l.ty, typed name ∙ ap (option_map (λ k. k.ty)) is, long.1))) (read_tells m sorted tree l.ty),
        located_type cs name l is,
      ))
