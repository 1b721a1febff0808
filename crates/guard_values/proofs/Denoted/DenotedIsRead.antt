-- What the definition says of a tree is what is read. So a tree says one value at most.
use Rattle.std.proofs.Common.{◌≡◌, ℕ, suc, Bool, true, false, cond, not, ◌&&◌, ◌||◌, ℤ, List, [], ◌∷◌, Option, Some, None, Ok, Err, inl, inr, option_map, refl, sym, ap, ◌∙◌, subst, arith}
use Rattle.std.specs.Prelude.{nat_eq, nat_le, nat_lt}
use Rattle.std.proofs.lemmas.Bool.{eqb-true, eq-eqb, and_parts}
use Rattle.std.proofs.lemmas.Bool.Decides.{eqb_tells}
use Rattle.std.proofs.lemmas.Grind.{common_steps}
use Rattle.guard_model.specs.Answer.{◌>>=◌}
use Rattle.guard_model.specs.declared.site.Site.{Site}
use Rattle.guard_model.specs.AbstractType as type
use Rattle.guard_model.specs.AbstractType.{AbstractType, AbstractKind, Components}
use Rattle.guard_model.specs.AbstractValue as value
use Rattle.guard_model.specs.AbstractValue.{AbstractValue, Fields, items_of}
use Rattle.guard_tagcheck.specs.Distinct.{component_type}
use Rattle.guard_der.specs.Der.{der}
use Rattle.guard_der.specs.ProperConstraints.{is_short}
use Rattle.guard_model.specs.Slots.{all_absent}
use Rattle.guard_der.specs.Reading.{is_filled, fill}
use Rattle.guard_syntax.specs.Trees as written
use Rattle.guard_syntax.specs.Trees.{WrittenNumber, WrittenArc, WrittenValue, WrittenValueForm, WrittenEntries, value_node, no_entries, entry}
use Rattle.guard_values.specs.declared.fault.ValueFault.{ValueFault}
use Rattle.guard_values.specs.declared.fault.ValueFault.TheVariants.{WrongNotation, UnknownName, BadObjectId, TooLarge}
use Rattle.guard_values.specs.ObjectIdentifiers.{arc_numbers, too_large_arc, are_arcs}
use Rattle.guard_values.specs.Meanings.{Governed, Meaning, own_number}
use Rattle.guard_model.specs.Kinds.{kind_of}
use Rattle.guard_values.proofs.SingleValues.NamedBits.{places_again}
use Rattle.guard_values.specs.Simple.{integer_value, within_limits, arcs_value, named_value}
use Rattle.guard_values.specs.Places.{Located, located, entry_place, entry_places, is_among, are_in_order, are_different, FieldsDenote}
use Rattle.guard_values.specs.Arrangement.{arranged, are_short}
use Rattle.guard_values.specs.Denotes.{alternatives_of, ChosenDenotes, are_few, BracesDenote, Says, FormSays, EntrySays, EntriesSay}
use Rattle.guard_values.specs.inside.Reading.{Read, answered, read_integer, string_fault, limited_arcs, read_arcs, read_named, placed, entry_at, completed, few, read_chosen, read_fields, read_braces, perhaps_limited, site_of, element_at, read, read_form, read_entries, read_elements}
use Rattle.guard_values.proofs.Denoted.SettledFields.{field_at, HasFields, has_absent, has_filled, nothing_at, none_filled, filled_there, kept_elsewhere, unfilled_elsewhere, located_type, Holds, completed_again, fields_wanted}

-- ---- without a value inside

integer_again : (site : Site) (kind : AbstractKind) (n : WrittenNumber) (v : AbstractValue) → integer_value kind n ≡ Some v → read_integer site kind n ≡ Ok v
integer_again site (type.integer ns) n v e = ap (answered (TooLarge n.site)) e
integer_again site _ n v e = absurd cc

named_again : (site : Site) (t : AbstractType) (own : Option ℤ) (visible : Option Governed) (v : AbstractValue) → named_value own t visible ≡ Some v → read_named site t own visible ≡ Ok v
named_again site t (Some z) visible v e = ap (answered (TooLarge site)) e
named_again site t None None v e = absurd cc
named_again site t None (Some g) v e = ap (answered (WrongNotation site)) e

lawful_again : (f : ValueFault) (b : Bool) (w v : AbstractValue) → cond b (Some w) None ≡ Some v → cond b (Ok w) (Err f) ≡ Ok v
lawful_again f true w v e = cc
lawful_again f false w v e = absurd cc

limits_again : (site : Site) (large : Option Site) (arcs : List ℕ) (v : AbstractValue) → within_limits large arcs ≡ Some v → limited_arcs site large arcs ≡ Ok v
limits_again site (Some s) arcs v e = absurd cc
limits_again site None arcs v e = lawful_again (BadObjectId site) (are_arcs arcs) (value.object_identifier arcs) v e

arcs_again : (site : Site) (kind : AbstractKind) (arcs : List WrittenArc) (v : AbstractValue) → arcs_value kind arcs ≡ Some v → read_arcs site kind arcs ≡ Ok v
arcs_again site type.object_identifier arcs v e = limits_again site (too_large_arc arcs) (arc_numbers arcs) v e
arcs_again site _ arcs v e = absurd cc

-- ---- with values inside

chosen_there : (site : Site) (found : Option Located) (l : Located) (value_read : AbstractType → Read AbstractValue) (w : AbstractValue) → found ≡ Some l → value_read l.ty ≡ Ok w
    → (answered (UnknownName site) found >>= λ l. value_read l.ty >>= λ v. Ok (value.chosen l.place v)) ≡ Ok (value.chosen l.place w)
chosen_there site found l value_read w e f = rw (e, f) refl

chosen_again : (site : Site) (kind : AbstractKind) (name : List ℕ) (value_read : AbstractType → Read AbstractValue) (Denoted : AbstractType → AbstractValue → Type 0) (v : AbstractValue)
    → ((u : AbstractType) (w : AbstractValue) → Denoted u w → value_read u ≡ Ok w) → ChosenDenotes name (alternatives_of kind) Denoted v → read_chosen site kind name value_read ≡ Ok v
chosen_again site (type.choice cs) name value_read Denoted v again h = chosen_there site (located name cs) h.0 value_read h.1 h.2 (again h.0.ty h.1 h.3) ∙ ap Ok (sym h.4)
chosen_again site _ name value_read Denoted v again h = let e = h.2 in absurd cc

short_again : (short : Bool) (site : Site) (t : AbstractType) (v : AbstractValue) → (short ≡ true → is_short (der t v) ≡ true) → perhaps_limited short site t v ≡ Ok v
short_again false site t v h = refl
short_again true site t v h = rw (h refl) refl

element_again : (short : Bool) (t : AbstractType) (site place : Site) (value_read : Read AbstractValue) (v : AbstractValue) → value_read ≡ Ok v → (short ≡ true → is_short (der t v) ≡ true) → element_at short t site None place value_read ≡ Ok v
element_again short t site place value_read v e h = rw e (short_again short place t v h)

one_more : (first : Read AbstractValue) (others : Read (List AbstractValue)) (v : AbstractValue) (vs : List AbstractValue) → first ≡ Ok v → others ≡ Ok vs → (first >>= λ v. others >>= λ more. Ok (v ∷ more)) ≡ Ok (v ∷ vs)
one_more first others v vs e f = rw (e, f) refl

-- ---- entries for components

entry_among : (m : Meaning) (cs : Components) (es : WrittenEntries) (i : ℕ) (t : AbstractType) (v : AbstractValue) → EntrySays m cs es i t v → is_among i (entry_places cs es) ≡ true
entry_among m cs no_entries i t v h = absurd h
entry_among m cs (entry site name tree rest) i t v (inl h) = rw (h.0, eq-eqb i i refl) refl
entry_among m cs (entry site name tree rest) i t v (inr h) = let later = entry_among m cs rest i t v h in grind (arith, common_steps)

placed_again : (ordered : Bool) (next : ℕ) (fs : Fields) (site : Site) (found : Option Located) (l : Located) → found ≡ Some l → is_filled l.place fs ≡ false → (ordered ≡ true → nat_le next l.place ≡ true)
    → placed ordered next fs site found ≡ Ok l
placed_again false next fs site found l e free order = rw (e, free) refl
placed_again true next fs site found l e free order =
    let late : nat_lt l.place next ≡ false = (let o = order refl in grind (arith, common_steps)) in
    rw (e, free, late) refl

entry_at_again : (ordered : Bool) (cs : Components) (next : ℕ) (fs : Fields) (site : Site) (name : List ℕ) (value_read : AbstractType → Read AbstractValue) (l : Located) (v : AbstractValue)
    → placed ordered next fs site (located name cs) ≡ Ok l → value_read l.ty ≡ Ok v → entry_at ordered cs next fs site (Some name) value_read ≡ Ok (l.place, v)
entry_at_again ordered cs next fs site name value_read l v e f = rw (e, f) refl

then_entries : (first : Read (ℕ × AbstractValue)) (next : ℕ × AbstractValue → Read Fields) (x : ℕ × AbstractValue) (fs : Fields) → first ≡ Ok x → next x ≡ Ok fs → (first >>= next) ≡ Ok fs
then_entries first next x fs e f = rw e f

step_place : (a b : Bool) (target after before filled : Option AbstractValue) (v : AbstractValue) → after ≡ cond b target filled → (a ≡ true → (filled ≡ Some v) × (target ≡ Some v)) → (a ≡ false → filled ≡ before)
    → after ≡ cond (a || b) target before
step_place true true target after before filled v e here there = e
step_place true false target after before filled v e here there = let h = here refl in e ∙ h.0 ∙ sym h.1
step_place false true target after before filled v e here there = e
step_place false false target after before filled v e here there = e ∙ there refl

-- what one place holds after an entry and those after it
one_place : (j p : ℕ) (ps : List (Option ℕ)) (target after before : Option AbstractValue) (filled : Option AbstractValue) (v : AbstractValue)
    → after ≡ cond (is_among j ps) target filled → (nat_eq j p ≡ true → (filled ≡ Some v) × (target ≡ Some v)) → (nat_eq j p ≡ false → filled ≡ before)
    → after ≡ cond (nat_eq j p || is_among j ps) target before
one_place j p ps target after before filled v e here there = step_place (nat_eq j p) (is_among j ps) target after before filled v e here there

-- what the entries leave in the fields
abbrev pub Leaves : List (Option ℕ) → Fields → Fields → Fields → Type 0
Leaves places target before after = (j : ℕ) → field_at j after ≡ cond (is_among j places) (field_at j target) (field_at j before)

abbrev pub EntriesRead : Meaning → Bool → Components → ℕ → Fields → Fields → WrittenEntries → Type 0
EntriesRead m ordered cs next target before es =
    (after : Fields) × (read_entries m true ordered cs next before es ≡ Ok after) × Leaves (entry_places cs es) target before after × HasFields cs after

abbrev pub WantedEntries : Meaning → Components → WrittenEntries → Fields → Type 0
WantedEntries m cs es target = (j : ℕ) (u : AbstractType) → component_type j cs ≡ Some u → is_among j (entry_places cs es) ≡ true → (v : AbstractValue) × (field_at j target ≡ Some v) × EntrySays m cs es j u v

-- where one place comes once, the entry for it is the one after
pub after_first : (m : Meaning) (cs : Components) (site : Site) (name : Option (List ℕ)) (tree : WrittenValue) (rest : WrittenEntries) (p j : ℕ) (u : AbstractType) (v : AbstractValue)
    → entry_place cs name ≡ Some p → nat_eq j p ≡ false → EntrySays m cs (entry site name tree rest) j u v → EntrySays m cs rest j u v
after_first m cs site name tree rest p j u v e other (inl h) =
    let same : ◌≡◌ {A = Option ℕ} (Some p) (Some j) = sym e ∙ h.0 in
    let place : p ≡ j = cc in
    absurd (grind (arith, common_steps))
after_first m cs site name tree rest p j u v e other (inr h) = h

pub at_first : (m : Meaning) (cs : Components) (site : Site) (name : Option (List ℕ)) (tree : WrittenValue) (rest : WrittenEntries) (p : ℕ) (u : AbstractType) (v : AbstractValue)
    → is_among p (entry_places cs rest) ≡ false → EntrySays m cs (entry site name tree rest) p u v → Says m u tree v
at_first m cs site name tree rest p u v once (inl h) = h.1
at_first m cs site name tree rest p u v once (inr h) = let later = entry_among m cs rest p u v h in absurd cc

pub not_true : (b : Bool) → not b ≡ true → b ≡ false
not_true true e = absurd cc
not_true false e = refl

pub place_tells : (j p : ℕ) (ps : List (Option ℕ)) → is_among p ps ≡ false → is_among j ps ≡ true → nat_eq j p ≡ false
place_tells j p ps once among = elim (eqb_tells j p) [
  | inl h ↦ let P : ℕ → Type 0 = λ n. is_among n ps ≡ true in let both : is_among p ps ≡ true = subst P h.1 among in absurd cc
  | inr h ↦ h.0
]

pub or_second : (a b : Bool) → b ≡ true → (a || b) ≡ true
or_second true b e = refl
or_second false b e = e

entry_again : (m : Meaning) (cs : Components) (ordered : Bool) (next : ℕ) (target before : Fields) (site : Site) (name : List ℕ) (tree : WrittenValue) (rest : WrittenEntries) (found : Option Located) → located name cs ≡ found
    → are_different (entry_places cs (entry site (Some name) tree rest)) ≡ true → (ordered ≡ true → are_in_order next (entry_places cs (entry site (Some name) tree rest)) ≡ true)
    → ((j : ℕ) → is_among j (entry_places cs (entry site (Some name) tree rest)) ≡ true → is_filled j before ≡ false) → WantedEntries m cs (entry site (Some name) tree rest) target → HasFields cs before
    → ((u : AbstractType) (w : AbstractValue) → Says m u tree w → read m true u tree ≡ Ok w)
    → ((next : ℕ) (before : Fields) → are_different (entry_places cs rest) ≡ true → (ordered ≡ true → are_in_order next (entry_places cs rest) ≡ true)
    → ((j : ℕ) → is_among j (entry_places cs rest) ≡ true → is_filled j before ≡ false) → WantedEntries m cs rest target → HasFields cs before → EntriesRead m ordered cs next target before rest)
    → EntriesRead m ordered cs next target before (entry site (Some name) tree rest)
unfolding read
entry_again m cs ordered next target before site name tree rest None e different order free wanted shape says others = absurd (let h = rw e at different in cc)
entry_again m cs ordered next target before site name tree rest (Some l) e different order free wanted shape says others =
    let p = l.place in
    let ps = entry_places cs rest in
    let whole = entry_places cs (entry site (Some name) tree rest) in
    let places : whole ≡ Some p ∷ ps = ap (λ (o : Option Located). option_map (λ l. l.place) o ∷ ps) e in
    let d = and_parts (not (is_among p ps)) (are_different ps) (sym (ap are_different places) ∙ different) in
    let once : is_among p ps ≡ false = not_true (is_among p ps) d.0 in
    let ordering : ordered ≡ true → (nat_le next p ≡ true) × (are_in_order (suc p) ps ≡ true) = (λ o. and_parts (nat_le next p) (are_in_order (suc p) ps) (sym (ap (are_in_order next) places) ∙ order o)) in
    let same : nat_eq p p ≡ true = eq-eqb p p refl in
    let here : is_among p whole ≡ true = ap (is_among p) places ∙ (rw same refl) in
    let later : (j : ℕ) → is_among j ps ≡ true → is_among j whole ≡ true = (λ j a. ap (is_among j) places ∙ or_second (nat_eq j p) (is_among j ps) a) in
    let w = wanted p l.ty (located_type cs name l e) here in
    let v = w.0 in
    let said : Says m l.ty tree v = at_first m cs site (Some name) tree rest p l.ty v once w.2 in
    let first : entry_at ordered cs next before site (Some name) (λ u. read m true u tree) ≡ Ok (p, v) =
    entry_at_again ordered cs next before site name (λ u. read m true u tree) l v (placed_again ordered next before site (located name cs) l e (free p here) (λ o. (ordering o).0)) (says l.ty v said) in
    let more = others (suc p) (fill p v before) d.1 (λ o. (ordering o).1)
    (λ j a. unfilled_elsewhere p j v before (place_tells j p ps once a) ∙ free j (later j a))
    (λ j u ct a. let x = wanted j u ct (later j a) in (x.0, x.1, after_first m cs site (Some name) tree rest p j u x.0 (ap (option_map (λ l. l.place)) e) (place_tells j p ps once a) x.2))
    (has_filled cs p v before shape) in
    let leaves : Leaves whole target before more.0 =
    (λ j. let P : List (Option ℕ) → Type 0 = (λ x. field_at j more.0 ≡ cond (is_among j x) (field_at j target) (field_at j before)) in
    let Q : ℕ → Type 0 = (λ n. (field_at n (fill p v before) ≡ Some v) × (field_at n target ≡ Some v)) in
    subst P (sym places) (one_place j p ps (field_at j target) (field_at j more.0) (field_at j before) (field_at j (fill p v before)) v (more.2 j)
    (λ t. subst Q (sym (eqb-true j p t)) (filled_there cs p l.ty v before shape (located_type cs name l e), w.1))
    (λ t. kept_elsewhere p j v before t))) in
    (more.0, then_entries (entry_at ordered cs next before site (Some name) (λ u. read m true u tree)) (λ x. read_entries m true ordered cs (suc x.0) (fill x.0 x.1 before) rest) (p, v) more.0 first more.1, leaves, more.3)

-- ---- values in braces

order_from : (next i : ℕ) (ps : List (Option ℕ)) → are_in_order next ps ≡ true → is_among i ps ≡ true → nat_le next i ≡ true
order_from next i [] e among = absurd cc
order_from next i (None ∷ ps) e among = absurd cc
order_from next i (Some p ∷ ps) e among =
    let parts = and_parts (nat_le next p) (are_in_order (suc p) ps) e in
    elim (eqb_tells i p) [
      | inl h ↦ let P : ℕ → Type 0 = λ n. nat_le next n ≡ true in subst P (sym h.1) parts.0
      | inr h ↦ let after : is_among i ps ≡ true = rw h.0 at among in let far : nat_le (suc p) i ≡ true = order_from (suc p) i ps parts.1 after in let near = parts.0 in grind (arith, common_steps)
    ]

pub ordered_differ : (next : ℕ) (ps : List (Option ℕ)) → are_in_order next ps ≡ true → are_different ps ≡ true
ordered_differ next [] e = refl
ordered_differ next (None ∷ ps) e = absurd cc
ordered_differ next (Some p ∷ ps) e = once (is_among p ps) refl (ordered_differ (suc p) ps parts.1) where
  parts : (nat_le next p ≡ true) × (are_in_order (suc p) ps ≡ true)
  parts = and_parts (nat_le next p) (are_in_order (suc p) ps) e

  once : (b : Bool) → is_among p ps ≡ b → are_different ps ≡ true → (not (is_among p ps) && are_different ps) ≡ true
  once true among rest = let far : nat_le (suc p) p ≡ true = order_from (suc p) p ps parts.1 among in absurd (grind (arith, common_steps))
  once false among rest = rw (among, rest) refl

module _ (m : Meaning) (es : WrittenEntries)
    (elements : (short : Bool) (u : AbstractType) (ws : List AbstractValue) → EntriesSay m u es ws → (short ≡ true → are_short u ws ≡ true) → read_elements m true short u es ≡ Ok ws)
    (entries : (ordered : Bool) (cs : Components) (target : Fields) → are_different (entry_places cs es) ≡ true → (ordered ≡ true → are_in_order 0 (entry_places cs es) ≡ true) → WantedEntries m cs es target
    → EntriesRead m ordered cs 0 target (all_absent cs) es) where
  fields_again : (site : Site) (ordered : Bool) (cs : Components) (fs : Fields) → are_different (entry_places cs es) ≡ true → (ordered ≡ true → are_in_order 0 (entry_places cs es) ≡ true)
      → FieldsDenote (entry_places cs es) (λ i u w. EntrySays m cs es i u w) 0 cs fs → read_fields site cs (read_entries m true ordered cs 0 (all_absent cs) es) ≡ Ok (value.fields fs)
  fields_again site ordered cs fs different order denotes =
      let wanted = fields_wanted (entry_places cs es) (λ i u w. EntrySays m cs es i u w) 0 cs fs denotes in
      let given = entries ordered cs fs different order (λ j u e a. wanted j j u (omega arith) e a) in
      let holds : Holds (entry_places cs es) 0 fs given.0 =
      (λ j k e. let P : ℕ → Type 0 = (λ n. field_at j given.0 ≡ cond (is_among n (entry_places cs es)) (field_at j fs) None) in
      let same : j ≡ k = omega (arith, e) in
      subst P same (given.2 j ∙ ap (λ (x : Option AbstractValue). cond (is_among j (entry_places cs es)) (field_at j fs) x) (nothing_at cs j))) in
      let settled : completed site cs given.0 ≡ Ok fs = completed_again site (entry_places cs es) (λ i u w. EntrySays m cs es i u w) 0 cs fs given.0 denotes given.3 holds in
      rw (given.1, settled) refl

  listed_again : (site : Site) (short : Bool) (u : AbstractType) (ws : List AbstractValue) (make : List AbstractValue → AbstractValue) → EntriesSay m u es ws → (short ≡ true → are_short u ws ≡ true) → are_few ws ≡ true
      → (read_elements m true short u es >>= λ vs. few site vs >>= λ xs. Ok (make xs)) ≡ Ok (make ws)
  listed_again site short u ws make says s is_few = rw (elements short u ws says s, is_few) refl

  braces_again : (kind : AbstractKind) (site : Site) (v : AbstractValue) → BracesDenote kind es (λ cs i u w. EntrySays m cs es i u w) (λ u ws. EntriesSay m u es ws) v
      → read_braces true site kind es (λ ordered cs. read_entries m true ordered cs 0 (all_absent cs) es) (λ short u. read_elements m true short u es) ≡ Ok v
  braces_again (type.sequence cs) site v h = fields_again site true cs h.1.0 (ordered_differ 0 (entry_places cs es) h.0) (λ _. h.0) h.1.1 ∙ ap Ok (sym h.1.2)
  braces_again (type.set cs) site v h = fields_again site false cs h.1.0 h.0 (λ e. absurd cc) h.1.1 ∙ ap Ok (sym h.1.2)
  braces_again (type.sequence_of u) site v h = listed_again site false u h.0 (λ ws. value.items (items_of ws)) h.1 (λ e. absurd cc) h.2 ∙ ap Ok (sym h.3)
  braces_again (type.set_of u) site v h = listed_again site true u h.0 (λ ws. value.items (items_of (arranged u ws))) h.1 (λ _. h.3) h.2 ∙ ap Ok (sym h.4)
  braces_again (type.bit_string []) site v h = absurd h
  braces_again (type.bit_string (name ∷ names)) site v h = rw (places_again (name ∷ names) es h.0 h.1) (ap Ok (sym h.2))
  braces_again _ site v h = absurd h

-- ---- all trees

mutual
  unfolding read

  pub says_read : (m : Meaning) (tree : WrittenValue) (t : AbstractType) (v : AbstractValue) → Says m t tree v → read m true t tree ≡ Ok v
  says_read m (value_node site form) t v h = form_read m form site t v h

  form_read : (m : Meaning) (form : WrittenValueForm) (site : Site) (t : AbstractType) (v : AbstractValue) → FormSays m t form v → read_form m true t site form ≡ Ok v
  form_read m (written.boolean b) site t v h = ap (answered (WrongNotation site)) h
  form_read m written.null site t v h = ap (answered (WrongNotation site)) h
  form_read m (written.integer n) site t v h = integer_again site (kind_of t) n v h
  form_read m (written.text k spelling) site t v h = ap (answered (string_fault site (kind_of t) k)) h
  form_read m (written.reference name) site t v h = named_again site t (own_number (kind_of t) name) (m name) v h
  form_read m (written.chosen name tree) site t v h = chosen_again site (kind_of t) name (λ u. read m true u tree) (λ u w. Says m u tree w) v (λ u w s. says_read m tree u w s) h
  form_read m (written.list es) site t v h =
      braces_again m es (λ short u ws s i. elements_read m es short u ws s i)
      (λ ordered cs target different order wanted. entries_read m es ordered cs 0 target (all_absent cs) different order (λ j a. none_filled cs j) wanted (has_absent cs)) (kind_of t) site v h
  form_read m (written.arcs arcs) site t v h = arcs_again site (kind_of t) arcs v h

  elements_read : (m : Meaning) (es : WrittenEntries) (short : Bool) (t : AbstractType) (ws : List AbstractValue) → EntriesSay m t es ws → (short ≡ true → are_short t ws ≡ true) → read_elements m true short t es ≡ Ok ws
  elements_read m no_entries short t ws h s = ap Ok (sym h)
  elements_read m (entry site None tree rest) short t ws h s =
      let parts : short ≡ true → (is_short (der t h.0) ≡ true) × (are_short t h.1 ≡ true) = (λ e. and_parts (is_short (der t h.0)) (are_short t h.1) (sym (ap (are_short t) h.4) ∙ s e)) in
      one_more (element_at short t site None (site_of tree) (read m true t tree)) (read_elements m true short t rest) h.0 h.1
      (element_again short t site (site_of tree) (read m true t tree) h.0 (says_read m tree t h.0 h.2) (λ e. (parts e).0)) (elements_read m rest short t h.1 h.3 (λ e. (parts e).1))
      ∙ ap Ok (sym h.4)
  elements_read m (entry site (Some name) tree rest) short t ws h s = absurd h

  entries_read : (m : Meaning) (es : WrittenEntries) (ordered : Bool) (cs : Components) (next : ℕ) (target before : Fields)
      → are_different (entry_places cs es) ≡ true → (ordered ≡ true → are_in_order next (entry_places cs es) ≡ true)
      → ((j : ℕ) → is_among j (entry_places cs es) ≡ true → is_filled j before ≡ false) → WantedEntries m cs es target → HasFields cs before
      → EntriesRead m ordered cs next target before es
  entries_read m no_entries ordered cs next target before different order free wanted shape = (before, refl, λ j. refl, shape)
  entries_read m (entry site None tree rest) ordered cs next target before different order free wanted shape = absurd cc
  entries_read m (entry site (Some name) tree rest) ordered cs next target before different order free wanted shape =
      entry_again m cs ordered next target before site name tree rest (located name cs) refl different order free wanted shape (λ u w s. says_read m tree u w s)
      (λ n b d o f w s. entries_read m rest ordered cs n target b d o f w s)
