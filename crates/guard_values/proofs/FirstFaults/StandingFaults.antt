-- The fault that comes first stands at its site.
use Rattle.std.proofs.Common.{◌≡◌, ℕ, suc, ◌+◌, Bool, true, false, cond, not, ◌&&◌, ℤ, List, [], ◌∷◌, ◌++◌, Option, Some, None, inl, inr, ◌⊎◌, option_map, refl, sym, ap, ◌∙◌, subst}
use Rattle.std.specs.Prelude.{nat_eq, nat_lt, is_some, slice_get, option_to_list}
use Rattle.std.specs.Option.{option_or}
use Rattle.std.proofs.lemmas.Bool.{and_parts, or_cases, or_left, or_right, not-true, not-false, eqb-true, eq-eqb}
use Rattle.guard_model.specs.declared.site.Site.{Site}
use Rattle.guard_model.specs.declared.tag.Tag.{Tag}
use Rattle.guard_model.specs.AbstractType as type
use Rattle.guard_model.specs.AbstractType.{AbstractType, AbstractKind, Components, Constraints, NamedNumber, type_of, no_components, component}
use Rattle.guard_model.specs.Kinds.{element_of}
use Rattle.guard_model.specs.Limits.{fits_128_bits}
use Rattle.guard_model.specs.SameType.{same_base}
use Rattle.guard_syntax.specs.declared.tree.StringKind.{StringKind}
use Rattle.guard_syntax.specs.declared.tree.StringKind.TheVariants as string
use Rattle.guard_syntax.specs.Numbers.{number_of}
use Rattle.guard_syntax.specs.Trees as written
use Rattle.guard_syntax.specs.Trees.{WrittenArc, WrittenNumber, WrittenValue, WrittenValueForm, WrittenEntries, value_node, no_entries, entry}
use Rattle.guard_values.specs.declared.fault.ValueFault.{ValueFault}
use Rattle.guard_values.specs.declared.fault.ValueFault.TheVariants.{WrongNotation, UnknownName, MissingComponent, RepeatedComponent, OutOfOrder, BadCharacter, BadObjectId, TooLarge}
use Rattle.guard_values.specs.ObjectIdentifiers.{arc_number, arc_numbers, is_large, large_arc, large_second, too_large_arc, are_arcs}
use Rattle.guard_values.specs.Meanings.{Governed, Meaning, own_number}
use Rattle.guard_values.specs.NamedBits.{name_alone, named_bit}
use Rattle.guard_values.specs.Simple.{text_value}
use Rattle.guard_values.specs.Places.{Located, located, entry_place, entry_places, is_place, is_among, may_be_left_out}
use Rattle.guard_values.specs.Forms.{takes, takes_entry, are_few_entries}
use Rattle.guard_values.specs.Conditions.{SomeEntry, SomePair, components_of, ordered_components, LacksEntry, NamesNothing, NameInReverse, HasLargeArc, HasLargeSecond, Stands, entry_type, Somewhere, InEntry}
use Rattle.guard_values.specs.Faults.{unless, where_taken, faults_of_name, faults_of_arcs, is_past, is_below_some, faults_of_place, faults_of_bit, faults_of_bits, misses, faults_after, faults_of_count, faults_of_list, faults_there, faults_of, faults_of_form, faults_of_entries, faults_of_elements}

-- ---- the first of a list

-- P holds of the first one, where there is one
abbrev FirstHolds : (ValueFault → Type 0) → List ValueFault → Type 0
FirstHolds P [] = Unit {0}
FirstHolds P (f ∷ fs) = P f

first_of_both : (P : ValueFault → Type 0) (fs gs : List ValueFault) → FirstHolds P fs → FirstHolds P gs → FirstHolds P (fs ++ gs)
first_of_both P [] gs h k = k
first_of_both P (f ∷ fs) gs h k = h

first_in : (P Q : ValueFault → Type 0) (fs : List ValueFault) → ((f : ValueFault) → P f → Q f) → FirstHolds P fs → FirstHolds Q fs
first_in P Q [] wider h = tt
first_in P Q (f ∷ fs) wider h = wider f h

first_unless : (P : ValueFault → Type 0) (b : Bool) (f : ValueFault) → (b ≡ false → P f) → FirstHolds P (unless b f)
first_unless P true f h = tt
first_unless P false f h = h refl

none_if_not_some : {A : Type 0} (o : Option A) → is_some o ≡ false → o ≡ None
none_if_not_some None e = refl
none_if_not_some (Some v) e = absurd cc

-- ---- places that are named before

-- P holds of one of them
abbrev AnyPlace : (Option ℕ → Type 0) → List (Option ℕ) → Type 0
AnyPlace P [] = ⊥
AnyPlace P (p ∷ ps) = P p ⊎ AnyPlace P ps

this_place : (i : ℕ) (p : Option ℕ) → is_place i p ≡ true → p ≡ Some i
this_place i None e = absurd cc
this_place i (Some j) e = ap Some (sym (eqb-true i j e))

among_any : (i : ℕ) (ps : List (Option ℕ)) → is_among i ps ≡ true → AnyPlace (λ p. p ≡ Some i) ps
among_any i [] e = absurd cc
among_any i (p ∷ ps) e = elim (or_cases (is_place i p) (is_among i ps) e) [
  | inl here ↦ inl (this_place i p here)
  | inr there ↦ inr (among_any i ps there)
]

-- the place of a component after that one
abbrev IsAfter : ℕ → Option ℕ → Type 0
IsAfter i p = (j : ℕ) × (p ≡ Some j) × (nat_lt i j ≡ true)

past_after : (i : ℕ) (p : Option ℕ) → is_past i p ≡ true → IsAfter i p
past_after i None e = absurd cc
past_after i (Some j) e = (j, refl, e)

below_any : (i : ℕ) (ps : List (Option ℕ)) → is_below_some i ps ≡ true → AnyPlace (IsAfter i) ps
below_any i [] e = absurd cc
below_any i (p ∷ ps) e = elim (or_cases (is_past i p) (is_below_some i ps) e) [
  | inl here ↦ inl (past_after i p here)
  | inr there ↦ inr (below_any i ps there)
]

-- ---- entries, given the places that are named before them

-- an entry at the site whose place has R to one of those before all of them
abbrev AfterSome : (ℕ → List (Option ℕ) → Type 0) → Components → List (Option ℕ) → Site → WrittenEntries → Type 0
AfterSome R cs before s es = SomeEntry (λ place label tree. (s ≡ place) × ((i : ℕ) × (entry_place cs label ≡ Some i) × R i before)) es

-- or to that of an entry before it
abbrev AfterOne : (ℕ → Option ℕ → Type 0) → Components → List (Option ℕ) → Site → WrittenEntries → Type 0
AfterOne R cs before s es =
    AfterSome (λ i ps. AnyPlace (R i) ps) cs before s es ⊎ SomePair (λ earlier place later. (s ≡ place) × ((i : ℕ) × (entry_place cs later ≡ Some i) × R i (entry_place cs earlier))) es

module _ (R : ℕ → Option ℕ → Type 0) (cs : Components) (s : Site) where
  split_entry : (label : Option (List ℕ)) (before : List (Option ℕ)) (es : WrittenEntries) → AfterSome (λ i ps. AnyPlace (R i) ps) cs (entry_place cs label ∷ before) s es
      → SomeEntry (λ place later tree. (s ≡ place) × ((i : ℕ) × (entry_place cs later ≡ Some i) × R i (entry_place cs label))) es ⊎ AfterSome (λ i ps. AnyPlace (R i) ps) cs before s es
  split_entry label before no_entries h = absurd h
  split_entry label before (entry place later tree rest) (inl h) = elim h.1.2 [
    | inl first ↦ inl (inl (h.0, (h.1.0, h.1.1, first)))
    | inr others ↦ inr (inl (h.0, (h.1.0, h.1.1, others)))
  ]
  split_entry label before (entry place later tree rest) (inr h) = elim (split_entry label before rest h) [
    | inl first ↦ inl (inr first)
    | inr others ↦ inr (inr others)
  ]

  after_rest : (site : Site) (label : Option (List ℕ)) (tree : WrittenValue) (before : List (Option ℕ)) (rest : WrittenEntries) → AfterOne R cs (entry_place cs label ∷ before) s rest → AfterOne R cs before s (entry site label tree rest)
  after_rest site label tree before rest (inl h) = elim (split_entry label before rest h) [
    | inl first ↦ inr (inl first)
    | inr others ↦ inl (inr others)
  ]
  after_rest site label tree before rest (inr h) = inr (inr h)

  none_before : (es : WrittenEntries) → AfterSome (λ i ps. AnyPlace (R i) ps) cs [] s es → ⊥
  none_before no_entries h = h
  none_before (entry site label tree rest) (inl h) = h.1.2
  none_before (entry site label tree rest) (inr h) = none_before rest h

  pairs_alone : (es : WrittenEntries) → AfterOne R cs [] s es → SomePair (λ earlier place later. (s ≡ place) × ((i : ℕ) × (entry_place cs later ≡ Some i) × R i (entry_place cs earlier))) es
  pairs_alone es (inl h) = absurd (none_before es h)
  pairs_alone es (inr h) = h

-- ---- what stands in entries

-- V1 at an entry, or V2 at its name
abbrev EntryStands : AbstractKind → WrittenEntries → ValueFault → Type 0
EntryStands kind es (WrongNotation s) = SomeEntry (λ place label tree. (s ≡ place) × (takes_entry kind label tree ≡ false)) es
EntryStands kind es (UnknownName s) = SomeEntry (λ place label tree. (s ≡ place) × NamesNothing kind label tree) es
EntryStands kind es _ = ⊥

-- or what stands in its value
abbrev StandsIn : Meaning → AbstractKind → WrittenEntries → ValueFault → Type 0
StandsIn m kind es f = InEntry (Stands m f) kind es ⊎ EntryStands kind es f

stands_in_rest : (m : Meaning) (kind : AbstractKind) (site : Site) (label : Option (List ℕ)) (tree : WrittenValue) (rest : WrittenEntries) (f : ValueFault) → StandsIn m kind rest f → StandsIn m kind (entry site label tree rest) f
stands_in_rest m kind site label tree rest f (inl h) = inl (inr h)
stands_in_rest m kind site label tree rest (WrongNotation s) (inr h) = inr (inr h)
stands_in_rest m kind site label tree rest (UnknownName s) (inr h) = inr (inr h)
stands_in_rest m kind site label tree rest f (inr h) = absurd h

-- V4 and V5 at the name of an entry for a component
abbrev ComponentStands : Components → Bool → List (Option ℕ) → WrittenEntries → ValueFault → Type 0
ComponentStands cs ordered before es (RepeatedComponent s) = AfterOne (λ i p. p ≡ Some i) cs before s es
ComponentStands cs ordered before es (OutOfOrder s) = (ordered ≡ true) × AfterOne IsAfter cs before s es
ComponentStands cs ordered before es _ = ⊥

abbrev StandsAfter : Meaning → AbstractKind → Components → Bool → List (Option ℕ) → WrittenEntries → ValueFault → Type 0
StandsAfter m kind cs ordered before es f = StandsIn m kind es f ⊎ ComponentStands cs ordered before es f

stands_after_rest : (m : Meaning) (kind : AbstractKind) (cs : Components) (ordered : Bool) (site : Site) (label : Option (List ℕ)) (tree : WrittenValue) (before : List (Option ℕ)) (rest : WrittenEntries) (f : ValueFault)
    → StandsAfter m kind cs ordered (entry_place cs label ∷ before) rest f → StandsAfter m kind cs ordered before (entry site label tree rest) f
stands_after_rest m kind cs ordered site label tree before rest f (inl h) = inl (stands_in_rest m kind site label tree rest f h)
stands_after_rest m kind cs ordered site label tree before rest (RepeatedComponent s) (inr h) = inr (after_rest (λ i p. p ≡ Some i) cs s site label tree before rest h)
stands_after_rest m kind cs ordered site label tree before rest (OutOfOrder s) (inr h) = inr (h.0, after_rest IsAfter cs s site label tree before rest h.1)
stands_after_rest m kind cs ordered site label tree before rest f (inr h) = absurd h

-- ---- in the value that has the list

module _ (m : Meaning) (tags : List Tag) (kind : AbstractKind) (cons : Constraints) (site : Site) (es : WrittenEntries) where
  in_list : (f : ValueFault) → StandsIn m kind es f → Somewhere (Stands m f) (type_of tags kind cons) (value_node site (written.list es))
  in_list f (inl h) = inr h
  in_list (WrongNotation s) (inr h) = inl (inr h)
  in_list (UnknownName s) (inr h) = inl h
  in_list f (inr h) = absurd h

  in_components : (ordered : Bool) → (ordered ≡ true → components_of kind ≡ ordered_components kind) → (f : ValueFault) → StandsAfter m kind (components_of kind) ordered [] es f
      → Somewhere (Stands m f) (type_of tags kind cons) (value_node site (written.list es))
  in_components ordered order f (inl h) = in_list f h
  in_components ordered order (RepeatedComponent s) (inr h) = inl (pairs_alone (λ i p. p ≡ Some i) (components_of kind) s es h)
  in_components ordered order (OutOfOrder s) (inr h) = inl (subst (λ cs. SomePair (λ earlier place later. (s ≡ place) × NameInReverse cs earlier later) es) (order h.0) (pairs_alone IsAfter (components_of kind) s es h.1))
  in_components ordered order f (inr h) = absurd h

-- ---- V3

entry_among : (cs : Components) (i : ℕ) (es : WrittenEntries) → SomeEntry (λ place label tree. entry_place cs label ≡ Some i) es → is_among i (entry_places cs es) ≡ true
entry_among cs i no_entries h = absurd h
entry_among cs i (entry site label tree rest) (inl h) = or_left (is_place i (entry_place cs label)) (is_among i (entry_places cs rest)) (ap (is_place i) h ∙ eq-eqb i i refl)
entry_among cs i (entry site label tree rest) (inr h) = or_right (is_place i (entry_place cs label)) (is_among i (entry_places cs rest)) (entry_among cs i rest h)

misses_lacks : (cs : Components) (es : WrittenEntries) (i : ℕ) (parts : Components) → misses (entry_places cs es) i parts ≡ true → LacksEntry cs es i parts
misses_lacks cs es i no_components e = absurd cc
misses_lacks cs es i (component name t presence rest) e = elim (or_cases (not (may_be_left_out presence) && not (is_among i (entry_places cs es))) (misses (entry_places cs es) (suc i) rest) e) [
  | inl here ↦
      let p = and_parts (not (may_be_left_out presence)) (not (is_among i (entry_places cs es))) here in
      inl (not-true (may_be_left_out presence) p.0, λ h. let among = entry_among cs i es h in let none = not-true (is_among i (entry_places cs es)) p.1 in absurd cc)
  | inr there ↦ inr (misses_lacks cs es (suc i) rest there)
]

-- ---- without a value inside

large_arc_stands : (arcs : List WrittenArc) (s : Site) → large_arc arcs ≡ Some s → HasLargeArc s arcs
large_arc_stands [] s e = absurd cc
large_arc_stands (a ∷ arcs) s e = here (is_large (arc_number a)) refl e (λ later. large_arc_stands arcs s later) where
  here : (b : Bool) → is_large (arc_number a) ≡ b → cond b (Some a.site) (large_arc arcs) ≡ Some s → (large_arc arcs ≡ Some s → HasLargeArc s arcs) → HasLargeArc s (a ∷ arcs)
  here true is e later = inl (cc, is)
  here false is e later = inr (later e)

large_second_stands : (arcs : List WrittenArc) (s : Site) → large_second arcs ≡ Some s → HasLargeSecond s arcs
large_second_stands [] s e = absurd cc
large_second_stands (a ∷ []) s e = absurd cc
large_second_stands (a ∷ b ∷ arcs) s e = here (nat_eq (arc_number a) 2 && is_large (80 + arc_number b)) refl e where
  here : (both : Bool) → (nat_eq (arc_number a) 2 && is_large (80 + arc_number b)) ≡ both → cond both (Some b.site) None ≡ Some s → HasLargeSecond s (a ∷ b ∷ arcs)
  here true is e = let p = and_parts (nat_eq (arc_number a) 2) (is_large (80 + arc_number b)) is in (cc, eqb-true (arc_number a) 2 p.0, p.1)
  here false is e = absurd cc

too_large_stands : (arcs : List WrittenArc) (s : Site) → too_large_arc arcs ≡ Some s → HasLargeArc s arcs ⊎ HasLargeSecond s arcs
too_large_stands arcs s e = here (large_arc arcs) refl e where
  here : (o : Option Site) → large_arc arcs ≡ o → option_or o (large_second arcs) ≡ Some s → HasLargeArc s arcs ⊎ HasLargeSecond s arcs
  here (Some large) is e = inl (large_arc_stands arcs s (is ∙ e))
  here None is e = inr (large_second_stands arcs s e)

module _ (m : Meaning) (tags : List Tag) (cons : Constraints) (site : Site) where
  -- what is said of the first fault of a value of this form
  abbrev Standing : AbstractKind → WrittenValueForm → ValueFault → Type 0
  Standing kind form f = Somewhere (Stands m f) (type_of tags kind cons) (value_node site form)

  taken_first : (kind : AbstractKind) (form : WrittenValueForm) (faults : List ValueFault) → (takes kind form ≡ true → FirstHolds (Standing kind form) faults) → FirstHolds (Standing kind form) (where_taken (takes kind form) site faults)
  taken_first kind form faults h = here (takes kind form) refl where
    here : (taken : Bool) → takes kind form ≡ taken → FirstHolds (Standing kind form) (where_taken taken site faults)
    here true is = h is
    here false is = inl (inl (refl, is))

  integer_first : (kind : AbstractKind) (n : WrittenNumber) → takes kind (written.integer n) ≡ true → FirstHolds (Standing kind (written.integer n)) (unless (fits_128_bits (number_of n)) (TooLarge n.site))
  integer_first (type.integer ns) n is = first_unless (Standing (type.integer ns) (written.integer n)) (fits_128_bits (number_of n)) (TooLarge n.site) (λ large. inl (refl, refl, large))
  integer_first kind n is = absurd cc

  text_first : (k : StringKind) (kind : AbstractKind) (spelling : List ℕ) → takes kind (written.text k spelling) ≡ true → FirstHolds (Standing kind (written.text k spelling)) (unless (is_some (text_value kind k spelling)) (BadCharacter site))
  text_first string.Bits (type.bit_string ns) spelling is = tt
  text_first string.Hexadecimal (type.bit_string ns) spelling is = tt
  text_first string.Bits type.octet_string spelling is = tt
  text_first string.Hexadecimal type.octet_string spelling is = tt
  text_first string.Characters (type.characters k) spelling is =
      first_unless (Standing (type.characters k) (written.text string.Characters spelling)) (is_some (text_value (type.characters k) string.Characters spelling)) (BadCharacter site)
      (λ none. inl (refl, refl, none_if_not_some (text_value (type.characters k) string.Characters spelling) none))
  text_first k kind spelling is = absurd cc

  reference_first : (kind : AbstractKind) (name : List ℕ) (own : Option ℤ) (visible : Option Governed) → own_number kind name ≡ own → m name ≡ visible → FirstHolds (Standing kind (written.reference name)) (faults_of_name site (type_of tags kind cons) own visible)
  reference_first kind name (Some z) visible own seen = first_unless (Standing kind (written.reference name)) (fits_128_bits z) (TooLarge site) (λ large. inl (refl, (z, own, large)))
  reference_first kind name None None own seen = inl (refl, own, seen)
  reference_first kind name None (Some g) own seen = first_unless (Standing kind (written.reference name)) (same_base (type_of tags kind cons) g.ty) (WrongNotation site) (λ other. inl (inr (refl, (own, (g, seen, other)))))

  arcs_first : (kind : AbstractKind) (arcs : List WrittenArc) → takes kind (written.arcs arcs) ≡ true → FirstHolds (Standing kind (written.arcs arcs)) (faults_of_arcs site arcs)
  arcs_first type.object_identifier arcs is = here (too_large_arc arcs) refl where
    here : (large : Option Site) → too_large_arc arcs ≡ large → FirstHolds (Standing type.object_identifier (written.arcs arcs)) (option_to_list (option_map TooLarge large) ++ unless (are_arcs (arc_numbers arcs)) (BadObjectId site))
    here (Some s) is = inl (refl, too_large_stands arcs s is)
    here None is = first_unless (Standing type.object_identifier (written.arcs arcs)) (are_arcs (arc_numbers arcs)) (BadObjectId site) (λ none. inl (refl, refl, none))
  arcs_first kind arcs is = absurd cc

  chosen_first : (kind : AbstractKind) (name : List ℕ) (tree : WrittenValue) → ((u : AbstractType) → FirstHolds (λ f. Somewhere (Stands m f) u tree) (faults_of m u tree)) → takes kind (written.chosen name tree) ≡ true
      → FirstHolds (Standing kind (written.chosen name tree)) (faults_of_form m (type_of tags kind cons) site (written.chosen name tree))
  chosen_first (type.choice cs) name tree inside is = here (located name cs) refl where
    here : (found : Option Located) → located name cs ≡ found → FirstHolds (Standing (type.choice cs) (written.chosen name tree)) (unless (is_some found) (UnknownName site) ++ faults_there (λ u. faults_of m u tree) found)
    here None none = inl (refl, refl, none)
    here (Some l) is = first_in (λ f. Somewhere (Stands m f) l.ty tree) (Standing (type.choice cs) (written.chosen name tree)) (faults_of m l.ty tree) (λ f h. inr (l.ty, ap (option_map (λ k. k.ty)) is, h)) (inside l.ty)
  chosen_first kind name tree inside is = absurd cc

-- ---- bits in braces

module _ (m : Meaning) (bit : NamedNumber) (bits : List NamedNumber) where
  bit_first : (site : Site) (label : Option (List ℕ)) (tree : WrittenValue) (rest : WrittenEntries) (name : Option (List ℕ)) → name_alone label tree ≡ name
      → FirstHolds (StandsIn m (type.bit_string (bit ∷ bits)) (entry site label tree rest)) (faults_of_bit (bit ∷ bits) site name)
  bit_first site label tree rest None is = inr (inl (refl, ap is_some is))
  bit_first site label tree rest (Some name) is =
      first_unless (StandsIn m (type.bit_string (bit ∷ bits)) (entry site label tree rest)) (is_some (named_bit (bit ∷ bits) name)) (UnknownName site)
      (λ none. inr (inl (refl, (name, is, none_if_not_some (named_bit (bit ∷ bits) name) none))))

  bits_first : (es : WrittenEntries) → FirstHolds (StandsIn m (type.bit_string (bit ∷ bits)) es) (faults_of_bits (bit ∷ bits) es)
  bits_first no_entries = tt
  bits_first (entry site label tree rest) =
      first_of_both (StandsIn m (type.bit_string (bit ∷ bits)) (entry site label tree rest)) (faults_of_bit (bit ∷ bits) site (name_alone label tree)) (faults_of_bits (bit ∷ bits) rest)
      (bit_first site label tree rest (name_alone label tree) refl)
      (first_in (StandsIn m (type.bit_string (bit ∷ bits)) rest) (StandsIn m (type.bit_string (bit ∷ bits)) (entry site label tree rest)) (faults_of_bits (bit ∷ bits) rest)
      (λ f h. stands_in_rest m (type.bit_string (bit ∷ bits)) site label tree rest f h) (bits_first rest))

-- ---- entries for components

module _ (m : Meaning) (kind : AbstractKind) (cs : Components) (ordered : Bool) (before : List (Option ℕ)) (site : Site) (tree : WrittenValue) (rest : WrittenEntries) where
  -- what is said of the first fault, where this is the first entry
  abbrev AtEntry : Option (List ℕ) → ValueFault → Type 0
  AtEntry label f = StandsAfter m kind cs ordered before (entry site label tree rest) f

  place_first : (name : List ℕ) → (located name cs ≡ None → NamesNothing kind (Some name) tree) → (found : Option Located) → located name cs ≡ found → FirstHolds (AtEntry (Some name)) (faults_of_place ordered before site found)
  place_first name unknown None is = inl (inr (inl (refl, unknown is)))
  place_first name unknown (Some l) is = repeated (is_among l.place before) refl where
    late : (b : Bool) → (ordered && is_below_some l.place before) ≡ b → FirstHolds (AtEntry (Some name)) (cond b (OutOfOrder site ∷ []) [])
    late true e = let p = and_parts ordered (is_below_some l.place before) e in inr (p.0, inl (inl (refl, (l.place, ap (option_map (λ k. k.place)) is, below_any l.place before p.1))))
    late false e = tt

    repeated : (b : Bool) → is_among l.place before ≡ b → FirstHolds (AtEntry (Some name)) (cond b (RepeatedComponent site ∷ []) (cond (ordered && is_below_some l.place before) (OutOfOrder site ∷ []) []))
    repeated true e = inr (inl (inl (refl, (l.place, ap (option_map (λ k. k.place)) is, among_any l.place before e))))
    repeated false e = late (ordered && is_below_some l.place before) refl

  there_first : (name : List ℕ) → entry_type kind (Some name) ≡ option_map (λ l. l.ty) (located name cs) → ((u : AbstractType) → FirstHolds (λ f. Somewhere (Stands m f) u tree) (faults_of m u tree)) → (found : Option Located) → located name cs ≡ found
      → FirstHolds (AtEntry (Some name)) (faults_there (λ u. faults_of m u tree) found)
  there_first name typed inside None is = tt
  there_first name typed inside (Some l) is =
      first_in (λ f. Somewhere (Stands m f) l.ty tree) (AtEntry (Some name)) (faults_of m l.ty tree) (λ f h. inl (inl (inl (l.ty, typed ∙ ap (option_map (λ k. k.ty)) is, h)))) (inside l.ty)

-- ---- lists in braces

module _ (m : Meaning) (tags : List Tag) (cons : Constraints) (site : Site) (es : WrittenEntries) where
  after_first : (kind : AbstractKind) → FirstHolds (Standing m tags cons site kind (written.list es)) (faults_after site (components_of kind) es)
  after_first kind =
      let cs = components_of kind in
      first_unless (Standing m tags cons site kind (written.list es)) (not (misses (entry_places cs es) 0 cs)) (MissingComponent site) (λ e. inl (refl, misses_lacks cs es 0 cs (not-false (misses (entry_places cs es) 0 cs) e)))

  fields_first : (kind : AbstractKind) (ordered : Bool) → (ordered ≡ true → components_of kind ≡ ordered_components kind) → FirstHolds (StandsAfter m kind (components_of kind) ordered [] es) (faults_of_entries m ordered (components_of kind) [] es)
      → FirstHolds (Standing m tags cons site kind (written.list es)) (faults_of_entries m ordered (components_of kind) [] es ++ faults_after site (components_of kind) es)
  fields_first kind ordered order entries =
      let cs = components_of kind in
      first_of_both (Standing m tags cons site kind (written.list es)) (faults_of_entries m ordered cs [] es) (faults_after site cs es)
      (first_in (StandsAfter m kind cs ordered [] es) (Standing m tags cons site kind (written.list es)) (faults_of_entries m ordered cs [] es) (λ f h. in_components m tags kind cons site es ordered order f h) entries)
      (after_first kind)

  items_first : (kind : AbstractKind) (u : AbstractType) → element_of kind ≡ Some u → FirstHolds (StandsIn m kind es) (faults_of_elements m u es) → FirstHolds (Standing m tags cons site kind (written.list es)) (faults_of_elements m u es ++ faults_of_count site es)
  items_first kind u of elements =
      first_of_both (Standing m tags cons site kind (written.list es)) (faults_of_elements m u es) (faults_of_count site es)
      (first_in (StandsIn m kind es) (Standing m tags cons site kind (written.list es)) (faults_of_elements m u es) (λ f h. in_list m tags kind cons site es f h) elements)
      (first_unless (Standing m tags cons site kind (written.list es)) (are_few_entries es) (TooLarge site) (λ many. inl (refl, ap is_some of, many)))

  module _ (elements : (kind : AbstractKind) (u : AbstractType) → entry_type kind None ≡ Some u → ((name : List ℕ) (tree : WrittenValue) → takes_entry kind (Some name) tree ≡ false) → FirstHolds (StandsIn m kind es) (faults_of_elements m u es))
      (entries : (kind : AbstractKind) (cs : Components) (ordered : Bool) → ((name : List ℕ) → entry_type kind (Some name) ≡ option_map (λ l. l.ty) (located name cs)) → ((tree : WrittenValue) → takes_entry kind None tree ≡ false)
      → ((name : List ℕ) (tree : WrittenValue) → located name cs ≡ None → NamesNothing kind (Some name) tree) → FirstHolds (StandsAfter m kind cs ordered [] es) (faults_of_entries m ordered cs [] es)) where
    list_first : (kind : AbstractKind) → takes kind (written.list es) ≡ true
        → FirstHolds (Standing m tags cons site kind (written.list es)) (faults_of_list site kind es (λ ordered cs. faults_of_entries m ordered cs [] es) (λ u. faults_of_elements m u es))
    list_first (type.sequence cs) is = fields_first (type.sequence cs) true (λ e. refl) (entries (type.sequence cs) cs true (λ name. refl) (λ tree. refl) (λ name tree none. (name, refl, none)))
    list_first (type.set cs) is = fields_first (type.set cs) false (λ e. absurd cc) (entries (type.set cs) cs false (λ name. refl) (λ tree. refl) (λ name tree none. (name, refl, none)))
    list_first (type.sequence_of u) is = items_first (type.sequence_of u) u refl (elements (type.sequence_of u) u refl (λ name tree. refl))
    list_first (type.set_of u) is = items_first (type.set_of u) u refl (elements (type.set_of u) u refl (λ name tree. refl))
    list_first (type.bit_string (bit ∷ bits)) is =
        first_in (StandsIn m (type.bit_string (bit ∷ bits)) es) (Standing m tags cons site (type.bit_string (bit ∷ bits)) (written.list es)) (faults_of_bits (bit ∷ bits) es)
        (λ f h. in_list m tags (type.bit_string (bit ∷ bits)) cons site es f h) (bits_first m bit bits es)
    list_first type.object_identifier is = inl (refl, refl, is)
    list_first kind is = absurd cc

-- ---- all values

mutual
  value_first : (m : Meaning) (tree : WrittenValue) (t : AbstractType) → FirstHolds (λ f. Somewhere (Stands m f) t tree) (faults_of m t tree)
  value_first m (value_node site form) (type_of tags kind cons) = taken_first m tags cons site kind form (faults_of_form m (type_of tags kind cons) site form) (form_first m form tags kind cons site)

  form_first : (m : Meaning) (form : WrittenValueForm) (tags : List Tag) (kind : AbstractKind) (cons : Constraints) (site : Site) → takes kind form ≡ true → FirstHolds (Standing m tags cons site kind form) (faults_of_form m (type_of tags kind cons) site form)
  form_first m (written.boolean b) tags kind cons site is = tt
  form_first m written.null tags kind cons site is = tt
  form_first m (written.integer n) tags kind cons site is = integer_first m tags cons site kind n is
  form_first m (written.text k spelling) tags kind cons site is = text_first m tags cons site k kind spelling is
  form_first m (written.reference name) tags kind cons site is = reference_first m tags cons site kind name (own_number kind name) (m name) refl refl
  form_first m (written.chosen name tree) tags kind cons site is = chosen_first m tags cons site kind name tree (λ u. value_first m tree u) is
  form_first m (written.arcs arcs) tags kind cons site is = arcs_first m tags cons site kind arcs is
  form_first m (written.list es) tags kind cons site is =
      list_first m tags cons site es (λ k u typed unnamed. elements_first m es k u typed unnamed) (λ k cs ordered typed named known. entries_first m es k cs ordered typed named known []) kind is

  elements_first : (m : Meaning) (es : WrittenEntries) (kind : AbstractKind) (u : AbstractType) → entry_type kind None ≡ Some u → ((name : List ℕ) (tree : WrittenValue) → takes_entry kind (Some name) tree ≡ false)
      → FirstHolds (StandsIn m kind es) (faults_of_elements m u es)
  elements_first m no_entries kind u typed unnamed = tt
  elements_first m (entry site None tree rest) kind u typed unnamed =
      first_of_both (StandsIn m kind (entry site None tree rest)) (faults_of m u tree) (faults_of_elements m u rest)
      (first_in (λ f. Somewhere (Stands m f) u tree) (StandsIn m kind (entry site None tree rest)) (faults_of m u tree) (λ f h. inl (inl (u, typed, h))) (value_first m tree u))
      (first_in (StandsIn m kind rest) (StandsIn m kind (entry site None tree rest)) (faults_of_elements m u rest) (λ f h. stands_in_rest m kind site None tree rest f h) (elements_first m rest kind u typed unnamed))
  elements_first m (entry site (Some name) tree rest) kind u typed unnamed = inr (inl (refl, unnamed name tree))

  entries_first : (m : Meaning) (es : WrittenEntries) (kind : AbstractKind) (cs : Components) (ordered : Bool) → ((name : List ℕ) → entry_type kind (Some name) ≡ option_map (λ l. l.ty) (located name cs)) → ((tree : WrittenValue) → takes_entry kind None tree ≡ false)
      → ((name : List ℕ) (tree : WrittenValue) → located name cs ≡ None → NamesNothing kind (Some name) tree) → (before : List (Option ℕ)) → FirstHolds (StandsAfter m kind cs ordered before es) (faults_of_entries m ordered cs before es)
  entries_first m no_entries kind cs ordered typed named known before = tt
  entries_first m (entry site None tree rest) kind cs ordered typed named known before = inl (inr (inl (refl, named tree)))
  entries_first m (entry site (Some name) tree rest) kind cs ordered typed named known before =
      first_of_both (AtEntry m kind cs ordered before site tree rest (Some name)) (faults_of_place ordered before site (located name cs))
      (faults_there (λ u. faults_of m u tree) (located name cs) ++ faults_of_entries m ordered cs (entry_place cs (Some name) ∷ before) rest)
      (place_first m kind cs ordered before site tree rest name (known name tree) (located name cs) refl)
      (first_of_both (AtEntry m kind cs ordered before site tree rest (Some name)) (faults_there (λ u. faults_of m u tree) (located name cs)) (faults_of_entries m ordered cs (entry_place cs (Some name) ∷ before) rest)
      (there_first m kind cs ordered before site tree rest name (typed name) (λ u. value_first m tree u) (located name cs) refl)
      (first_in (StandsAfter m kind cs ordered (entry_place cs (Some name) ∷ before) rest) (AtEntry m kind cs ordered before site tree rest (Some name)) (faults_of_entries m ordered cs (entry_place cs (Some name) ∷ before) rest)
      (λ f h. stands_after_rest m kind cs ordered site (Some name) tree before rest f h) (entries_first m rest kind cs ordered typed named known (entry_place cs (Some name) ∷ before))))

-- ---- the first fault

first_of : (P : ValueFault → Type 0) (fs : List ValueFault) (f : ValueFault) → slice_get fs 0 ≡ Some f → FirstHolds P fs → P f
first_of P [] f e h = absurd cc
first_of P (g ∷ fs) f e h = subst P (same_Some g f e) h where
  same_Some : {A : Type 0} (x y : A) → Some x ≡ Some y → x ≡ y
  same_Some x y e = cc

-- The first fault stands at its site.
pub first_stands : (m : Meaning) (tree : WrittenValue) (t : AbstractType) (f : ValueFault) → slice_get (faults_of m t tree) 0 ≡ Some f → Somewhere (Stands m f) t tree
first_stands m tree t f e = first_of (λ g. Somewhere (Stands m g) t tree) (faults_of m t tree) f e (value_first m tree t)
