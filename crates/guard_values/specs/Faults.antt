-- Why a written value denotes nothing: its faults, in the order in which they are looked for. What is written first comes
-- first: a form that the type hasn't before what is inside, an entry's name before its value, and what a list lacks
-- after its last entry. An encoding that is too long is looked for last of all.
use Rattle.std.specs.Prelude.{ℕ, suc, ℤ, Bool, true, false, ◌&&◌, ◌||◌, not, List, [], ◌∷◌, ◌++◌, nat_lt, Option, Some, None, is_some, if◌then◌else◌, option_to_list}
use Rattle.std.specs.Option.{option_map}
use Rattle.guard_model.specs.declared.site.Site.{Site}
use Rattle.guard_model.specs.AbstractType as type
use Rattle.guard_model.specs.AbstractType.{AbstractType, AbstractKind, Components, NamedNumber, no_components, component}
use Rattle.guard_model.specs.Kinds.{kind_of}
use Rattle.guard_model.specs.Limits.{fits_128_bits}
use Rattle.guard_model.specs.SameType.{same_base}
use Rattle.guard_syntax.specs.Numbers.{number_of}
use Rattle.guard_syntax.specs.Trees as written
use Rattle.guard_syntax.specs.Trees.{WrittenArc, WrittenValue, WrittenValueForm, WrittenEntries, value_node, no_entries, entry}
use Rattle.guard_values.specs.declared.fault.ValueFault.{ValueFault}
use Rattle.guard_values.specs.declared.fault.ValueFault.TheVariants.{WrongNotation, UnknownName, MissingComponent, RepeatedComponent, OutOfOrder, BadCharacter, BadObjectId, TooLarge}
use Rattle.guard_values.specs.ObjectIdentifiers.{arc_numbers, too_large_arc, are_arcs}
use Rattle.guard_values.specs.Meanings.{Governed, Meaning, own_number}
use Rattle.guard_values.specs.NamedBits.{name_alone, named_bit}
use Rattle.guard_values.specs.Simple.{text_value}
use Rattle.guard_values.specs.Places.{Located, located, entry_place, entry_places, is_among, may_be_left_out}
use Rattle.guard_values.specs.Denotes.{alternatives_of}
use Rattle.guard_values.specs.Forms.{takes, are_few_entries}

abbrev pub unless : Bool → ValueFault → List ValueFault
unless b f = if b then [] else f ∷ []

-- V1, at the value: it has another form than its type. Nothing else counts then.
abbrev pub where_taken : Bool → Site → List ValueFault → List ValueFault
where_taken taken site faults = if taken then faults else WrongNotation site ∷ []

-- ---- without a value inside

-- V8: a number of the type's own list is outside this profile's limits. V2: the name is neither in that list nor
-- visible. V1: the type of what is visible has another base.
abbrev pub faults_of_name : Site → AbstractType → Option ℤ → Option Governed → List ValueFault
faults_of_name site t (Some z) visible = unless (fits_128_bits z) (TooLarge site)
faults_of_name site t None None = UnknownName site ∷ []
faults_of_name site t None (Some g) = unless (same_base t g.ty) (WrongNotation site)

-- V8, at an arc that is too large, before V7, at the brace: fewer than two arcs, or two that no object identifier begins
-- with
abbrev pub faults_of_arcs : Site → List WrittenArc → List ValueFault
faults_of_arcs site arcs =
    option_to_list (option_map TooLarge (too_large_arc arcs)) ++ unless (are_arcs (arc_numbers arcs)) (BadObjectId site)

-- ---- names of entries

abbrev pub is_past : ℕ → Option ℕ → Bool
is_past i None = false
is_past i (Some j) = nat_lt i j

abbrev pub is_below_some : ℕ → List (Option ℕ) → Bool
is_below_some i [] = false
is_below_some i (p ∷ ps) = is_past i p || is_below_some i ps

-- For a component, with the places that entries before it name. V2: no component. V4: one that is named before. V5: in a
-- SEQUENCE, one that comes before one that is named before (clause 25).
abbrev pub faults_of_place : Bool → List (Option ℕ) → Site → Option Located → List ValueFault
faults_of_place ordered before site None = UnknownName site ∷ []
faults_of_place ordered before site (Some l) =
    if is_among l.place before then RepeatedComponent site ∷ []
    else (if ordered && is_below_some l.place before then OutOfOrder site ∷ [] else [])

-- an entry for a component has a name before its value (clause 25)
abbrev pub faults_of_entry_name : Bool → Components → List (Option ℕ) → Site → Option (List ℕ) → List ValueFault
faults_of_entry_name ordered cs before site None = WrongNotation site ∷ []
faults_of_entry_name ordered cs before site (Some name) = faults_of_place ordered before site (located name cs)

-- one of an OF type has none (clauses 26 and 28)
abbrev pub faults_of_element_name : Site → Option (List ℕ) → List ValueFault
faults_of_element_name site None = []
faults_of_element_name site (Some name) = WrongNotation site ∷ []

-- one for a bit is a name alone (22.5), and that of a bit
abbrev pub faults_of_bit : List NamedNumber → Site → Option (List ℕ) → List ValueFault
faults_of_bit names site None = WrongNotation site ∷ []
faults_of_bit names site (Some name) = unless (is_some (named_bit names name)) (UnknownName site)

abbrev pub faults_of_bits : List NamedNumber → WrittenEntries → List ValueFault
faults_of_bits names no_entries = []
faults_of_bits names (entry site label tree rest) =
    faults_of_bit names site (name_alone label tree) ++ faults_of_bits names rest

-- ---- what a list in braces lacks, or has too many of

-- a component from this place on that may not be left out, and is
abbrev pub misses : List (Option ℕ) → ℕ → Components → Bool
misses given i no_components = false
misses given i (component name t presence rest) =
    (not (may_be_left_out presence) && not (is_among i given)) || misses given (suc i) rest

-- V3, at the brace: a component without an entry, neither OPTIONAL nor with a DEFAULT (clause 25)
abbrev pub faults_after : Site → Components → WrittenEntries → List ValueFault
faults_after site cs es = unless (not (misses (entry_places cs es) 0 cs)) (MissingComponent site)

abbrev pub faults_of_count : Site → WrittenEntries → List ValueFault
faults_of_count site es = unless (are_few_entries es) (TooLarge site)

-- in braces that the kind takes, given the faults in entries for components and in elements
abbrev pub faults_of_list : Site → AbstractKind → WrittenEntries → (Bool → Components → List ValueFault)
    → (AbstractType → List ValueFault) → List ValueFault
faults_of_list site (type.sequence cs) es in_entries in_elements = in_entries true cs ++ faults_after site cs es
faults_of_list site (type.set cs) es in_entries in_elements = in_entries false cs ++ faults_after site cs es
faults_of_list site (type.sequence_of t) es in_entries in_elements = in_elements t ++ faults_of_count site es
faults_of_list site (type.set_of t) es in_entries in_elements = in_elements t ++ faults_of_count site es
faults_of_list site (type.bit_string names) es in_entries in_elements = faults_of_bits names es
-- V7: too few arcs to be an object identifier
faults_of_list site type.object_identifier es in_entries in_elements = BadObjectId site ∷ []
faults_of_list site type.boolean es in_entries in_elements = []
faults_of_list site (type.integer ns) es in_entries in_elements = []
faults_of_list site type.octet_string es in_entries in_elements = []
faults_of_list site type.null es in_entries in_elements = []
faults_of_list site (type.enumerated items) es in_entries in_elements = []
faults_of_list site (type.characters k) es in_entries in_elements = []
faults_of_list site (type.choice cs) es in_entries in_elements = []

-- ---- all forms

-- of the value of what is found by a name
abbrev pub faults_there : (AbstractType → List ValueFault) → Option Located → List ValueFault
faults_there find None = []
faults_there find (Some l) = find l.ty

abbrev pub named_component : Components → Option (List ℕ) → Option Located
named_component cs None = None
named_component cs (Some name) = located name cs

abbrev mutual
  -- all but encodings that are too long
  pub faults_of : Meaning → AbstractType → WrittenValue → List ValueFault
  faults_of m t (value_node site form) = where_taken (takes (kind_of t) form) site (faults_of_form m t site form)

  pub faults_of_form : Meaning → AbstractType → Site → WrittenValueForm → List ValueFault
  faults_of_form m t site (written.boolean b) = []
  faults_of_form m t site written.null = []
  -- V8, at the number
  faults_of_form m t site (written.integer n) = unless (fits_128_bits (number_of n)) (TooLarge n.site)
  -- V6, at the string: a character outside the alphabet (clause 41)
  faults_of_form m t site (written.text k spelling) =
      unless (is_some (text_value (kind_of t) k spelling)) (BadCharacter site)
  faults_of_form m t site (written.reference name) = faults_of_name site t (own_number (kind_of t) name) (m name)
  -- V2, at the name: no alternative
  faults_of_form m t site (written.chosen name tree) =
      unless (is_some (located name (alternatives_of (kind_of t)))) (UnknownName site)
      ++ faults_there (λ u. faults_of m u tree) (located name (alternatives_of (kind_of t)))
  faults_of_form m t site (written.list es) =
      faults_of_list site (kind_of t) es (λ ordered cs. faults_of_entries m ordered cs [] es)
      (λ u. faults_of_elements m u es)
  faults_of_form m t site (written.arcs arcs) = faults_of_arcs site arcs

  -- for components; `before` are the places that the entries before these name
  pub faults_of_entries : Meaning → Bool → Components → List (Option ℕ) → WrittenEntries → List ValueFault
  faults_of_entries m ordered cs before no_entries = []
  faults_of_entries m ordered cs before (entry site name tree rest) =
      faults_of_entry_name ordered cs before site name
      ++ (faults_there (λ u. faults_of m u tree) (named_component cs name)
      ++ faults_of_entries m ordered cs (entry_place cs name ∷ before) rest)

  pub faults_of_elements : Meaning → AbstractType → WrittenEntries → List ValueFault
  faults_of_elements m t no_entries = []
  faults_of_elements m t (entry site name tree rest) =
      faults_of_element_name site name ++ (faults_of m t tree ++ faults_of_elements m t rest)
