-- What the code reads, step by step: a value, or the first fault.
use Rattle.std.specs.Prelude.{ℕ, suc, ◌-◌, ℤ, Bool, true, false, ◌&&◌, List, [], ◌∷◌, nat_le, nat_lt, Option, Some, None, Result, Ok, Err, if◌then◌else◌}
use Rattle.guard_model.specs.Answer.{◌>>=◌}
use Rattle.guard_model.specs.declared.site.Site.{Site}
use Rattle.guard_model.specs.AbstractType as type
use Rattle.guard_model.specs.AbstractType.{AbstractType, AbstractKind, AbstractPresence, Components, NamedNumber, component}
use Rattle.guard_model.specs.AbstractValue as value
use Rattle.guard_model.specs.AbstractValue.{AbstractValue, Fields, items_of}
use Rattle.guard_der.specs.Der.{der}
use Rattle.guard_der.specs.Encoding.{longest_encoding, short_length}
use Rattle.guard_der.specs.ProperConstraints.{is_short}
use Rattle.guard_model.specs.Slots.{all_absent}
use Rattle.guard_der.specs.Reading.{is_filled, fill, field_before}
use Rattle.guard_syntax.specs.declared.tree.StringKind.{StringKind}
use Rattle.guard_syntax.specs.declared.tree.StringKind.TheVariants as string
use Rattle.guard_syntax.specs.Trees as written
use Rattle.guard_syntax.specs.Trees.{WrittenNumber, WrittenArc, WrittenEntry, WrittenValue, WrittenValueForm, WrittenEntries, value_node, no_entries, entry}
use Rattle.guard_values.specs.declared.fault.ValueFault.{ValueFault}
use Rattle.guard_values.specs.declared.fault.ValueFault.TheVariants.{WrongNotation, UnknownName, MissingComponent, RepeatedComponent, OutOfOrder, BadCharacter, BadObjectId, TooLarge}
use Rattle.guard_values.specs.ObjectIdentifiers.{arc_number, arc_numbers, is_large, too_large_arc, are_arcs}
use Rattle.guard_values.specs.Meanings.{Governed, Meaning, own_number}
use Rattle.guard_model.specs.Kinds.{kind_of}
use Rattle.guard_values.specs.NamedBits.{name_alone, named_bit, ones_at}
use Rattle.guard_values.specs.Simple.{bits_value, boolean_value, null_value, integer_value, text_value, numbered_value, visible_value}
use Rattle.guard_values.specs.Places.{Located, located}
use Rattle.guard_values.specs.Arrangement.{arranged}
use Rattle.guard_values.specs.Denotes.{are_few}
use Rattle.guard_values.specs.Forms.{are_too_few_arcs}

abbrev pub Read : Type 0 → Type 0
Read A = Result A ValueFault

abbrev pub answered : {A : Type 0} → ValueFault → Option A → Read A
answered f None = Err f
answered f (Some v) = Ok v

-- ---- without a value inside

abbrev pub read_integer : Site → AbstractKind → WrittenNumber → Read AbstractValue
read_integer site (type.integer ns) n = answered (TooLarge n.site) (integer_value (type.integer ns) n)
read_integer site _ n = Err (WrongNotation site)

abbrev pub string_fault : Site → AbstractKind → StringKind → ValueFault
string_fault site (type.characters k) string.Characters = BadCharacter site
string_fault site _ _ = WrongNotation site

abbrev pub read_text : Site → AbstractKind → StringKind → List ℕ → Read AbstractValue
read_text site kind k spelling = answered (string_fault site kind k) (text_value kind k spelling)

-- one arc
abbrev pub read_arc : WrittenArc → Read ℕ
read_arc a = if is_large (arc_number a) then Err (TooLarge a.site) else Ok (arc_number a)

-- unless an arc is too large
abbrev pub unless_large : Option Site → Read (Unit {0})
unless_large None = Ok tt
unless_large (Some s) = Err (TooLarge s)

abbrev pub limited_arcs : Site → Option Site → List ℕ → Read AbstractValue
limited_arcs site (Some large) arcs = Err (TooLarge large)
limited_arcs site None arcs = if are_arcs arcs then Ok (value.object_identifier arcs) else Err (BadObjectId site)

abbrev pub read_arcs : Site → AbstractKind → List WrittenArc → Read AbstractValue
read_arcs site type.object_identifier arcs = limited_arcs site (too_large_arc arcs) (arc_numbers arcs)
read_arcs site _ arcs = Err (WrongNotation site)

abbrev pub read_visible : Site → AbstractType → Option Governed → Read AbstractValue
read_visible site t None = Err (UnknownName site)
read_visible site t (Some g) = answered (WrongNotation site) (visible_value t (Some g))

abbrev pub read_named : Site → AbstractType → Option ℤ → Option Governed → Read AbstractValue
read_named site t (Some z) visible = answered (TooLarge site) (numbered_value (kind_of t) z)
read_named site t None visible = read_visible site t visible

abbrev pub read_reference : Meaning → AbstractType → Site → List ℕ → Read AbstractValue
read_reference m t site name = read_named site t (own_number (kind_of t) name) (m name)

-- ---- what is kept

-- Of an element of a list, of what a name means, and of named bits: the value; or NULL where what is read counts for its
-- faults alone, and nothing is sorted.
abbrev pub kept : Bool → AbstractValue → AbstractValue
kept true v = v
kept false v = value.null

abbrev pub kept_read : Bool → Read AbstractValue → Read AbstractValue
kept_read true value_read = value_read
kept_read false value_read = value_read >>= λ v. Ok value.null

-- ---- named bits

-- the bit that an entry names
abbrev pub read_bit : List NamedNumber → Site → Option (List ℕ) → Read ℕ
read_bit names site None = Err (WrongNotation site)
read_bit names site (Some name) = answered (UnknownName site) (named_bit names name)

abbrev pub read_place : List NamedNumber → WrittenEntry → Read ℕ
read_place names e = read_bit names e.site (name_alone e.name e.value)

abbrev pub read_places : List NamedNumber → WrittenEntries → Read (List ℕ)
read_places names no_entries = Ok []
read_places names (entry site label tree rest) =
    read_bit names site (name_alone label tree) >>= λ place. read_places names rest >>= λ places. Ok (place ∷ places)

abbrev pub read_named_bits : Site → List NamedNumber → WrittenEntries → Read AbstractValue
read_named_bits site [] es = Err (WrongNotation site)
read_named_bits site (name ∷ names) es = read_places (name ∷ names) es >>= λ places. Ok (bits_value (ones_at places))

-- ---- components

-- where a value goes: each place takes one, and in a SEQUENCE none before the next one
abbrev pub placed : Bool → ℕ → Fields → Site → Option Located → Read Located
placed ordered next fs site None = Err (UnknownName site)
placed ordered next fs site (Some l) =
    if is_filled l.place fs then Err (RepeatedComponent site)
    else (if ordered && nat_lt l.place next then Err (OutOfOrder site) else Ok l)

-- where an entry's value goes
abbrev pub place_at : Bool → Components → ℕ → Fields → Site → Option (List ℕ) → Read Located
place_at ordered cs next fs site None = Err (WrongNotation site)
place_at ordered cs next fs site (Some name) = placed ordered next fs site (located name cs)

-- an entry: its place, and its value
abbrev pub entry_at : Bool → Components → ℕ → Fields → Site → Option (List ℕ) → (AbstractType → Read AbstractValue)
    → Read (ℕ × AbstractValue)
entry_at ordered cs next fs site name value =
    place_at ordered cs next fs site name >>= λ l. value l.ty >>= λ v. Ok (l.place, v)

-- what a component is after the last entry
abbrev pub settled : Site → AbstractPresence → Option AbstractValue → Read (Option AbstractValue)
settled site presence (Some v) = Ok (Some v)
settled site type.optional None = Ok None
settled site (type.default d) None = Ok (Some d)
settled site _ None = Err (MissingComponent site)

unfoldable pub completed : Site → Components → Fields → Read Fields
completed site (component name t presence rest) (value.present v fs) =
    settled site presence (Some v) >>= λ f. completed site rest fs >>= λ gs. Ok (field_before f gs)
completed site (component name t presence rest) (value.absent fs) =
    settled site presence None >>= λ f. completed site rest fs >>= λ gs. Ok (field_before f gs)
completed site _ _ = Ok value.no_fields

-- ---- elements

abbrev pub limited : Site → AbstractType → AbstractValue → Read AbstractValue
limited site t v = if is_short (der t v) then Ok v else Err (TooLarge site)

abbrev pub few : Site → List AbstractValue → Read (List AbstractValue)
few site vs = if are_few vs then Ok vs else Err (TooLarge site)

-- ---- forms with values inside, given how those are read

abbrev pub alternative : Site → AbstractKind → List ℕ → Read Located
alternative site (type.choice cs) name = answered (UnknownName site) (located name cs)
alternative site _ name = Err (WrongNotation site)

abbrev pub read_chosen : Site → AbstractKind → List ℕ → (AbstractType → Read AbstractValue) → Read AbstractValue
read_chosen site kind name read = alternative site kind name >>= λ l. read l.ty >>= λ v. Ok (value.chosen l.place v)

abbrev pub read_fields : Site → Components → Read Fields → Read AbstractValue
read_fields site cs entries = entries >>= λ given. completed site cs given >>= λ fs. Ok (value.fields fs)

-- the elements of a SEQUENCE OF, and of a SET OF
abbrev pub listed : Site → List AbstractValue → Read AbstractValue
listed site vs = few site vs >>= λ ws. Ok (value.items (items_of ws))

abbrev pub listed_set : Site → AbstractType → List AbstractValue → Read AbstractValue
listed_set site t vs = few site vs >>= λ ws. Ok (value.items (items_of (arranged t ws)))

-- sorted: by their encodings, of which each is limited; or as they are written
abbrev pub read_set_of : Bool → Site → AbstractType → (Bool → AbstractType → Read (List AbstractValue))
    → Read AbstractValue
read_set_of true site t elements = elements true t >>= λ vs. listed_set site t vs
read_set_of false site t elements = elements false t >>= λ vs. listed site vs

abbrev pub read_braces : Bool → Site → AbstractKind → WrittenEntries → (Bool → Components → Read Fields)
    → (Bool → AbstractType → Read (List AbstractValue)) → Read AbstractValue
read_braces sorted site (type.sequence cs) es entries elements = read_fields site cs (entries true cs)
read_braces sorted site (type.set cs) es entries elements = read_fields site cs (entries false cs)
read_braces sorted site (type.sequence_of t) es entries elements = elements false t >>= λ vs. listed site vs
read_braces sorted site (type.set_of t) es entries elements = read_set_of sorted site t elements
read_braces sorted site type.object_identifier es entries elements =
    if are_too_few_arcs es then Err (BadObjectId site) else Err (WrongNotation site)
read_braces sorted site (type.bit_string names) es entries elements = kept_read sorted (read_named_bits site names es)
read_braces sorted site type.boolean es entries elements = Err (WrongNotation site)
read_braces sorted site (type.integer ns) es entries elements = Err (WrongNotation site)
read_braces sorted site type.octet_string es entries elements = Err (WrongNotation site)
read_braces sorted site type.null es entries elements = Err (WrongNotation site)
read_braces sorted site (type.enumerated items) es entries elements = Err (WrongNotation site)
read_braces sorted site (type.characters k) es entries elements = Err (WrongNotation site)
read_braces sorted site (type.choice cs) es entries elements = Err (WrongNotation site)

abbrev pub perhaps_limited : Bool → Site → AbstractType → AbstractValue → Read AbstractValue
perhaps_limited true site t v = limited site t v
perhaps_limited false site t v = Ok v

abbrev pub site_of : WrittenValue → Site
site_of (value_node site form) = site

-- an entry of an OF type, given what its value is read as; of a SET OF with its limit
abbrev pub element_at : Bool → AbstractType → Site → Option (List ℕ) → Site → Read AbstractValue → Read AbstractValue
element_at short t site (Some name) place value = Err (WrongNotation site)
element_at short t site None place value = value >>= λ v. perhaps_limited short place t v

-- With each SET OF sorted; or as it is written, for its faults alone.
unfoldable mutual
  pub read : Meaning → Bool → AbstractType → WrittenValue → Read AbstractValue
  read m sorted t (value_node site form) = read_form m sorted t site form

  pub read_form : Meaning → Bool → AbstractType → Site → WrittenValueForm → Read AbstractValue
  read_form m sorted t site (written.boolean b) = answered (WrongNotation site) (boolean_value (kind_of t) b)
  read_form m sorted t site written.null = answered (WrongNotation site) (null_value (kind_of t))
  read_form m sorted t site (written.integer n) = read_integer site (kind_of t) n
  read_form m sorted t site (written.text k spelling) = read_text site (kind_of t) k spelling
  read_form m sorted t site (written.reference name) = kept_read sorted (read_reference m t site name)
  read_form m sorted t site (written.chosen name tree) = read_chosen site (kind_of t) name (λ u. read m sorted u tree)
  read_form m sorted t site (written.list es) =
      read_braces sorted site (kind_of t) es (λ ordered cs. read_entries m sorted ordered cs 0 (all_absent cs) es)
      (λ short u. read_elements m sorted short u es)
  read_form m sorted t site (written.arcs arcs) = read_arcs site (kind_of t) arcs

  -- into the fields for the components, from `next` on where they are ordered
  pub read_entries : Meaning → Bool → Bool → Components → ℕ → Fields → WrittenEntries → Read Fields
  read_entries m sorted ordered cs next fs no_entries = Ok fs
  read_entries m sorted ordered cs next fs (entry site name tree rest) =
      entry_at ordered cs next fs site name (λ u. read m sorted u tree)
      >>= λ x. read_entries m sorted ordered cs (suc x.0) (fill x.0 x.1 fs) rest

  -- in turn; `short` where each has its limit
  pub read_elements : Meaning → Bool → Bool → AbstractType → WrittenEntries → Read (List AbstractValue)
  read_elements m sorted short t no_entries = Ok []
  read_elements m sorted short t (entry site name tree rest) =
      element_at short t site name (site_of tree) (read m sorted t tree) >>= λ v. read_elements m sorted short t rest
      >>= λ more. Ok (kept sorted v ∷ more)

-- ---- as the code reads

-- how many octets are left after one more element
abbrev pub room_without : Site → ℕ → Option ℕ → Read ℕ
room_without site room None = Err (TooLarge site)
room_without site room (Some n) = if nat_le n room then Ok (room - n) else Err (TooLarge site)

abbrev pub room_after : Bool → Site → AbstractType → AbstractValue → ℕ → Read ℕ
room_after true site t v room = room_without site room (short_length (der t v))
room_after false site t v room = Ok room

-- As `read`, but where SET OFs are sorted, a list ends at the first element from which on the encodings of its elements
-- have more than 1,048,576 octets in all.
unfoldable mutual
  pub build : Meaning → Bool → AbstractType → WrittenValue → Read AbstractValue
  build m sorted t (value_node site form) = build_form m sorted t site form

  pub build_form : Meaning → Bool → AbstractType → Site → WrittenValueForm → Read AbstractValue
  build_form m sorted t site (written.boolean b) = answered (WrongNotation site) (boolean_value (kind_of t) b)
  build_form m sorted t site written.null = answered (WrongNotation site) (null_value (kind_of t))
  build_form m sorted t site (written.integer n) = read_integer site (kind_of t) n
  build_form m sorted t site (written.text k spelling) = read_text site (kind_of t) k spelling
  build_form m sorted t site (written.reference name) = kept_read sorted (read_reference m t site name)
  build_form m sorted t site (written.chosen name tree) = read_chosen site (kind_of t) name (λ u. build m sorted u tree)
  build_form m sorted t site (written.list es) =
      read_braces sorted site (kind_of t) es (λ ordered cs. build_entries m sorted ordered cs 0 (all_absent cs) es)
      (λ short u. build_elements m sorted short u longest_encoding es)
  build_form m sorted t site (written.arcs arcs) = read_arcs site (kind_of t) arcs

  pub build_entries : Meaning → Bool → Bool → Components → ℕ → Fields → WrittenEntries → Read Fields
  build_entries m sorted ordered cs next fs no_entries = Ok fs
  build_entries m sorted ordered cs next fs (entry site name tree rest) =
      entry_at ordered cs next fs site name (λ u. build m sorted u tree)
      >>= λ x. build_entries m sorted ordered cs (suc x.0) (fill x.0 x.1 fs) rest

  -- with room for so many octets
  pub build_elements : Meaning → Bool → Bool → AbstractType → ℕ → WrittenEntries → Read (List AbstractValue)
  build_elements m sorted short t room no_entries = Ok []
  build_elements m sorted short t room (entry site name tree rest) =
      element_at short t site name (site_of tree) (build m sorted t tree)
      >>= λ v. room_after sorted (site_of tree) t v room
      >>= λ left. build_elements m sorted short t left rest >>= λ more. Ok (kept sorted v ∷ more)

-- ---- what single calls read

abbrev pub build_items : Meaning → Bool → Site → AbstractType → WrittenEntries → Read AbstractValue
build_items m sorted site t es = build_elements m sorted false t longest_encoding es >>= λ vs. listed site vs

abbrev pub build_set_items : Meaning → Bool → Site → AbstractType → WrittenEntries → Read AbstractValue
build_set_items m sorted site t es =
    read_set_of sorted site t (λ short u. build_elements m sorted short u longest_encoding es)

abbrev pub build_list : Meaning → Bool → Site → AbstractKind → WrittenEntries → Read AbstractValue
build_list m sorted site kind es =
    read_braces sorted site kind es (λ ordered cs. build_entries m sorted ordered cs 0 (all_absent cs) es)
    (λ short u. build_elements m sorted short u longest_encoding es)

-- ---- a whole written value

-- the first fault of what is written, encodings aside; without one the encoding is too long
abbrev pub read_first_fault : Meaning → AbstractType → WrittenValue → Read AbstractValue
read_first_fault m t tree = read m false t tree >>= λ v. Err (TooLarge (site_of tree))

abbrev pub sorted_or : Read AbstractValue → Read AbstractValue → Read AbstractValue
sorted_or (Ok v) other = Ok v
sorted_or (Err f) other = other

abbrev pub read_sorted : Meaning → AbstractType → WrittenValue → Read AbstractValue
read_sorted m t tree = sorted_or (read m true t tree) (read_first_fault m t tree)

abbrev pub read_whole : Meaning → AbstractType → WrittenValue → Read AbstractValue
read_whole m t tree = read_sorted m t tree >>= λ v. limited (site_of tree) t v

-- as the code reads it
abbrev pub build_first_fault : Meaning → AbstractType → WrittenValue → Read AbstractValue
build_first_fault m t tree = build m false t tree >>= λ v. Err (TooLarge (site_of tree))

abbrev pub build_sorted : Meaning → AbstractType → WrittenValue → Read AbstractValue
build_sorted m t tree = sorted_or (build m true t tree) (build_first_fault m t tree)

abbrev pub build_whole : Meaning → AbstractType → WrittenValue → Read AbstractValue
build_whole m t tree = build_sorted m t tree >>= λ v. limited (site_of tree) t v
