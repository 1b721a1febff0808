-- What a value's text takes from the type: names that are read as names, each of one part of its list.
use Rattle.std.specs.Prelude.{◌≡◌, ℕ, Bool, true, not, ◌&&◌, List, [], ◌∷◌, None, IsTrue, is_some}
use Rattle.std.specs.List.{list_all}
use Rattle.guard_model.specs.AbstractType as type
use Rattle.guard_model.specs.AbstractType.{AbstractType, AbstractKind, Components, NamedNumber, type_of, no_components}
use Rattle.guard_model.specs.AbstractType.{component}
use Rattle.guard_model.specs.AbstractValue as value
use Rattle.guard_model.specs.AbstractValue.{AbstractValue, Fields, Items}
use Rattle.guard_lexer.specs.Spans.{IsSpelled}
use Rattle.guard_lexer.specs.declared.token.TokenKind.TheVariants.{LowerName}
use Rattle.guard_model.specs.NamedLists.{number_named}
use Rattle.guard_values.specs.NamedBits.{place_of_bit}
use Rattle.guard_values.specs.Places.{located}
use Rattle.guard_report.specs.CharacterStrings.{is_hidden}

-- An identifier (X.680 12.3): a word that begins with a small letter and isn't reserved.
abbrev pub IsIdentifier : List ℕ → Type 0
IsIdentifier name = IsSpelled LowerName name

-- items, or named bits: each with an identifier that no further one has
abbrev pub HaveNames : List NamedNumber → Type 0
HaveNames [] = Unit {0}
HaveNames (n ∷ ns) = IsIdentifier n.name × (number_named n.name ns ≡ None) × HaveNames ns

-- each the number of a bit that may be named (X.680 22.4)
abbrev pub AreBits : List NamedNumber → Type 0
AreBits [] = Unit {0}
AreBits (n ∷ ns) = IsTrue (is_some (place_of_bit n.number)) × AreBits ns

abbrev mutual
  -- So it is with each list of names in the type.
  pub HasNames : AbstractType → Type 0
  HasNames (type_of tags kind cons) = KindHasNames kind

  pub KindHasNames : AbstractKind → Type 0
  KindHasNames (type.bit_string bits) = HaveNames bits × AreBits bits
  KindHasNames (type.enumerated items) = HaveNames items
  KindHasNames (type.sequence cs) = PartsHaveNames cs
  KindHasNames (type.set cs) = PartsHaveNames cs
  KindHasNames (type.choice cs) = PartsHaveNames cs
  KindHasNames (type.sequence_of t) = HasNames t
  KindHasNames (type.set_of t) = HasNames t
  KindHasNames type.boolean = Unit {0}
  KindHasNames (type.integer ns) = Unit {0}
  KindHasNames type.octet_string = Unit {0}
  KindHasNames type.null = Unit {0}
  KindHasNames type.object_identifier = Unit {0}
  KindHasNames (type.characters k) = Unit {0}

  -- components or alternatives
  pub PartsHaveNames : Components → Type 0
  PartsHaveNames no_components = Unit {0}
  PartsHaveNames (component name t presence rest) =
      IsIdentifier name × (located name rest ≡ None) × HasNames t × PartsHaveNames rest

-- ---- what can be seen

abbrev pub are_seen : List ℕ → Bool
are_seen characters = list_all (λ code. not (is_hidden code)) characters

abbrev mutual
  -- No character in the value is hidden. One that is would be written by its numbers (X.680 41.8), which isn't read
  -- here.
  pub is_seen : AbstractValue → Bool
  is_seen (value.characters characters) = are_seen characters
  is_seen (value.fields fs) = fields_seen fs
  is_seen (value.items vs) = items_seen vs
  is_seen (value.chosen i v) = is_seen v
  is_seen (value.boolean b) = true
  is_seen (value.integer z) = true
  is_seen (value.enumerated z) = true
  is_seen value.null = true
  is_seen (value.bit_string octets unused) = true
  is_seen (value.octet_string octets) = true
  is_seen (value.object_identifier arcs) = true

  pub fields_seen : Fields → Bool
  fields_seen value.no_fields = true
  fields_seen (value.present v fs) = is_seen v && fields_seen fs
  fields_seen (value.absent fs) = fields_seen fs

  pub items_seen : Items → Bool
  items_seen value.no_items = true
  items_seen (value.item v vs) = is_seen v && items_seen vs
