-- What kinds have inside, and which elements of constraints apply to them (X.680 clause 51).
use Rattle.std.specs.Prelude.{ℕ, Bool, true, false, [], ◌∷◌, Option, Some, None, option_map}
use Rattle.guard_model.specs.declared.tag.Class.TheVariants.{Universal}
use Rattle.guard_model.specs.AbstractType as type
use Rattle.guard_model.specs.AbstractType.{AbstractType, AbstractKind, type_of}
use Rattle.guard_model.specs.Components.{components_in, component_at}

abbrev pub kind_of : AbstractType → AbstractKind
kind_of (type_of _ kind _) = kind

abbrev pub is_choice : AbstractKind → Bool
is_choice (type.choice alternatives) = true
is_choice _ = false

-- ---- types inside

-- the type of the elements of an OF type, which WITH COMPONENT constrains (51.8.4); None of another kind
abbrev pub element_of : AbstractKind → Option AbstractType
element_of (type.sequence_of t) = Some t
element_of (type.set_of t) = Some t
element_of _ = None

-- the type of the component or alternative at this place, from 0; None where there is none
abbrev pub part_of : ℕ → AbstractKind → Option AbstractType
part_of i kind = option_map (λ c. c.ty) (component_at i (components_in kind))

-- ---- elements of constraints

-- A range is one of integers (51.4).
abbrev pub is_integer : AbstractKind → Bool
is_integer (type.integer names) = true
is_integer _ = false

-- Strings have a permitted alphabet (51.7).
abbrev pub is_string : AbstractKind → Bool
is_string (type.characters kind) = true
is_string _ = false

-- Bits, octets, characters and elements can be counted (51.5).
abbrev pub has_size : AbstractKind → Bool
has_size type.boolean = false
has_size (type.integer names) = false
has_size (type.bit_string names) = true
has_size type.octet_string = true
has_size type.null = false
has_size type.object_identifier = false
has_size (type.enumerated items) = false
has_size (type.characters kind) = true
has_size (type.sequence cs) = false
has_size (type.set cs) = false
has_size (type.choice alternatives) = false
has_size (type.sequence_of t) = true
has_size (type.set_of t) = true

-- a BIT STRING with named bits: trailing zero bits don't count in its values (22.7), so this profile has no SIZE of it
abbrev pub has_named_bits : AbstractKind → Bool
has_named_bits type.boolean = false
has_named_bits (type.integer names) = false
has_named_bits (type.bit_string []) = false
has_named_bits (type.bit_string (name ∷ names)) = true
has_named_bits type.octet_string = false
has_named_bits type.null = false
has_named_bits type.object_identifier = false
has_named_bits (type.enumerated items) = false
has_named_bits (type.characters kind) = false
has_named_bits (type.sequence cs) = false
has_named_bits (type.set cs) = false
has_named_bits (type.choice alternatives) = false
has_named_bits (type.sequence_of t) = false
has_named_bits (type.set_of t) = false

-- What SIZE constrains is a number, of the type INTEGER (51.5.3).
abbrev pub type_of_size : AbstractType
type_of_size = type_of (record { class = Universal; number = 2 } ∷ []) (type.integer []) type.no_constraints

-- WITH COMPONENTS lists components or alternatives (51.8.5).
abbrev pub has_parts : AbstractKind → Bool
has_parts (type.sequence cs) = true
has_parts (type.set cs) = true
has_parts (type.choice alternatives) = true
has_parts _ = false
