-- Which value a form of the notation says under a type, where no value is inside it.
use Rattle.std.specs.Prelude.{ℕ, ◌-◌, ◌%◌, ℤ, Bool, ◌&&◌, List, length, Option, Some, None, if◌then◌else◌, chars}
use Rattle.std.specs.Str.{is_utf8}
use Rattle.guard_model.specs.declared.site.Site.{Site}
use Rattle.guard_model.specs.declared.ty.CharKind.{CharKind}
use Rattle.guard_model.specs.AbstractType as type
use Rattle.guard_model.specs.AbstractType.{AbstractType, AbstractKind}
use Rattle.guard_model.specs.AbstractValue as value
use Rattle.guard_model.specs.AbstractValue.{AbstractValue}
use Rattle.guard_model.specs.SameType.{same_base}
use Rattle.guard_model.specs.Alphabets.{fits_characters}
use Rattle.guard_model.specs.Limits.{fits_128_bits}
use Rattle.guard_syntax.specs.declared.tree.StringKind.{StringKind}
use Rattle.guard_syntax.specs.declared.tree.StringKind.TheVariants as string
use Rattle.guard_syntax.specs.Trees.{WrittenNumber, WrittenArc}
use Rattle.guard_syntax.specs.Numbers.{number_of}
use Rattle.guard_values.specs.Strings.{binary_digits, hexadecimal_bits, octets_of_bits, quoted}
use Rattle.guard_values.specs.NamedBits.{bits_kept}
use Rattle.guard_values.specs.ObjectIdentifiers.{arc_numbers, too_large_arc, are_arcs}
use Rattle.guard_values.specs.Meanings.{Governed, Meaning, own_number, value_of_number}
use Rattle.guard_model.specs.Kinds.{kind_of}

-- TRUE and FALSE for BOOLEAN (clause 18)
abbrev pub boolean_value : AbstractKind → Bool → Option AbstractValue
boolean_value type.boolean b = Some (value.boolean b)
boolean_value _ b = None

-- NULL for NULL (clause 24)
abbrev pub null_value : AbstractKind → Option AbstractValue
null_value type.null = Some value.null
null_value _ = None

-- a number for INTEGER (clause 19), within signed 128 bits
abbrev pub integer_value : AbstractKind → WrittenNumber → Option AbstractValue
integer_value (type.integer ns) n = if fits_128_bits (number_of n) then Some (value.integer (number_of n)) else None
integer_value _ n = None

-- ---- strings

-- these bits (clause 22); unused are those that the last octet has besides
abbrev pub bits_value : List ℕ → AbstractValue
bits_value bits = value.bit_string (octets_of_bits bits) ((8 - length bits % 8) % 8)

-- what is quoted, where all its characters are of the alphabet (clause 41)
abbrev pub characters_value : CharKind → List ℕ → Option AbstractValue
characters_value k octets =
    if is_utf8 octets && fits_characters k (chars octets) then Some (value.characters (chars octets)) else None

-- strings of digits for BIT STRING (clause 22) and OCTET STRING (clause 23), those in double quotes for character
-- strings
abbrev pub text_value : AbstractKind → StringKind → List ℕ → Option AbstractValue
text_value (type.bit_string names) string.Bits spelling = Some (bits_value (bits_kept names (binary_digits spelling)))
text_value (type.bit_string names) string.Hexadecimal spelling =
    Some (bits_value (bits_kept names (hexadecimal_bits spelling)))
text_value type.octet_string string.Bits spelling = Some (value.octet_string (octets_of_bits (binary_digits spelling)))
text_value type.octet_string string.Hexadecimal spelling =
    Some (value.octet_string (octets_of_bits (hexadecimal_bits spelling)))
text_value (type.characters k) string.Characters spelling = characters_value k (quoted spelling)
text_value _ _ spelling = None

-- ---- object identifiers

abbrev pub within_limits : Option Site → List ℕ → Option AbstractValue
within_limits (Some large) arcs = None
within_limits None arcs = if are_arcs arcs then Some (value.object_identifier arcs) else None

-- two or more arcs for OBJECT IDENTIFIER (clause 32), each within the limits
abbrev pub arcs_value : AbstractKind → List WrittenArc → Option AbstractValue
arcs_value type.object_identifier arcs = within_limits (too_large_arc arcs) (arc_numbers arcs)
arcs_value _ arcs = None

-- ---- names

abbrev pub numbered_value : AbstractKind → ℤ → Option AbstractValue
numbered_value kind z = if fits_128_bits z then Some (value_of_number kind z) else None

-- a visible value whose type has the same base
abbrev pub visible_value : AbstractType → Option Governed → Option AbstractValue
visible_value t None = None
visible_value t (Some g) = if same_base t g.ty then Some g.value else None

-- The name of a number or item of the type's own list comes before a visible name (clauses 19 and 20), whose value is
-- assigned (16.2).
abbrev pub named_value : Option ℤ → AbstractType → Option Governed → Option AbstractValue
named_value (Some z) t visible = numbered_value (kind_of t) z
named_value None t visible = visible_value t visible

abbrev pub reference_value : Meaning → AbstractType → List ℕ → Option AbstractValue
reference_value meaning t name = named_value (own_number (kind_of t) name) t (meaning name)
