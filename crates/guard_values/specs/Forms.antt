-- Which forms of the notation the kinds of types have (X.680 clauses 18 to 41).
use Rattle.std.specs.Prelude.{ℕ, suc, Bool, true, false, not, List, [], ◌∷◌, nat_le, Option, None, is_some}
use Rattle.std.specs.Option.{is_none}
use Rattle.guard_model.specs.AbstractType as type
use Rattle.guard_model.specs.AbstractType.{AbstractKind}
use Rattle.guard_syntax.specs.declared.tree.StringKind.TheVariants as string
use Rattle.guard_syntax.specs.Trees as written
use Rattle.guard_syntax.specs.Trees.{WrittenValue, WrittenValueForm, WrittenEntries, value_node, no_entries, entry}
use Rattle.guard_values.specs.NamedBits.{name_alone}

-- ---- values

-- nothing, or one number without a minus sign: what an object identifier with too few arcs looks like
abbrev pub are_too_few_arcs : WrittenEntries → Bool
are_too_few_arcs no_entries = true
are_too_few_arcs (entry site None (value_node number (written.integer n)) no_entries) = not n.minus
are_too_few_arcs _ = false

-- strings of digits for BIT STRING and OCTET STRING (clauses 22 and 23), those in double quotes for character strings
-- (clause 41)
abbrev pub takes_string : AbstractKind → Bool → Bool
takes_string (type.bit_string names) in_digits = in_digits
takes_string type.octet_string in_digits = in_digits
takes_string (type.characters k) in_digits = not in_digits
takes_string _ in_digits = false

-- Braces for components, elements and named bits; those of an object identifier have too few arcs to be one.
abbrev pub takes_braces : AbstractKind → WrittenEntries → Bool
takes_braces type.boolean es = false
takes_braces (type.integer ns) es = false
takes_braces (type.bit_string []) es = false
takes_braces (type.bit_string (name ∷ names)) es = true
takes_braces type.octet_string es = false
takes_braces type.null es = false
takes_braces type.object_identifier es = are_too_few_arcs es
takes_braces (type.enumerated items) es = false
takes_braces (type.characters k) es = false
takes_braces (type.sequence cs) es = true
takes_braces (type.set cs) es = true
takes_braces (type.choice cs) es = false
takes_braces (type.sequence_of t) es = true
takes_braces (type.set_of t) es = true

-- The forms of notation that a kind has, references aside.
abbrev pub takes : AbstractKind → WrittenValueForm → Bool
takes kind (written.reference name) = true
takes type.boolean (written.boolean b) = true
takes type.null written.null = true
takes (type.integer ns) (written.integer n) = true
takes (type.choice cs) (written.chosen name tree) = true
takes type.object_identifier (written.arcs arcs) = true
takes kind (written.text string.Characters spelling) = takes_string kind false
takes kind (written.text string.Bits spelling) = takes_string kind true
takes kind (written.text string.Hexadecimal spelling) = takes_string kind true
takes kind (written.list es) = takes_braces kind es
takes _ _ = false

-- ---- entries of a list in braces

-- An entry for a component has a name before its value (clauses 25 and 27), an element of an OF type has none (clauses
-- 26 and 28), and an entry for a bit is a name alone (22.5). Other kinds take no list of entries.
abbrev pub takes_entry : AbstractKind → Option (List ℕ) → WrittenValue → Bool
takes_entry (type.sequence cs) label tree = is_some label
takes_entry (type.set cs) label tree = is_some label
takes_entry (type.sequence_of t) label tree = is_none label
takes_entry (type.set_of t) label tree = is_none label
takes_entry (type.bit_string []) label tree = true
takes_entry (type.bit_string (name ∷ names)) label tree = is_some (name_alone label tree)
takes_entry type.boolean label tree = true
takes_entry (type.integer ns) label tree = true
takes_entry type.octet_string label tree = true
takes_entry type.null label tree = true
takes_entry type.object_identifier label tree = true
takes_entry (type.enumerated items) label tree = true
takes_entry (type.characters k) label tree = true
takes_entry (type.choice cs) label tree = true

abbrev pub entry_count : WrittenEntries → ℕ
entry_count no_entries = 0
entry_count (entry site name tree rest) = suc (entry_count rest)

-- this profile's limit on the elements of an OF type
abbrev pub are_few_entries : WrittenEntries → Bool
are_few_entries es = nat_le (entry_count es) 4294967295
