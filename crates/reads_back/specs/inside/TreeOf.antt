-- The tree that a value's text has under the type. Its nodes are at no site.
use Rattle.std.specs.Prelude.{ℕ, zero, suc, ℤ, pos, negsuc, true, false, List, [], ◌∷◌, map, decimal, if◌then◌else◌}
use Rattle.std.specs.Prelude.{Option, Some, None}
use Rattle.guard_model.specs.declared.site.Site.{Site}
use Rattle.guard_model.specs.declared.site.Step.TheVariants.{Component}
use Rattle.guard_model.specs.AbstractType.{AbstractType, NamedNumber}
use Rattle.guard_model.specs.AbstractValue as value
use Rattle.guard_model.specs.AbstractValue.{AbstractValue, Fields, Items}
use Rattle.guard_syntax.specs.declared.tree.StringKind.TheVariants.{Characters, Bits, Hexadecimal}
use Rattle.guard_syntax.specs.Trees.{WrittenNumber, WrittenArc, WrittenValue, value_node, WrittenValueForm, boolean}
use Rattle.guard_syntax.specs.Trees.{null, integer, text, reference, chosen, list, arcs, WrittenEntries, no_entries}
use Rattle.guard_syntax.specs.Trees.{entry}
use Rattle.guard_report.specs.Text.{element_type, type_within}
use Rattle.guard_report.specs.Strings.{hexadecimal, binary, bits_of, name_of, are_named, names_of_ones}
use Rattle.guard_report.specs.CharacterStrings.{in_quotes}
use Rattle.guard_report.specs.ValueText.{items_known, bits_known, part_name, item_text}

abbrev pub no_site : Site
no_site = record { text = 0; line = 0; column = 0 }

abbrev pub node : WrittenValueForm → WrittenValue
node form = value_node no_site form

abbrev pub number_written : ℤ → WrittenNumber
number_written (pos n) = record { site = no_site; minus = false; digits = decimal n }
number_written (negsuc n) = record { site = no_site; minus = true; digits = decimal (suc n) }

abbrev pub arc_written : ℕ → WrittenArc
arc_written arc = record { site = no_site; name = None; number = decimal arc }

abbrev pub names_written : List (List ℕ) → WrittenEntries
names_written [] = no_entries
names_written (name ∷ names) = entry no_site None (node (reference name)) (names_written names)

abbrev pub digits_tree : List ℕ → ℕ → WrittenValue
digits_tree octets zero = node (text Hexadecimal (hexadecimal octets))
digits_tree octets (suc unused) = node (text Bits (binary (bits_of octets (suc unused))))

abbrev pub bits_tree : List NamedNumber → List ℕ → ℕ → WrittenValue
bits_tree [] octets unused = digits_tree octets unused
bits_tree (n ∷ ns) octets unused =
    if are_named (n ∷ ns) 0 (bits_of octets unused)
    then node (list (names_written (names_of_ones (n ∷ ns) 0 (bits_of octets unused))))
    else digits_tree octets unused

abbrev mutual
  pub tree_of : Option AbstractType → AbstractValue → WrittenValue
  tree_of t (value.boolean b) = node (boolean b)
  tree_of t (value.integer z) = node (integer (number_written z))
  tree_of t (value.enumerated z) = node (reference (item_text (name_of (items_known t) z) z))
  tree_of t value.null = node null
  tree_of t (value.bit_string octets unused) = bits_tree (bits_known t) octets unused
  tree_of t (value.octet_string octets) = node (text Hexadecimal (hexadecimal octets))
  tree_of t (value.object_identifier all) = node (arcs (map arc_written all))
  tree_of t (value.characters characters) = node (text Characters (in_quotes characters))
  tree_of t (value.fields fs) = node (list (fields_written t 0 fs))
  tree_of t (value.items vs) = node (list (items_written (element_type t) vs))
  tree_of t (value.chosen i v) = node (chosen (part_name t i) (tree_of (type_within t (Component i)) v))

  -- the first of these stands at place i
  pub fields_written : Option AbstractType → ℕ → Fields → WrittenEntries
  fields_written t i value.no_fields = no_entries
  fields_written t i (value.present v fs) =
      entry no_site (Some (part_name t i)) (tree_of (type_within t (Component i)) v) (fields_written t (suc i) fs)
  fields_written t i (value.absent fs) = fields_written t (suc i) fs

  pub items_written : Option AbstractType → Items → WrittenEntries
  items_written t value.no_items = no_entries
  items_written t (value.item v vs) = entry no_site None (tree_of t v) (items_written t vs)
