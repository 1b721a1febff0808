-- The lexemes of a tree: how it is written. Each definition writes a node before the lexemes that follow it.
use Rattle.std.specs.Prelude.{ℕ, Bool, true, false, List, [], ◌∷◌, Option, Some, None}
use Rattle.guard_lexer.specs.declared.token.Reserved.{Reserved}
use Rattle.guard_lexer.specs.declared.token.Reserved.TheVariants.{Absent, All, Application, Automatic, Begin, Bit, Boolean, Choice, Component, Components, Default, Definitions, End, Enumerated, Except, Explicit, Exports, False, From, Ia5String, Identifier, Implicit, Imports, Includes, Integer, Intersection, Max, Min, Null, NumericString, Object, Octet, Of, Optional, Present, PrintableString, Private, Sequence, Set, Size, String, Tags, True, Union, Universal, Utf8String, VisibleString, With}
use Rattle.guard_lexer.specs.declared.token.Mark.TheVariants.{Assignment, Bar, Caret, Colon, Comma, Ellipsis, LeftBrace, LeftBracket, LeftParenthesis, LessThan, Minus, RangeSeparator, RightBrace, RightBracket, RightParenthesis, Semicolon}
use Rattle.guard_syntax.specs.declared.tree.TagDefault.{TagDefault}
use Rattle.guard_syntax.specs.declared.tree.TagDefault.TheVariants as tag_default
use Rattle.guard_syntax.specs.declared.tree.TagClass.{TagClass}
use Rattle.guard_syntax.specs.declared.tree.TagClass.TheVariants as class
use Rattle.guard_syntax.specs.declared.tree.TagMode.{TagMode}
use Rattle.guard_syntax.specs.declared.tree.TagMode.TheVariants as mode
use Rattle.guard_syntax.specs.declared.tree.PlainType.{PlainType}
use Rattle.guard_syntax.specs.declared.tree.PlainType.TheVariants as plain_type
use Rattle.guard_syntax.specs.declared.tree.Collection.{Collection}
use Rattle.guard_syntax.specs.declared.tree.Collection.TheVariants as collection
use Rattle.guard_syntax.specs.declared.tree.JoinMark.{JoinMark}
use Rattle.guard_syntax.specs.declared.tree.JoinMark.TheVariants as join
use Rattle.guard_syntax.specs.declared.tree.PresenceWord.{PresenceWord}
use Rattle.guard_syntax.specs.declared.tree.PresenceWord.TheVariants as presence
use Rattle.guard_syntax.specs.declared.tree.StringKind.{StringKind}
use Rattle.guard_syntax.specs.declared.tree.StringKind.TheVariants as string
use Rattle.guard_syntax.specs.declared.tree.SymbolKind.{SymbolKind}
use Rattle.guard_syntax.specs.declared.tree.SymbolKind.TheVariants as symbol
use Rattle.guard_syntax.specs.Lexemes.{Lexeme, word, mark, upper_name, lower_name, number, character_string, bit_string, hexadecimal_string}
use Rattle.guard_syntax.specs.Trees.{WrittenNumber, WrittenArc, WrittenValue, value_node, WrittenValueForm, boolean, null, integer, text, reference, chosen, list, arcs, WrittenEntries, no_entries, entry, WrittenEndForm, end_integer, end_reference, end_characters, WrittenEnd, WrittenRange, WrittenSet, set_node, WrittenSetForm, all_except, union, WrittenUnited, none_united, united, WrittenIntersection, intersection, WrittenMet, none_met, met, WrittenDifference, element_alone, element_except, WrittenElement, element_node, WrittenElementForm, parentheses, value, contained, range, size, from, with_component, with_components, WrittenConstraint, constraint, WrittenParts, no_parts, part, part_in, WrittenTag, WrittenNamed, WrittenItem, WrittenOfConstraint, WrittenPresence, mandatory, optional, default, WrittenType, type_node, WrittenBase, plain, numbers, named_bits, enumerated, structure, choice, of_type, named_type, WrittenComponents, no_components, component, components_from, WrittenAlternatives, no_alternatives, alternative, WrittenIdentifierPart, bare_name, arc_part, WrittenSymbol, WrittenExports, all_exported, exported, WrittenImport, WrittenAssignment, WrittenModule}

-- ---- lists

-- one after the other
abbrev pub each_then : {A : Type 0} → (A → List Lexeme → List Lexeme) → List A → List Lexeme → List Lexeme
each_then one_then [] rest = rest
each_then one_then (a ∷ others) rest = one_then a (each_then one_then others rest)

-- a comma before further ones
abbrev pub comma_before : {A : Type 0} → List A → List Lexeme → List Lexeme
comma_before [] rest = rest
comma_before (a ∷ others) rest = mark Comma ∷ rest

-- one after the other, separated by commas
abbrev pub parted_then : {A : Type 0} → (A → List Lexeme → List Lexeme) → List A → List Lexeme → List Lexeme
parted_then one_then [] rest = rest
parted_then one_then (a ∷ others) rest = one_then a (comma_before others (parted_then one_then others rest))

-- what may be missing
abbrev pub perhaps_then : {A : Type 0} → (A → List Lexeme → List Lexeme) → Option A → List Lexeme → List Lexeme
perhaps_then one_then None rest = rest
perhaps_then one_then (Some a) rest = one_then a rest

-- a lexeme that is there or not
abbrev pub if_there_then : Bool → Lexeme → List Lexeme → List Lexeme
if_there_then true l rest = l ∷ rest
if_there_then false l rest = rest

-- ---- numbers and arcs

-- Int = number | "-" number
abbrev pub number_then : WrittenNumber → List Lexeme → List Lexeme
number_then n rest = if_there_then n.minus (mark Minus) (number n.digits ∷ rest)

-- Arc = number | lower "(" number ")"
abbrev pub arc_form_then : Option (List ℕ) → List ℕ → List Lexeme → List Lexeme
arc_form_then None digits rest = number digits ∷ rest
arc_form_then (Some name) digits rest =
    lower_name name ∷ mark LeftParenthesis ∷ number digits ∷ mark RightParenthesis ∷ rest

abbrev pub arc_then : WrittenArc → List Lexeme → List Lexeme
arc_then a rest = arc_form_then a.name a.number rest

-- ---- values

abbrev pub truth_word : Bool → Reserved
truth_word true = True
truth_word false = False

abbrev pub string_lexeme : StringKind → List ℕ → Lexeme
string_lexeme string.Characters spelling = character_string spelling
string_lexeme string.Bits spelling = bit_string spelling
string_lexeme string.Hexadecimal spelling = hexadecimal_string spelling

abbrev pub entry_name_then : Option (List ℕ) → List Lexeme → List Lexeme
entry_name_then None rest = rest
entry_name_then (Some name) rest = lower_name name ∷ rest

abbrev pub entries_comma : WrittenEntries → List Lexeme → List Lexeme
entries_comma no_entries rest = rest
entries_comma (entry site name v others) rest = mark Comma ∷ rest

abbrev mutual
  pub value_then : WrittenValue → List Lexeme → List Lexeme
  value_then (value_node site form) rest = value_form_then form rest

  -- Value = TRUE | FALSE | NULL | Int | string | lower | lower ":" Value | "{" [Entry,+] "}" | "{" Arcs "}"
  pub value_form_then : WrittenValueForm → List Lexeme → List Lexeme
  value_form_then (boolean b) rest = word (truth_word b) ∷ rest
  value_form_then null rest = word Null ∷ rest
  value_form_then (integer n) rest = number_then n rest
  value_form_then (text kind spelling) rest = string_lexeme kind spelling ∷ rest
  value_form_then (reference name) rest = lower_name name ∷ rest
  value_form_then (chosen name v) rest = lower_name name ∷ mark Colon ∷ value_then v rest
  value_form_then (list es) rest = mark LeftBrace ∷ entries_then es (mark RightBrace ∷ rest)
  value_form_then (arcs all) rest = mark LeftBrace ∷ each_then arc_then all (mark RightBrace ∷ rest)

  -- Entry = Value | lower Value, separated by commas
  pub entries_then : WrittenEntries → List Lexeme → List Lexeme
  entries_then no_entries rest = rest
  entries_then (entry site name v others) rest =
      entry_name_then name (value_then v (entries_comma others (entries_then others rest)))

-- ---- sets of values

-- End = Int | lower | a string in double quotes
abbrev pub end_form_then : WrittenEndForm → List Lexeme → List Lexeme
end_form_then (end_integer n) rest = number_then n rest
end_form_then (end_reference name) rest = lower_name name ∷ rest
end_form_then (end_characters spelling) rest = character_string spelling ∷ rest

-- an end, or this word
abbrev pub end_or_then : Reserved → Option WrittenEnd → List Lexeme → List Lexeme
end_or_then w None rest = word w ∷ rest
end_or_then w (Some e) rest = end_form_then e.form rest

-- Range = (MIN|End) ["<"] ".." ["<"] (MAX|End)
abbrev pub range_then : WrittenRange → List Lexeme → List Lexeme
range_then r rest =
    end_or_then Min r.low
    (if_there_then r.above_low (mark LessThan)
    (mark RangeSeparator ∷ if_there_then r.below_high (mark LessThan) (end_or_then Max r.high rest)))

abbrev pub union_mark : JoinMark → Lexeme
union_mark join.Sign = mark Bar
union_mark join.Word = word Union

abbrev pub intersection_mark : JoinMark → Lexeme
intersection_mark join.Sign = mark Caret
intersection_mark join.Word = word Intersection

abbrev pub presence_word : PresenceWord → Reserved
presence_word presence.Present = Present
presence_word presence.Absent = Absent
presence_word presence.Optional = Optional

abbrev pub presence_word_then : PresenceWord → List Lexeme → List Lexeme
presence_word_then p rest = word (presence_word p) ∷ rest

-- "..." and a comma, where there are both
abbrev pub partial_then : Bool → List Lexeme → List Lexeme
partial_then true rest = mark Ellipsis ∷ mark Comma ∷ rest
partial_then false rest = rest

abbrev pub parts_comma : WrittenParts → List Lexeme → List Lexeme
parts_comma no_parts rest = rest
parts_comma (part site name presence others) rest = mark Comma ∷ rest
parts_comma (part_in site name c presence others) rest = mark Comma ∷ rest

abbrev mutual
  pub set_then : WrittenSet → List Lexeme → List Lexeme
  set_then (set_node site form) rest = set_form_then form rest

  -- Set = ALL EXCEPT Elem | Inter {("|"|UNION) Inter}
  pub set_form_then : WrittenSetForm → List Lexeme → List Lexeme
  set_form_then (all_except e) rest = word All ∷ word Except ∷ element_then e rest
  set_form_then (union first others) rest = intersection_then first (united_then others rest)

  pub united_then : WrittenUnited → List Lexeme → List Lexeme
  united_then none_united rest = rest
  united_then (united m i others) rest = union_mark m ∷ intersection_then i (united_then others rest)

  -- Inter = Diff {("^"|INTERSECTION) Diff}
  pub intersection_then : WrittenIntersection → List Lexeme → List Lexeme
  intersection_then (intersection site first others) rest = difference_then first (met_then others rest)

  pub met_then : WrittenMet → List Lexeme → List Lexeme
  met_then none_met rest = rest
  met_then (met m d others) rest = intersection_mark m ∷ difference_then d (met_then others rest)

  -- Diff = Elem [EXCEPT Elem]
  pub difference_then : WrittenDifference → List Lexeme → List Lexeme
  difference_then (element_alone site e) rest = element_then e rest
  difference_then (element_except site e f) rest = element_then e (word Except ∷ element_then f rest)

  pub element_then : WrittenElement → List Lexeme → List Lexeme
  element_then (element_node site form) rest = element_form_then form rest

  -- Elem = "(" Set ")" | Value | [INCLUDES] upper | Range | SIZE Cons | FROM Cons | WITH COMPONENT Cons
  --      | WITH COMPONENTS "{" ["..." ","] Part,+ "}"
  pub element_form_then : WrittenElementForm → List Lexeme → List Lexeme
  element_form_then (parentheses s) rest = mark LeftParenthesis ∷ set_then s (mark RightParenthesis ∷ rest)
  element_form_then (value v) rest = value_then v rest
  element_form_then (contained includes site name) rest =
      if_there_then includes (word Includes) (upper_name name ∷ rest)
  element_form_then (range r) rest = range_then r rest
  element_form_then (size c) rest = word Size ∷ constraint_then c rest
  element_form_then (from c) rest = word From ∷ constraint_then c rest
  element_form_then (with_component c) rest = word With ∷ word Component ∷ constraint_then c rest
  element_form_then (with_components partial ps) rest =
      word With ∷ word Components ∷ mark LeftBrace ∷ partial_then partial (parts_then ps (mark RightBrace ∷ rest))

  -- Cons = "(" Set ")"
  pub constraint_then : WrittenConstraint → List Lexeme → List Lexeme
  constraint_then (constraint site s) rest = mark LeftParenthesis ∷ set_then s (mark RightParenthesis ∷ rest)

  -- Part = lower [Cons] [PRESENT|ABSENT|OPTIONAL], separated by commas
  pub parts_then : WrittenParts → List Lexeme → List Lexeme
  parts_then no_parts rest = rest
  parts_then (part site name presence others) rest =
      lower_name name ∷ perhaps_then presence_word_then presence (parts_comma others (parts_then others rest))
  parts_then (part_in site name c presence others) rest =
      lower_name name ∷
      constraint_then c (perhaps_then presence_word_then presence (parts_comma others (parts_then others rest)))

-- ---- types

abbrev pub class_word : TagClass → Reserved
class_word class.Universal = Universal
class_word class.Application = Application
class_word class.Private = Private

abbrev pub class_then : TagClass → List Lexeme → List Lexeme
class_then c rest = word (class_word c) ∷ rest

abbrev pub mode_word : TagMode → Reserved
mode_word mode.Implicit = Implicit
mode_word mode.Explicit = Explicit

abbrev pub mode_then : TagMode → List Lexeme → List Lexeme
mode_then m rest = word (mode_word m) ∷ rest

-- Tag = "[" [UNIVERSAL|APPLICATION|PRIVATE] number "]" [IMPLICIT|EXPLICIT]
abbrev pub tag_then : WrittenTag → List Lexeme → List Lexeme
tag_then t rest =
    mark LeftBracket ∷
    perhaps_then class_then t.class (number t.number ∷ mark RightBracket ∷ perhaps_then mode_then t.mode rest)

-- a number in parentheses
abbrev pub parenthesised_then : WrittenNumber → List Lexeme → List Lexeme
parenthesised_then n rest = mark LeftParenthesis ∷ number_then n (mark RightParenthesis ∷ rest)

-- Num = lower "(" Int ")", Bit = lower "(" number ")"
abbrev pub named_then : WrittenNamed → List Lexeme → List Lexeme
named_then n rest = lower_name n.name ∷ parenthesised_then n.number rest

-- Item = lower | Num
abbrev pub item_then : WrittenItem → List Lexeme → List Lexeme
item_then i rest = lower_name i.name ∷ perhaps_then parenthesised_then i.number rest

-- ["{" Num,+ "}"], ["{" Bit,+ "}"]
abbrev pub numbers_then : List WrittenNamed → List Lexeme → List Lexeme
numbers_then [] rest = rest
numbers_then (n ∷ ns) rest = mark LeftBrace ∷ parted_then named_then (n ∷ ns) (mark RightBrace ∷ rest)

-- the types that are written with words alone
abbrev pub plain_then : PlainType → List Lexeme → List Lexeme
plain_then plain_type.Boolean rest = word Boolean ∷ rest
plain_then plain_type.OctetString rest = word Octet ∷ word String ∷ rest
plain_then plain_type.Null rest = word Null ∷ rest
plain_then plain_type.ObjectIdentifier rest = word Object ∷ word Identifier ∷ rest
plain_then plain_type.Utf8String rest = word Utf8String ∷ rest
plain_then plain_type.NumericString rest = word NumericString ∷ rest
plain_then plain_type.PrintableString rest = word PrintableString ∷ rest
plain_then plain_type.Ia5String rest = word Ia5String ∷ rest
plain_then plain_type.VisibleString rest = word VisibleString ∷ rest

abbrev pub collection_word : Collection → Reserved
collection_word collection.Sequence = Sequence
collection_word collection.Set = Set

-- Cons | SIZE Cons
abbrev pub of_constraint_then : WrittenOfConstraint → List Lexeme → List Lexeme
of_constraint_then c rest = if_there_then c.size (word Size) (constraint_then c.constraint rest)

-- [OPTIONAL | DEFAULT Value]
abbrev pub presence_then : WrittenPresence → List Lexeme → List Lexeme
presence_then mandatory rest = rest
presence_then optional rest = word Optional ∷ rest
presence_then (default v) rest = word Default ∷ value_then v rest

abbrev pub components_comma : WrittenComponents → List Lexeme → List Lexeme
components_comma no_components rest = rest
components_comma (component site name ty presence others) rest = mark Comma ∷ rest
components_comma (components_from site ty others) rest = mark Comma ∷ rest

abbrev pub alternatives_comma : WrittenAlternatives → List Lexeme → List Lexeme
alternatives_comma no_alternatives rest = rest
alternatives_comma (alternative site name ty others) rest = mark Comma ∷ rest

abbrev mutual
  -- Type = {Tag} Base {Cons}
  pub type_then : WrittenType → List Lexeme → List Lexeme
  type_then (type_node site tags base constraints) rest =
      each_then tag_then tags (base_then base (each_then constraint_then constraints rest))

  -- Base = INTEGER ["{" Num,+ "}"] | BIT STRING ["{" Bit,+ "}"] | ENUMERATED "{" Item,+ "}"
  --      | (SEQUENCE|SET) "{" [Comp,+] "}" | CHOICE "{" Alt,+ "}" | (SEQUENCE|SET) [Cons | SIZE Cons] OF Type
  --      | upper | words
  pub base_then : WrittenBase → List Lexeme → List Lexeme
  base_then (plain p) rest = plain_then p rest
  base_then (numbers ns) rest = word Integer ∷ numbers_then ns rest
  base_then (named_bits bs) rest = word Bit ∷ word String ∷ numbers_then bs rest
  base_then (enumerated is) rest = word Enumerated ∷ mark LeftBrace ∷ parted_then item_then is (mark RightBrace ∷ rest)
  base_then (structure k cs) rest =
      word (collection_word k) ∷ mark LeftBrace ∷ components_then cs (mark RightBrace ∷ rest)
  base_then (choice alternatives) rest =
      word Choice ∷ mark LeftBrace ∷ alternatives_then alternatives (mark RightBrace ∷ rest)
  base_then (of_type k c ty) rest =
      word (collection_word k) ∷ perhaps_then of_constraint_then c (word Of ∷ type_then ty rest)
  base_then (named_type site name) rest = upper_name name ∷ rest

  -- Comp = lower Type [OPTIONAL | DEFAULT Value] | COMPONENTS OF Type, separated by commas
  pub components_then : WrittenComponents → List Lexeme → List Lexeme
  components_then no_components rest = rest
  components_then (component site name ty presence others) rest =
      lower_name name ∷ type_then ty (presence_then presence (components_comma others (components_then others rest)))
  components_then (components_from site ty others) rest =
      word Components ∷ word Of ∷ type_then ty (components_comma others (components_then others rest))

  -- Alt = lower Type, separated by commas
  pub alternatives_then : WrittenAlternatives → List Lexeme → List Lexeme
  alternatives_then no_alternatives rest = rest
  alternatives_then (alternative site name ty others) rest =
      lower_name name ∷ type_then ty (alternatives_comma others (alternatives_then others rest))

-- ---- modules

-- Part = lower | number | lower "(" number ")"
abbrev pub identifier_part_then : WrittenIdentifierPart → List Lexeme → List Lexeme
identifier_part_then (bare_name name) rest = lower_name name ∷ rest
identifier_part_then (arc_part a) rest = arc_then a rest

-- [Oid], with Oid = "{" Part {Part} "}"
abbrev pub identifier_then : List WrittenIdentifierPart → List Lexeme → List Lexeme
identifier_then [] rest = rest
identifier_then (p ∷ ps) rest = mark LeftBrace ∷ each_then identifier_part_then (p ∷ ps) (mark RightBrace ∷ rest)

abbrev pub tag_default_word : TagDefault → Reserved
tag_default_word tag_default.Explicit = Explicit
tag_default_word tag_default.Implicit = Implicit
tag_default_word tag_default.Automatic = Automatic

-- (EXPLICIT|IMPLICIT|AUTOMATIC) TAGS
abbrev pub tag_default_then : TagDefault → List Lexeme → List Lexeme
tag_default_then d rest = word (tag_default_word d) ∷ word Tags ∷ rest

-- Name = upper | lower
abbrev pub symbol_lexeme : SymbolKind → List ℕ → Lexeme
symbol_lexeme symbol.Type name = upper_name name
symbol_lexeme symbol.Value name = lower_name name

abbrev pub symbol_then : WrittenSymbol → List Lexeme → List Lexeme
symbol_then s rest = symbol_lexeme s.kind s.name ∷ rest

-- Exports = EXPORTS [ALL | Name,+] ";"
abbrev pub exports_then : WrittenExports → List Lexeme → List Lexeme
exports_then all_exported rest = word Exports ∷ word All ∷ mark Semicolon ∷ rest
exports_then (exported symbols) rest = word Exports ∷ parted_then symbol_then symbols (mark Semicolon ∷ rest)

-- Name,+ FROM upper [Oid]
abbrev pub import_then : WrittenImport → List Lexeme → List Lexeme
import_then i rest =
    parted_then symbol_then i.symbols (word From ∷ upper_name i.module_name ∷ identifier_then i.identifier rest)

-- Imports = IMPORTS {Name,+ FROM upper [Oid]} ";"
abbrev pub imports_then : List WrittenImport → List Lexeme → List Lexeme
imports_then all rest = word Imports ∷ each_then import_then all (mark Semicolon ∷ rest)

-- upper "::=" Type, or with a value lower Type "::=" Value
abbrev pub assigned_then : List ℕ → WrittenType → Option WrittenValue → List Lexeme → List Lexeme
assigned_then name ty None rest = upper_name name ∷ mark Assignment ∷ type_then ty rest
assigned_then name ty (Some v) rest = lower_name name ∷ type_then ty (mark Assignment ∷ value_then v rest)

-- Assign
abbrev pub assignment_then : WrittenAssignment → List Lexeme → List Lexeme
assignment_then a rest = assigned_then a.name a.ty a.value rest

-- Module = upper [Oid] DEFINITIONS [(EXPLICIT|IMPLICIT|AUTOMATIC) TAGS] "::=" BEGIN [Exports] [Imports] {Assign} END
abbrev pub tokens_of : WrittenModule → List Lexeme
tokens_of m =
    upper_name m.name ∷ identifier_then m.identifier (word Definitions ∷
    perhaps_then tag_default_then m.tag_default (mark Assignment ∷ word Begin ∷
    perhaps_then exports_then m.exports (perhaps_then imports_then m.imports
    (each_then assignment_then m.assignments (word End ∷ [])))))
