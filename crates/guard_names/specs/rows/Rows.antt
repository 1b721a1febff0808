-- Worked examples of the definitions, each computed by the checker.
use Rattle.std.specs.Prelude.{◌≡◌, ℕ, ◌+◌, false, true, List, [], ◌∷◌, map, Option, Some, None, refl, replicate}
use Rattle.guard_model.specs.declared.site.Site.{Site}
use Rattle.guard_syntax.specs.declared.tree.SymbolKind.TheVariants as symbol
use Rattle.guard_syntax.specs.declared.tree.PlainType.TheVariants as plain_type
use Rattle.guard_syntax.specs.declared.tree.Collection.TheVariants as collection
use Rattle.guard_syntax.specs.Trees.{WrittenArc, WrittenValue, value_node, WrittenValueForm, reference, chosen, list, arcs, no_entries, entry, end_reference, WrittenEnd, WrittenRange, set_node, union, none_united, intersection, none_met, element_alone, WrittenElementForm, element_node, contained, range, WrittenConstraint, constraint, with_components, part_in, no_parts, default, WrittenType, type_node, plain, structure, choice, named_type, no_components, component, no_alternatives, alternative, WrittenSymbol, WrittenExports, exported, WrittenImport, WrittenAssignment, WrittenModule}
use Rattle.guard_names.specs.declared.fault.NameFault.TheVariants.{Duplicate, Undefined, NoModule, NotExported, ImportNotDefined, TooManyModules}
use Rattle.guard_names.specs.Mentions.{mentions}
use Rattle.guard_names.specs.Declarations.{imported_from, assigned_by, declarations, origin_there}
use Rattle.guard_names.specs.Meanings.{number_meant}
use Rattle.guard_names.specs.Places.{known_meant}
use Rattle.guard_names.specs.Faults.{fault_of_names}

-- names and places
abbrev A : List ℕ
A = 65 ∷ []

abbrev B : List ℕ
B = 66 ∷ []

abbrev C : List ℕ
C = 67 ∷ []

abbrev T : List ℕ
T = 84 ∷ []

abbrev a : List ℕ
a = 97 ∷ []

abbrev b : List ℕ
b = 98 ∷ []

abbrev at : ℕ → Site
at n = record { text = 1; line = 1; column = n }

-- the pieces of small modules
abbrev null_type : WrittenType
null_type = type_node (at 0) [] (plain plain_type.Null) []

abbrev name_of_type : ℕ → List ℕ → WrittenType
name_of_type n name = type_node (at n) [] (named_type (at n) name) []

abbrev assigned : ℕ → List ℕ → WrittenType → WrittenAssignment
assigned n name ty = record { site = at n; name = name; ty = ty; value = None }

abbrev symbol_at : ℕ → List ℕ → WrittenSymbol
symbol_at n name = record { site = at n; kind = symbol.Type; name = name }

abbrev import_at : ℕ → List ℕ → ℕ → List ℕ → WrittenImport
import_at n name m from = record {
  site = at n;
  symbols = symbol_at n name ∷ [];
  module_site = at m;
  module_name = from;
  identifier = [];
}

abbrev module_of : ℕ → List ℕ → Option WrittenExports → List WrittenImport → List WrittenAssignment → WrittenModule
module_of n name exports imports assignments = record {
  site = at n;
  name = name;
  identifier = [];
  tag_default = None;
  exports = exports;
  imports = Some imports;
  assignments = assignments;
}

abbrev defines_T : ℕ → List ℕ → WrittenModule
defines_T n name = module_of n name None [] (assigned (n + 1) T null_type ∷ [])

-- under EXPORTS;
abbrev exports_nothing : ℕ → List ℕ → WrittenModule
exports_nothing n name = module_of n name (Some (exported [])) [] (assigned (n + 1) T null_type ∷ [])

-- the module imports T from the module of this name
abbrev imports_T : ℕ → List ℕ → List ℕ → WrittenModule
imports_T n name from = module_of n name None (import_at (n + 1) T (n + 2) from ∷ []) []

-- ---- what an assignment mentions

abbrev value_at : ℕ → List ℕ → WrittenValue
value_at n name = value_node (at n) (reference name)

abbrev in_parentheses : WrittenElementForm → WrittenConstraint
in_parentheses form =
    let element = element_alone (at 0) (element_node (at 0) form) in
    constraint (at 0) (set_node (at 0) (union (intersection (at 0) element none_met) none_united))

-- NAME ::= T (FORM)
abbrev constrained_T : List ℕ → WrittenElementForm → WrittenAssignment
constrained_T name form = assigned 1 name (type_node (at 2) [] (named_type (at 2) T) (in_parentheses form ∷ []))

-- NAME NULL ::= FORM
abbrev null_value : List ℕ → WrittenValueForm → WrittenAssignment
null_value name form =
    record { site = at 1; name = name; ty = null_type; value = Some (value_node (at 2) form) }

-- of one digit
abbrev arc_at : ℕ → Option (List ℕ) → ℕ → WrittenArc
arc_at n name digit = record { site = at n; name = name; number = digit ∷ [] }

abbrev end_at : ℕ → List ℕ → WrittenEnd
end_at n name = record { site = at n; form = end_reference name }

-- LOW..HIGH
abbrev from_to : WrittenEnd → WrittenEnd → WrittenRange
from_to low high = record { low = Some low; above_low = false; below_high = false; high = Some high }

-- the columns of what it mentions
abbrev columns : WrittenAssignment → List ℕ
columns written = map (λ m. m.site.column) (mentions written)

-- A ::= T (a..b): a type, and the values at both ends
ends_of_a_range : columns (constrained_T A (range (from_to (end_at 3 a) (end_at 4 b)))) ≡ 2 ∷ 3 ∷ 4 ∷ []
ends_of_a_range = refl

-- A ::= SEQUENCE {a NULL DEFAULT b}: the value, and not the name of the component
default_of_a_component :
    let components = component (at 3) a null_type (default (value_at 4 b)) no_components in
    mentions (assigned 1 A (type_node (at 2) [] (structure collection.Sequence components) []))
    ≡ record { site = at 4; kind = symbol.Value; name = b } ∷ []
default_of_a_component = refl

-- A ::= CHOICE {a T}: the type, and not the name of the alternative
type_of_an_alternative :
    let alternatives = alternative (at 3) a (name_of_type 4 T) no_alternatives in
    mentions (assigned 1 A (type_node (at 2) [] (choice alternatives) []))
    ≡ record { site = at 4; kind = symbol.Type; name = T } ∷ []
type_of_an_alternative = refl

-- a NULL ::= {a b, b}: of the first entry the value alone
entries_of_a_list :
    let entries = entry (at 3) (Some a) (value_at 4 b) (entry (at 5) None (value_at 6 b) no_entries) in
    columns (null_value a (list entries)) ≡ 4 ∷ 6 ∷ []
entries_of_a_list = refl

-- a NULL ::= a : b
value_of_an_alternative : columns (null_value a (chosen a (value_at 3 b))) ≡ 3 ∷ []
value_of_an_alternative = refl

-- a NULL ::= {a (1) 2}: an object identifier mentions nothing
arcs_mention_nothing : mentions (null_value a (arcs (arc_at 3 (Some a) 49 ∷ arc_at 4 None 50 ∷ []))) ≡ []
arcs_mention_nothing = refl

-- A ::= T (WITH COMPONENTS {a (B)}): the contained type, and not the name of the component
part_of_a_constraint :
    let parts = part_in (at 3) a (in_parentheses (contained false (at 4) B)) None no_parts in
    map (λ m. m.name) (mentions (constrained_T A (with_components false parts))) ≡ T ∷ B ∷ []
part_of_a_constraint = refl

-- ---- what a name means: A and B define T, and C imports that of A

abbrev three : List WrittenModule
three =
    defines_T 1 A ∷ defines_T 3 B
    ∷ module_of 5 C None (import_at 6 T 7 A ∷ []) (assigned 8 A (name_of_type 9 T) ∷ []) ∷ []

three_have_no_fault : fault_of_names three ≡ None
three_have_no_fault = refl

T_of_A : origin_there (declarations three) (Some A) T ≡ Some (assigned_by 0 true)
T_of_A = refl

T_of_B : origin_there (declarations three) (Some B) T ≡ Some (assigned_by 1 true)
T_of_B = refl

T_in_C : origin_there (declarations three) (Some C) T ≡ Some (imported_from A)
T_in_C = refl

T_meant_in_B : number_meant three B T ≡ Some 1
T_meant_in_B = refl

T_meant_in_C : number_meant three C T ≡ Some 0
T_meant_in_C = refl

-- B is no name in C
B_meant_in_C : number_meant three C B ≡ None
B_meant_in_C = refl

-- A exports nothing
not_exported_T : number_meant (exports_nothing 1 A ∷ imports_T 3 C A ∷ []) C T ≡ None
not_exported_T = refl

-- of the order 2, 0, 1 two are known, and T of C is the second of them
known_in_C : known_meant {A = ℕ} three (2 ∷ 0 ∷ 1 ∷ []) (10 ∷ 11 ∷ []) C T ≡ Some 11
known_in_C = refl

-- T of B isn't known yet
known_in_B : known_meant {A = ℕ} three (2 ∷ 0 ∷ 1 ∷ []) (10 ∷ 11 ∷ []) B T ≡ None
known_in_B = refl

-- ---- faults

import_from_no_module : fault_of_names (imports_T 1 C A ∷ []) ≡ Some (NoModule (at 3))
import_from_no_module = refl

import_of_nothing :
    fault_of_names (module_of 1 A None [] [] ∷ imports_T 2 C A ∷ []) ≡ Some (ImportNotDefined (at 3))
import_of_nothing = refl

-- A passes on what it imports from B
import_passed_on :
    fault_of_names (defines_T 1 B ∷ imports_T 3 A B ∷ imports_T 6 C A ∷ []) ≡ Some (ImportNotDefined (at 7))
import_passed_on = refl

import_of_what_is_not_exported :
    fault_of_names (exports_nothing 1 A ∷ imports_T 3 C A ∷ []) ≡ Some (NotExported (at 4))
import_of_what_is_not_exported = refl

imported_and_assigned :
    let imports_and_assigns = module_of 3 C None (import_at 4 T 5 A ∷ []) (assigned 6 T null_type ∷ []) in
    fault_of_names (defines_T 1 A ∷ imports_and_assigns ∷ []) ≡ Some (Duplicate (at 6))
imported_and_assigned = refl

imported_twice :
    let imports_twice = module_of 3 C None (import_at 4 T 5 A ∷ import_at 6 T 7 A ∷ []) [] in
    fault_of_names (defines_T 1 A ∷ imports_twice ∷ []) ≡ Some (Duplicate (at 6))
imported_twice = refl

assigned_twice :
    let assignments = assigned 2 T null_type ∷ assigned 3 B null_type ∷ assigned 4 T null_type ∷ [] in
    fault_of_names (module_of 1 A None [] assignments ∷ []) ≡ Some (Duplicate (at 4))
assigned_twice = refl

two_modules_of_one_name : fault_of_names (defines_T 1 A ∷ defines_T 3 A ∷ []) ≡ Some (Duplicate (at 3))
two_modules_of_one_name = refl

unknown_type :
    fault_of_names (module_of 1 A None [] (assigned 2 T (name_of_type 3 B) ∷ []) ∷ []) ≡ Some (Undefined (at 3))
unknown_type = refl

exported_and_not_assigned :
    let exports = exported (symbol_at 2 T ∷ []) in
    fault_of_names (module_of 1 A (Some exports) [] (assigned 3 B (name_of_type 4 C) ∷ []) ∷ [])
    ≡ Some (Undefined (at 2))
exported_and_not_assigned = refl

exported_and_only_imported :
    let exports = exported (symbol_at 4 T ∷ []) in
    fault_of_names (defines_T 1 A ∷ module_of 3 C (Some exports) (import_at 5 T 6 A ∷ []) [] ∷ [])
    ≡ Some (Undefined (at 4))
exported_and_only_imported = refl

sixty_five_modules : fault_of_names (replicate 65 (defines_T 1 A)) ≡ Some TooManyModules
sixty_five_modules = refl

sixty_four_modules : fault_of_names (replicate 64 (defines_T 1 A)) ≡ Some (Duplicate (at 1))
sixty_four_modules = refl
