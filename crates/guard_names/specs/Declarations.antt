-- The names that modules declare (X.680 13.1): their own, those that they import, and those to which they assign a type
-- or a value.
use Rattle.std.specs.Prelude.{ℕ, ◌+◌, Bool, true, ◌&&◌, List, [], ◌∷◌, ◌++◌, map, length, Option, Some, None, option_map, bytes_eq, find, if◌then◌else◌}
use Rattle.std.specs.List.{flat_map, list_any}
use Rattle.std.specs.Option.{option_eq}
use Rattle.guard_model.specs.declared.site.Site.{Site}
use Rattle.guard_syntax.specs.Trees.{WrittenSymbol, WrittenExports, all_exported, exported, WrittenImport, WrittenAssignment, WrittenModule}

-- an assignment, and its module
pub record Definition : Type 0 where
  pub home : WrittenModule
  pub assignment : WrittenAssignment

abbrev pub defined_in : WrittenModule → List Definition
defined_in m = map (λ a. record { home = m; assignment = a }) m.assignments

-- All definitions, in module and text order. The number of a definition is its place here, from 0.
abbrev pub definitions : List WrittenModule → List Definition
definitions ms = flat_map defined_in ms

-- where a name comes from
pub data Origin : Type 0 where
  -- the name is that of a module
  of_module : Origin
  -- the name is imported from the module of this name
  imported_from : List ℕ → Origin
  -- the name is assigned, in the definition of this number; and whether its module exports it
  assigned_by : ℕ → Bool → Origin

-- a name that is declared: for a module, or else in the module of a name
pub record Declaration : Type 0 where
  pub scope : Option (List ℕ)
  pub name : List ℕ
  pub site : Site
  pub origin : Origin

-- whether a module exports a name: all of them where it says nothing or ALL, else those that it lists
abbrev pub lists_name : Option WrittenExports → List ℕ → Bool
lists_name None name = true
lists_name (Some all_exported) name = true
lists_name (Some (exported symbols)) name = list_any (λ s. bytes_eq name s.name) symbols

-- the names that a module lists as exported
abbrev pub listed_exports : Option WrittenExports → List WrittenSymbol
listed_exports None = []
listed_exports (Some all_exported) = []
listed_exports (Some (exported symbols)) = symbols

-- the imports of a module, one for each module that is named after FROM
abbrev pub written_imports : Option (List WrittenImport) → List WrittenImport
written_imports None = []
written_imports (Some imports) = imports

abbrev pub module_declaration : WrittenModule → Declaration
module_declaration m = record { scope = None; name = m.name; site = m.site; origin = of_module }

-- the declarations of names that are imported from one module
abbrev pub symbol_declarations : List ℕ → List ℕ → List WrittenSymbol → List Declaration
symbol_declarations home from symbols =
    map (λ s. record { scope = Some home; name = s.name; site = s.site; origin = imported_from from }) symbols

abbrev pub import_declarations : List ℕ → WrittenImport → List Declaration
import_declarations home i = symbol_declarations home i.module_name i.symbols

-- the declarations of a module's assignments, where the first one makes the definition of this number
abbrev pub assigned_declarations : WrittenModule → ℕ → List WrittenAssignment → List Declaration
assigned_declarations m number [] = []
assigned_declarations m number (a ∷ rest) =
    record {
      scope = Some m.name;
      name = a.name;
      site = a.site;
      origin = assigned_by number (lists_name m.exports a.name);
    } ∷ assigned_declarations m (number + 1) rest

-- the declarations of a module, in the order of its text
abbrev pub module_declarations : ℕ → WrittenModule → List Declaration
module_declarations number m =
    module_declaration m ∷ (flat_map (import_declarations m.name) (written_imports m.imports)
    ++ assigned_declarations m number m.assignments)

abbrev pub declarations_from : ℕ → List WrittenModule → List Declaration
declarations_from number [] = []
declarations_from number (m ∷ ms) = module_declarations number m ++ declarations_from (number + length m.assignments) ms

-- all declarations, in module and text order
abbrev pub declarations : List WrittenModule → List Declaration
declarations ms = declarations_from 0 ms

-- ---- look-ups

-- the declaration is of this name in the module of that name, or, without one, of a module's name
abbrev pub declares : Option (List ℕ) → List ℕ → Declaration → Bool
declares scope name d = option_eq bytes_eq scope d.scope && bytes_eq name d.name

-- where a name comes from: the name of a module, in no module, or a name that is declared in the module of a name
abbrev pub Origins : Type 0
Origins = Option (List ℕ) → List ℕ → Option Origin

-- where names come from, by these declarations
abbrev pub origin_there : List Declaration → Origins
origin_there ds scope name = option_map (λ d. d.origin) (find (declares scope name) ds)

-- the definition in which a name of this origin is assigned, if it is assigned at all
abbrev pub assigned_number : Option Origin → Option ℕ
assigned_number None = None
assigned_number (Some of_module) = None
assigned_number (Some (imported_from home)) = None
assigned_number (Some (assigned_by number exports)) = Some number

-- the definition in which a name of this origin is assigned, if its module exports it
abbrev pub exported_number : Option Origin → Option ℕ
exported_number None = None
exported_number (Some of_module) = None
exported_number (Some (imported_from home)) = None
exported_number (Some (assigned_by number exports)) = if exports then Some number else None

-- the definition in which a name of this origin is assigned: in its own module, or in the one from which it is imported
-- and that exports it
abbrev pub number_of_origin : Origins → List ℕ → Option Origin → Option ℕ
number_of_origin origins name None = None
number_of_origin origins name (Some of_module) = None
number_of_origin origins name (Some (imported_from home)) = exported_number (origins (Some home) name)
number_of_origin origins name (Some (assigned_by number exports)) = Some number

-- which definition each name is the name of, in the module of a name
abbrev pub Numbers : Type 0
Numbers = List ℕ → List ℕ → Option ℕ

abbrev pub definition_of : Origins → Numbers
definition_of origins home name = number_of_origin origins name (origins (Some home) name)
