-- Why names mean nothing. Each fault is looked for in module and text order, and named at the first place where it is.
use Rattle.std.specs.Prelude.{◌≡◌, ◌⊎◌, ℕ, Bool, true, false, not, ◌&&◌, List, [], ◌∷◌, ◌++◌, length, Option, Some, None, option_map, is_some, slice_get, nat_lt, if◌then◌else◌}
use Rattle.std.specs.Option.{option_or}
use Rattle.guard_model.specs.declared.site.Site.{Site}
use Rattle.guard_syntax.specs.declared.tree.SymbolKind.{SymbolKind}
use Rattle.guard_syntax.specs.declared.tree.SymbolKind.TheVariants as symbol
use Rattle.guard_syntax.specs.Trees.{WrittenSymbol, WrittenImport, WrittenAssignment, WrittenModule}
use Rattle.guard_names.specs.declared.fault.NameFault.{NameFault}
use Rattle.guard_names.specs.declared.fault.NameFault.TheVariants.{Duplicate, Undefined, NoModule, NotExported, ImportNotDefined, Recursive, TooManyModules, OutOfMemory}
use Rattle.guard_names.specs.Mentions.{Mention, mentions}
use Rattle.guard_names.specs.Declarations.{Definition, definitions, Origin, of_module, imported_from, assigned_by, Declaration, declarations, Origins, Numbers, origin_there, assigned_number, exported_number, definition_of, written_imports, listed_exports}
use Rattle.guard_names.specs.Meanings.{Uses}
use Rattle.guard_names.specs.Order.{IsRecursive, IsFirstRecursive}

-- the site of the first of them that is so
abbrev pub first_where : {A : Type 0} → (A → Bool) → (A → Site) → List A → Option Site
first_where test site [] = None
first_where test site (a ∷ rest) = if test a then Some (site a) else first_where test site rest

-- the first site that is found in one of them
abbrev pub first_found : {A : Type 0} → (A → Option Site) → List A → Option Site
first_found found [] = None
first_found found (a ∷ rest) = option_or (found a) (first_found found rest)

-- N7: more than 64 modules
abbrev pub most_modules : ℕ
most_modules = 64

abbrev pub too_many : List WrittenModule → Bool
too_many ms = nat_lt most_modules (length ms)

-- N1: a name that is declared once more in the same module, or as the name of a module, where these are declared before
abbrev pub duplicate_after : List Declaration → List Declaration → Option Site
duplicate_after before [] = None
duplicate_after before (d ∷ ds) =
    if is_some (origin_there before d.scope d.name) then Some d.site else duplicate_after (before ++ d ∷ []) ds

abbrev pub duplicate : List WrittenModule → Option Site
duplicate ms = duplicate_after [] (declarations ms)

-- N3: a module after FROM that isn't there
abbrev pub is_missing : Origins → WrittenImport → Bool
is_missing origins i = not (is_some (origins None i.module_name))

abbrev pub no_module_in : Origins → WrittenModule → Option Site
no_module_in origins m = first_where (is_missing origins) (λ i. i.module_site) (written_imports m.imports)

abbrev pub no_module : List WrittenModule → Option Site
no_module ms = first_found (no_module_in (origin_there (declarations ms))) ms

-- N5: a name that is imported from a module that doesn't assign it
abbrev pub is_undefined_import : Origins → List ℕ → Origin → Bool
is_undefined_import origins name of_module = false
is_undefined_import origins name (imported_from home) = not (is_some (assigned_number (origins (Some home) name)))
is_undefined_import origins name (assigned_by number exports) = false

abbrev pub not_defined_among : Origins → List Declaration → Option Site
not_defined_among origins ds = first_where (λ d. is_undefined_import origins d.name d.origin) (λ d. d.site) ds

abbrev pub not_defined : List WrittenModule → Option Site
not_defined ms = not_defined_among (origin_there (declarations ms)) (declarations ms)

-- N4: a name that is imported from a module that doesn't export it
abbrev pub is_closed_import : Origins → List ℕ → Origin → Bool
is_closed_import origins name of_module = false
is_closed_import origins name (imported_from home) = not (is_some (exported_number (origins (Some home) name)))
is_closed_import origins name (assigned_by number exports) = false

abbrev pub not_exported_among : Origins → List Declaration → Option Site
not_exported_among origins ds = first_where (λ d. is_closed_import origins d.name d.origin) (λ d. d.site) ds

abbrev pub not_exported : List WrittenModule → Option Site
not_exported ms = not_exported_among (origin_there (declarations ms)) (declarations ms)

-- N2: a name that is exported and not assigned, or the name of a type that is neither assigned nor imported
abbrev pub is_type : SymbolKind → Bool
is_type symbol.Type = true
is_type symbol.Value = false

abbrev pub is_undefined_export : Origins → List ℕ → WrittenSymbol → Bool
is_undefined_export origins home s = not (is_some (assigned_number (origins (Some home) s.name)))

abbrev pub undefined_export_in : Origins → WrittenModule → Option Site
undefined_export_in origins m =
    first_where (is_undefined_export origins m.name) (λ s. s.site) (listed_exports m.exports)

abbrev pub is_undefined_mention : Numbers → List ℕ → Mention → Bool
is_undefined_mention numbers home x = is_type x.kind && not (is_some (numbers home x.name))

abbrev pub undefined_mention_in : Numbers → List ℕ → WrittenAssignment → Option Site
undefined_mention_in numbers home a = first_where (is_undefined_mention numbers home) (λ x. x.site) (mentions a)

abbrev pub undefined_in : Origins → Numbers → WrittenModule → Option Site
undefined_in origins numbers m =
    option_or (undefined_export_in origins m) (first_found (undefined_mention_in numbers m.name) m.assignments)

abbrev pub undefined : List WrittenModule → Option Site
undefined ms =
    let origins = origin_there (declarations ms) in
    first_found (undefined_in origins (definition_of origins)) ms

-- the first of these faults, in this order
abbrev pub fault_of_names : List WrittenModule → Option NameFault
fault_of_names ms =
    option_or (if too_many ms then Some TooManyModules else None)
    (option_or (option_map Duplicate (duplicate ms))
    (option_or (option_map NoModule (no_module ms))
    (option_or (option_map ImportNotDefined (not_defined ms))
    (option_or (option_map NotExported (not_exported ms))
    (option_map Undefined (undefined ms))))))

-- N6: the first definition that uses itself, directly or through others, is that of the name there
abbrev pub IsRecursiveAt : List WrittenModule → Site → Type 0
IsRecursiveAt ms site =
    (number : ℕ) × IsFirstRecursive (Uses ms) number
    × (d : Definition) × (slice_get (definitions ms) number ≡ Some d) × (site ≡ d.assignment.site)

-- The names in these modules have no fault.
pub record AreFaultless (ms : List WrittenModule) : Type 0 where
  pub named : fault_of_names ms ≡ None
  pub acyclic : (number : ℕ) → ¬ IsRecursive (Uses ms) number

-- This is the first fault of the names in these modules.
abbrev pub IsFirstFault : List WrittenModule → NameFault → Type 0
IsFirstFault ms f =
    (fault_of_names ms ≡ Some f)
    ⊎ ((fault_of_names ms ≡ None) × (site : Site) × (f ≡ Recursive site) × IsRecursiveAt ms site)

-- a refusal names a fault, unless memory ran out
abbrev pub named : NameFault → Option NameFault
named OutOfMemory = None
named f = Some f
