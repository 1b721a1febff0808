-- What a name means in a module (X.680 13.1), and which definitions a definition uses.
use Rattle.std.specs.Prelude.{◌≡◌, ◌⊎◌, ℕ, Bool, true, List, Contains, Option, Some, option_and_then, slice_get}
use Rattle.guard_model.specs.declared.site.Site.{Site}
use Rattle.guard_syntax.specs.Trees.{WrittenModule}
use Rattle.guard_names.specs.Mentions.{Mention, mentions}
use Rattle.guard_names.specs.Declarations.{Definition, definitions, Origin, imported_from, assigned_by, declarations, Numbers, origin_there, definition_of}

-- in the module of this name the name is declared so
abbrev pub IsDeclared : List WrittenModule → List ℕ → List ℕ → Origin → Type 0
IsDeclared ms home name origin =
    (site : Site)
    × Contains (declarations ms) (record { scope = Some home; name = name; site = site; origin = origin })

-- the name is assigned there, in the definition of this number
abbrev pub IsAssigned : List WrittenModule → List ℕ → List ℕ → ℕ → Type 0
IsAssigned ms home name number = (exports : Bool) × IsDeclared ms home name (assigned_by number exports)

-- the name is imported there, from a module that assigns it, in the definition of this number, and exports it
abbrev pub IsImported : List WrittenModule → List ℕ → List ℕ → ℕ → Type 0
IsImported ms home name number =
    (from : List ℕ) × IsDeclared ms home name (imported_from from) × IsDeclared ms from name (assigned_by number true)

-- In the module of this name the name means the definition of this number.
abbrev pub Means : List WrittenModule → List ℕ → List ℕ → ℕ → Type 0
Means ms home name number = IsAssigned ms home name number ⊎ IsImported ms home name number

-- The number of the definition that a name means in the module of a name, by a look-up. Where no name is declared twice
-- that is the number that `Means` leads to, as a law says.
abbrev pub number_meant : List WrittenModule → Numbers
number_meant ms = definition_of (origin_there (declarations ms))

-- What a name means in the module at a place, from 0; nothing where there is none.
abbrev pub number_meant_in : List WrittenModule → Option ℕ → List ℕ → Option ℕ
number_meant_in ms place name =
    option_and_then (λ m. number_meant ms m.name name) (option_and_then (slice_get ms) place)

-- What a name means that is written in the definition of a number.
abbrev pub number_meant_from : List WrittenModule → ℕ → List ℕ → Option ℕ
number_meant_from ms number name = option_and_then (λ d. number_meant ms d.home.name name) (slice_get (definitions ms) number)

-- The definition of the first number uses that of the second one: it mentions a name that means it in its module.
abbrev pub Uses : List WrittenModule → ℕ → ℕ → Type 0
Uses ms number used =
    (d : Definition) × (slice_get (definitions ms) number ≡ Some d)
    × (m : Mention) × Contains (mentions d.assignment) m × Means ms d.home.name m.name used
