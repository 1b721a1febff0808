-- What a schema keeps of definitions, as the code finds types by their names.
use Rattle.std.specs.Prelude.{ℕ, ◌+◌, ◌&&◌, List, [], ◌∷◌, Option, Some, None, bytes_eq, if◌then◌else◌}
use Rattle.std.specs.Map.{lookup}
use Rattle.guard_names.specs.Declarations.{Definition}

-- the two names of a definition, and the place of its type where it assigns one
pub record Entry : Type 0 where
  pub home : List ℕ
  pub name : List ℕ
  pub place : Option ℕ

-- those of definitions, the first of which has this number
abbrev pub entries_from : (ℕ → Option ℕ) → ℕ → List Definition → List Entry
entries_from place number [] = []
entries_from place number (d ∷ ds) = record {
  home = d.home.name;
  name = d.assignment.name;
  place =
      place number;
} ∷ entries_from place (number + 1) ds

-- the place that the first one with these names has
abbrev pub place_named : List ℕ → List ℕ → List Entry → Option ℕ
place_named home name [] = None
place_named home name (e ∷ es) = if bytes_eq home e.home && bytes_eq name e.name then e.place else place_named home name
    es

-- ---- by two names, one after the other

-- what the name leads to, where keys are names
abbrev pub looked_up : {K X : Type 0} → (K → List ℕ) → List ℕ → List (K × X) → Option X
looked_up items name entries = lookup (λ key. bytes_eq name (items key)) entries

abbrev pub place_if : List ℕ → List ℕ → Option ℕ → Option (Option ℕ)
place_if q name place = if bytes_eq q name then Some place else None

-- what the first one with this name has as its place, whatever its module
abbrev pub first_place : List ℕ → List Entry → Option (Option ℕ)
first_place name [] = None
first_place name (e ∷ es) = if bytes_eq name e.name then Some e.place else first_place name es

-- what the first one with these names has as its place
abbrev pub first_named : List ℕ → List ℕ → List Entry → Option (Option ℕ)
first_named home name [] = None
first_named home name (e ∷ es) = if bytes_eq home e.home && bytes_eq name e.name then Some e.place else first_named home
    name es

-- the place of a type, where what is there has no value
abbrev pub unvalued : {A : Type 0} → ℕ → Option (Option A) → Option ℕ
unvalued place None = None
unvalued place (Some None) = Some place
unvalued place (Some (Some v)) = None
