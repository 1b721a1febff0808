-- The number of a definition, and the definition in its place.
use Rattle.std.proofs.Common.{◌≡◌, inl, inr, ℕ, zero, suc, true, ◌+◌, List, [], ◌∷◌, ◌++◌, map, length, Option, Some, All, slice_get, refl, sym, subst, arith}
use Rattle.std.specs.List.{flat_map}
use Rattle.std.proofs.lemmas.List.{length-map}
use Rattle.std.proofs.lemmas.List.Elements.{All-nil, All-cons, All-append, All-weaker, All-contains}
use Rattle.std.proofs.lemmas.Option.{same_Some}
use Rattle.guard_syntax.specs.Trees.{WrittenSymbol, WrittenImport, WrittenAssignment, WrittenModule}
use Rattle.guard_names.specs.Declarations.{Definition, definitions, defined_in, Origin, of_module, imported_from, assigned_by, Declaration, declarations, declarations_from, module_declaration, lists_name, symbol_declarations, import_declarations, assigned_declarations, written_imports}
use Rattle.guard_names.specs.Meanings.{IsAssigned, Means}

-- an assignment that is declared is in the place of its number, where these definitions begin at the first number
IsPlaced : List Definition → ℕ → Option (List ℕ) → List ℕ → Origin → Type 0
IsPlaced defs first scope name of_module = Unit {0}
IsPlaced defs first scope name (imported_from from) = Unit {0}
IsPlaced defs first scope name (assigned_by number exports) =
    (k : ℕ) × (d : Definition) × (number ≡ first + k) × (slice_get defs k ≡ Some d) × (scope ≡ Some d.home.name) × (d.assignment.name ≡ name)

abbrev IsPlacedIn : List Definition → ℕ → Declaration → Type 0
IsPlacedIn defs first d = IsPlaced defs first d.scope d.name d.origin

symbols_placed : (defs : List Definition) (first : ℕ) (home from : List ℕ) (symbols : List WrittenSymbol) → All (IsPlacedIn defs first) (symbol_declarations home from symbols)
unfolding IsPlaced
symbols_placed defs first home from [] = All-nil (IsPlacedIn defs first)
symbols_placed defs first home from (s ∷ rest) = All-cons (IsPlacedIn defs first) _ _ tt (symbols_placed defs first home from rest)

imports_placed : (defs : List Definition) (first : ℕ) (home : List ℕ) (imports : List WrittenImport) → All (IsPlacedIn defs first) (flat_map (import_declarations home) imports)
imports_placed defs first home [] = All-nil (IsPlacedIn defs first)
imports_placed defs first home (i ∷ rest) = All-append (IsPlacedIn defs first) (import_declarations home i) _ (symbols_placed defs first home i.module_name i.symbols) (imports_placed defs first home rest)

-- one more definition before the others
further : (x : Definition) (defs : List Definition) (first : ℕ) (scope : Option (List ℕ)) (name : List ℕ) (o : Origin) → IsPlaced defs (first + 1) scope name o → IsPlaced (x ∷ defs) first scope name o
unfolding IsPlaced
further x defs first scope name of_module h = tt
further x defs first scope name (imported_from from) h = tt
further x defs first scope name (assigned_by number exports) (k, d, n, at, s, a) = (suc k, d, omega (arith, n), at, s, a)

-- some definitions before others
before : (defs more : List Definition) (first : ℕ) (scope : Option (List ℕ)) (name : List ℕ) (o : Origin) → IsPlaced defs first scope name o → IsPlaced (defs ++ more) first scope name o
unfolding IsPlaced
before defs more first scope name of_module h = tt
before defs more first scope name (imported_from from) h = tt
before defs more first scope name (assigned_by number exports) (k, d, n, at, s, a) = (k, d, n, front defs k at, s, a)
  where
    front : (defs : List Definition) (k : ℕ) → slice_get defs k ≡ Some d → slice_get (defs ++ more) k ≡ Some d
    front [] k h = absurd cc
    front (x ∷ xs) zero h = h
    front (x ∷ xs) (suc k) h = front xs k h

after : (front defs : List Definition) (first : ℕ) (scope : Option (List ℕ)) (name : List ℕ) (o : Origin) → IsPlaced defs (first + length front) scope name o → IsPlaced (front ++ defs) first scope name o
unfolding IsPlaced
after front defs first scope name of_module h = tt
after front defs first scope name (imported_from from) h = tt
after front defs first scope name (assigned_by number exports) (k, d, n, at, s, a) = (length front + k, d, omega (arith, n), later front at, s, a)
  where
    zero_plus : (k : ℕ) → 0 + k ≡ k
    zero_plus k = omega arith

    suc_plus : (a k : ℕ) → suc a + k ≡ suc (a + k)
    suc_plus a k = omega arith

    later : (front : List Definition) → slice_get defs k ≡ Some d → slice_get (front ++ defs) (length front + k) ≡ Some d
    later [] h = rw (zero_plus k) h
    later (x ∷ xs) h = rw (suc_plus (length xs) k) (later xs h)

assigned_placed : (m : WrittenModule) (first : ℕ) (rest : List WrittenAssignment) → All (IsPlacedIn (map (λ a. record { home = m; assignment = a }) rest) first) (assigned_declarations m first rest)
unfolding IsPlaced
assigned_placed m first [] = All-nil (IsPlacedIn [] first)
assigned_placed m first (a ∷ rest) =
    All-cons (IsPlacedIn all first) (record { scope = Some m.name; name = a.name; site = a.site; origin = assigned_by first (lists_name m.exports a.name) }) (assigned_declarations m (first + 1) rest) (0, record { home = m; assignment = a }, omega arith, refl, refl, refl)
    (All-weaker (IsPlacedIn others (first + 1)) (IsPlacedIn all first) (λ d h. further (record { home = m; assignment = a }) others first d.scope d.name d.origin h) (assigned_declarations m (first + 1) rest) (assigned_placed m (first + 1) rest))
  where
    others : List Definition
    others = map (λ a. record { home = m; assignment = a }) rest

    all : List Definition
    all = record { home = m; assignment = a } ∷ others

from_placed : (first : ℕ) (ms : List WrittenModule) → All (IsPlacedIn (definitions ms) first) (declarations_from first ms)
unfolding IsPlaced
from_placed first [] = All-nil (IsPlacedIn [] first)
from_placed first (m ∷ ms) =
    All-cons (IsPlacedIn all first) (module_declaration m) ((imports ++ assigned_declarations m first m.assignments) ++ rest) tt
    (All-append (IsPlacedIn all first) (imports ++ assigned_declarations m first m.assignments) rest
    (All-append (IsPlacedIn all first) imports (assigned_declarations m first m.assignments) (imports_placed all first m.name (written_imports m.imports))
    (All-weaker (IsPlacedIn (defined_in m) first) (IsPlacedIn all first) (λ d h. before (defined_in m) (definitions ms) first d.scope d.name d.origin h) (assigned_declarations m first m.assignments) (assigned_placed m first m.assignments)))
    (All-weaker (IsPlacedIn (definitions ms) (first + length m.assignments)) (IsPlacedIn all first) later rest (from_placed (first + length m.assignments) ms)))
  where
    all : List Definition
    all = defined_in m ++ definitions ms

    imports : List Declaration
    imports = flat_map (import_declarations m.name) (written_imports m.imports)

    rest : List Declaration
    rest = declarations_from (first + length m.assignments) ms

    as_many : length (defined_in m) ≡ length m.assignments
    as_many = length-map m.assignments (λ (a : WrittenAssignment). record { home = m; assignment = a })

    later : (d : Declaration) → IsPlacedIn (definitions ms) (first + length m.assignments) d → IsPlacedIn all first d
    later d h = after (defined_in m) (definitions ms) first d.scope d.name d.origin (subst (λ n. IsPlaced (definitions ms) (first + n) d.scope d.name d.origin) (sym as_many) h)

-- what is assigned is the definition in the place of the number
pub assigned_at : (ms : List WrittenModule) (home name : List ℕ) (number : ℕ) → IsAssigned ms home name number
    → (d : Definition) × (slice_get (definitions ms) number ≡ Some d) × (d.home.name ≡ home) × (d.assignment.name ≡ name)
unfolding IsPlaced
assigned_at ms home name number (exports, there) =
    by (All-contains (IsPlacedIn (definitions ms) 0) (declarations ms) (record { scope = Some home; name = name; site = there.0; origin = assigned_by number exports }) (from_placed 0 ms) there.1)
  where
    by : IsPlaced (definitions ms) 0 (Some home) name (assigned_by number exports) → (d : Definition) × (slice_get (definitions ms) number ≡ Some d) × (d.home.name ≡ home) × (d.assignment.name ≡ name)
    by (k, d, n, at, s, a) =
        let same : k ≡ number = omega (arith, n) in
        (d, subst (λ x. slice_get (definitions ms) x ≡ Some d) same at, sym (same_Some home d.home.name s), a)

-- and so is what a name means
pub meant_at : (ms : List WrittenModule) (home name : List ℕ) (number : ℕ) → Means ms home name number
    → (d : Definition) × (slice_get (definitions ms) number ≡ Some d) × (d.assignment.name ≡ name)
meant_at ms home name number (inl assigned) = let a = assigned_at ms home name number assigned in (a.0, a.1, a.3)
meant_at ms home name number (inr (from, here, there)) = let a = assigned_at ms from name number (true, there) in (a.0, a.1, a.3)
