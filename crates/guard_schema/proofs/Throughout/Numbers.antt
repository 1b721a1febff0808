-- The number of a definition, by its two names and by its place in the order.
use Rattle.std.proofs.Common.{◌≡◌, ◌⊎◌, inl, inr, ℕ, zero, suc, ◌+◌, Bool, true, false, ◌||◌, cond, List, [], ◌∷◌, ◌++◌}
use Rattle.std.proofs.Common.{length, Option, Some, None, option_map, slice_get, nat_eq, Contains, refl, sym, ap, subst}
use Rattle.std.proofs.Common.{◌∙◌, arith}
use Rattle.std.specs.Prelude.{bytes_eq}
use Rattle.std.specs.List.{flat_map}
use Rattle.std.proofs.lemmas.Bool.{and_parts}
use Rattle.std.proofs.lemmas.List.{length-map}
use Rattle.std.proofs.lemmas.List.Elements.{Contains-append_left, Contains-append_right}
use Rattle.std.proofs.lemmas.Option.{same_Some, slice_get-map}
use Rattle.std.proofs.lemmas.Slice.Eq.{bytes_eq-Decides}
use Rattle.guard_syntax.specs.Trees.{WrittenAssignment, WrittenModule}
use Rattle.guard_names.specs.Declarations.{Definition, definitions, defined_in, Origin, assigned_by, Declaration}
use Rattle.guard_names.specs.Declarations.{declarations, declarations_from, module_declaration, module_declarations}
use Rattle.guard_names.specs.Declarations.{lists_name, import_declarations, assigned_declarations, written_imports}
use Rattle.guard_names.specs.Declarations.{origin_there}
use Rattle.guard_names.specs.Faults.{duplicate}
use Rattle.guard_names.specs.Order.{is_listed}
use Rattle.guard_names.specs.Places.{place_in}
use Rattle.guard_names.proofs.Declared.Meaning.{found_so}
use Rattle.guard_schema.specs.Schemas.{assigns, number_assigned}

-- ---- what is listed has a place

pub listed_place : (order : List ℕ) (number : ℕ) → is_listed order number ≡ true → (place : ℕ)
    × (place_in order number ≡ Some place)
listed_place [] number h = absurd cc
listed_place (n ∷ order) number h = by (nat_eq number n) refl h (listed_place order number)
  where
    by : (b : Bool) → nat_eq number n ≡ b → (b || is_listed order number) ≡ true
        → (is_listed order number ≡ true → (place : ℕ) × (place_in order number ≡ Some place)) → (place : ℕ)
        × (place_in (n ∷ order) number ≡ Some place)
    by true e h' rest = (0, rw e refl)
    by false e h' rest = let after = rest h' in (suc after.0, rw (e, after.1) refl)

-- ---- a definition is declared under its number

later : {A : Type 0} (x : A) (xs : List A) (y : A) → Contains xs y → Contains (x ∷ xs) y
later x xs y c = (suc c.0, omega (arith, c.1), c.2)

-- the declaration of an assignment in a module
abbrev declaration : WrittenModule → WrittenAssignment → ℕ → Declaration
declaration m a number = record {
  scope = Some m.name;
  name = a.name;
  site = a.site;
  origin =
      assigned_by number (lists_name m.exports a.name);
}

assigned_declared : (m : WrittenModule) (first : ℕ) (all : List WrittenAssignment) (k : ℕ) (a : WrittenAssignment)
    → slice_get all k ≡ Some a
    → (number : ℕ) → first + k ≡ number → Contains (assigned_declarations m first all) (declaration m a number)
assigned_declared m first [] k a h number e = absurd cc
assigned_declared m first (x ∷ all) zero a h number e =
    let same : first ≡ number = omega (arith, e) in
    subst (λ (b : WrittenAssignment). Contains (declaration m x first ∷ assigned_declarations m (first + 1) all)
    (declaration m b number)) (same_Some x a h)
    (subst (λ (n : ℕ). Contains (declaration m x first ∷ assigned_declarations m (first + 1) all) (declaration m x n))
    same (0, omega arith, refl))
assigned_declared m first (x ∷ all) (suc k) a h number e =
    later (declaration m x first) (assigned_declarations m (first + 1) all) (declaration m a number)
    (assigned_declared m (first + 1) all k a h number (omega (arith, e)))

at_either : {A : Type 0} (xs ys : List A) (k : ℕ) (x : A) → slice_get (xs ++ ys) k ≡ Some x
    → (slice_get xs k ≡ Some x) ⊎ ((j : ℕ) × (length xs + j ≡ k) × (slice_get ys j ≡ Some x))
at_either [] ys k x h = inr (k, omega arith, h)
at_either (y ∷ xs) ys zero x h = inl h
at_either (y ∷ xs) ys (suc k) x h = by (at_either xs ys k x h)
  where
    by : (slice_get xs k ≡ Some x) ⊎ ((j : ℕ) × (length xs + j ≡ k) × (slice_get ys j ≡ Some x))
        → (slice_get xs k ≡ Some x) ⊎ ((j : ℕ) × (length (y ∷ xs) + j ≡ suc k) × (slice_get ys j ≡ Some x))
    by (inl e) = inl e
    by (inr (j, n, e)) = inr (j, omega (arith, n), e)

mapped : {A B : Type 0} (f : A → B) (o : Option A) (y : B) → option_map f o ≡ Some y → (x : A) × (o ≡ Some x)
    × (f x ≡ y)
mapped f None y h = absurd cc
mapped f (Some x) y h = (x, refl, same_Some (f x) y h)

definition_declared : (first : ℕ) (ms : List WrittenModule) (k : ℕ) (d : Definition)
    → slice_get (definitions ms) k ≡ Some d
    → (number : ℕ) → first + k ≡ number → Contains (declarations_from first ms) (declaration d.home d.assignment number)
definition_declared first [] k d h number e = absurd cc
definition_declared first (m ∷ ms) k d h number e =
    by (at_either (defined_in m) (definitions ms) k d h)
    (λ j there n i. definition_declared (first + length m.assignments) ms j d there n i)
  where
    rest : List Declaration
    rest = declarations_from (first + length m.assignments) ms

    imports : List Declaration
    imports = flat_map (import_declarations m.name) (written_imports m.imports)

    assigned : List Declaration
    assigned = assigned_declarations m first m.assignments

    here : (a : WrittenAssignment) → slice_get m.assignments k ≡ Some a
        → Contains (declarations_from first (m ∷ ms)) (declaration m a number)
    here a there =
        Contains-append_left (module_declarations first m) rest (declaration m a number)
        (later (module_declaration m) (imports ++ assigned) (declaration m a number)
        (Contains-append_right imports assigned (declaration m a number)
        (assigned_declared m first m.assignments k a there number e)))

    by : (slice_get (defined_in m) k ≡ Some d)
        ⊎ ((j : ℕ) × (length (defined_in m) + j ≡ k) × (slice_get (definitions ms) j ≡ Some d))
        → ((j : ℕ) → slice_get (definitions ms) j ≡ Some d → (n : ℕ) → (first + length m.assignments) + j ≡ n
        → Contains rest (declaration d.home d.assignment n))
        → Contains (declarations_from first (m ∷ ms)) (declaration d.home d.assignment number)
    by (inl there) others =
        let a = mapped (λ (b : WrittenAssignment). record { home = m; assignment = b }) (slice_get m.assignments k) d
        (sym (slice_get-map (λ (b : WrittenAssignment). record { home = m; assignment = b }) m.assignments k)
        ∙ there) in
        subst (λ (x : Definition). Contains (declarations_from first (m ∷ ms)) (declaration x.home x.assignment number))
        a.2 (here a.0 a.1)
    by (inr (j, n, there)) others =
        let many : length (defined_in m) ≡ length m.assignments =
        length-map m.assignments (λ (b : WrittenAssignment). record { home = m; assignment = b }) in
        Contains-append_right (module_declarations first m) rest (declaration d.home d.assignment number)
        (others j there number (omega (arith, e, n, many)))

-- ---- definitions by their names

pub first_assigned : (home name : List ℕ) (ds : List Definition) (number : ℕ)
    → number_assigned home name ds ≡ Some number
    → (d : Definition) × (slice_get ds number ≡ Some d) × (home ≡ d.home.name) × (name ≡ d.assignment.name)
first_assigned home name [] number h = absurd cc
first_assigned home name (d ∷ ds) number h = by (assigns home name d) refl h (λ n is. first_assigned home name ds n is)
  where
    further : ((n : ℕ) → number_assigned home name ds ≡ Some n → (x : Definition) × (slice_get ds n ≡ Some x)
        × (home ≡ x.home.name) × (name ≡ x.assignment.name))
        → (o : Option ℕ) → number_assigned home name ds ≡ o → option_map suc o ≡ Some number
        → (x : Definition) × (slice_get (d ∷ ds) number ≡ Some x) × (home ≡ x.home.name) × (name ≡ x.assignment.name)
    further rest None is e = absurd cc
    further rest (Some n) is e =
        let found = rest n is in (
          found.0,
          subst (λ (k : ℕ). slice_get (d ∷ ds) k ≡ Some found.0) (same_Some (suc n) number e) found.1,
          found.2,
          found.3,
        )

    by : (b : Bool) → assigns home name d ≡ b
        → cond b (Some 0) (option_map suc (number_assigned home name ds)) ≡ Some number
        → ((n : ℕ) → number_assigned home name ds ≡ Some n → (x : Definition) × (slice_get ds n ≡ Some x)
        × (home ≡ x.home.name) × (name ≡ x.assignment.name))
        → (x : Definition) × (slice_get (d ∷ ds) number ≡ Some x) × (home ≡ x.home.name) × (name ≡ x.assignment.name)
    by true is e rest =
        let both = and_parts (bytes_eq home d.home.name) (bytes_eq name d.assignment.name) is in (
          d,
          subst (λ (k : ℕ). slice_get (d ∷ ds) k ≡ Some d) (same_Some 0 number e) refl,
          (bytes_eq-Decides home d.home.name).0 both.0,
          (bytes_eq-Decides name d.assignment.name).0 both.1,
        )
    by false is e rest = further rest (number_assigned home name ds) refl e

itself : (d : Definition) → assigns d.home.name d.assignment.name d ≡ true
itself d = rw (
  (bytes_eq-Decides d.home.name d.home.name).1 refl,
  (bytes_eq-Decides d.assignment.name d.assignment.name).1 refl,
) refl

some_assigned : (ds : List Definition) (k : ℕ) (d : Definition) → slice_get ds k ≡ Some d → (number : ℕ)
    × (number_assigned d.home.name d.assignment.name ds ≡ Some number)
some_assigned [] k d h = absurd cc
some_assigned (x ∷ ds) zero d h = (
  0,
  subst (λ (y : Definition). cond (assigns d.home.name d.assignment.name y) (Some 0)
      (option_map suc (number_assigned d.home.name d.assignment.name ds)) ≡ Some 0) (sym (same_Some x d h))
      (rw (itself d) refl),
)
some_assigned (x ∷ ds) (suc k) d h = by (assigns d.home.name d.assignment.name x) (some_assigned ds k d h)
  where
    by : (b : Bool) → (number : ℕ) × (number_assigned d.home.name d.assignment.name ds ≡ Some number)
        → (number : ℕ) × (cond b (Some 0) (option_map suc (number_assigned d.home.name d.assignment.name ds)) ≡ Some
        number)
    by true r = (0, refl)
    by false r = (suc r.0, ap (option_map suc) r.1)

-- where no name is declared twice, the first that assigns a definition's names is this one
pub its_number : (ms : List WrittenModule) → duplicate ms ≡ None → (k : ℕ) (d : Definition)
    → slice_get (definitions ms) k ≡ Some d
    → number_assigned d.home.name d.assignment.name (definitions ms) ≡ Some k
its_number ms once k d h =
    let some = some_assigned (definitions ms) k d h in
    let found = first_assigned d.home.name d.assignment.name (definitions ms) some.0 some.1 in
    some.1 ∙ ap (λ (n : ℕ). Some n) (same found.0 some.0 found.1 found.2 found.3)
  where
    origin_of : (n : ℕ) (x : Definition) → slice_get (definitions ms) n ≡ Some x → (exports : Bool)
        × (origin_there (declarations ms) (Some x.home.name) x.assignment.name ≡ Some (assigned_by n exports))
    origin_of n x there =
        let exports = lists_name x.home.exports x.assignment.name in (
          exports,
          found_so (declarations ms) once (Some x.home.name) x.assignment.name x.assignment.site
              (assigned_by n exports) (definition_declared 0 ms n x there n (omega arith)),
        )

    number_of : (n m : ℕ) (b c : Bool) → ◌≡◌ {A = Option Origin} (Some (assigned_by n b)) (Some (assigned_by m c))
        → n ≡ m
    number_of n m b c e = cc

    same : (x : Definition) (n : ℕ) → slice_get (definitions ms) n ≡ Some x → d.home.name ≡ x.home.name
        → d.assignment.name ≡ x.assignment.name → n ≡ k
    same x n there home name =
        let other = origin_of n x there in
        let this = origin_of k d h in
        number_of n k other.0 this.0
        (sym other.1 ∙ ap (λ (a : List ℕ). origin_there (declarations ms) (Some a) x.assignment.name) (sym home)
        ∙ ap (λ (b : List ℕ). origin_there (declarations ms) (Some d.home.name) b) (sym name) ∙ this.1)
