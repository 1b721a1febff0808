-- Modules that are added at the end change nothing of what names mean in the others.
use Rattle.std.proofs.Common.{◌≡◌, ◌↔◌, ℕ, zero, suc, ◌+◌, ◌<◌, Bool, true, false, cond, not, List, [], ◌∷◌, ◌++◌, length, get_or, Option, Some, None, is_some, All, Contains, refl, sym, ◌∙◌, ap, subst, arith, append_assoc}
use Rattle.std.proofs.Common.{append-nil}
use Rattle.std.specs.List.{flat_map}
use Rattle.std.specs.Option.{option_or}
use Rattle.std.proofs.lemmas.List.Elements.{All-nil, All-cons, All-append, All-weaker, All-contains, Contains-append_left, Contains-append_right}
use Rattle.std.proofs.lemmas.Option.{same_Some}
use Rattle.guard_model.specs.declared.site.Site.{Site}
use Rattle.guard_syntax.specs.Trees.{WrittenSymbol, WrittenImport, WrittenAssignment, WrittenModule}
use Rattle.guard_names.specs.Declarations.{Origin, of_module, imported_from, assigned_by, Declaration, declarations, declarations_from, module_declaration, module_declarations, lists_name, symbol_declarations, import_declarations, assigned_declarations, written_imports, Origins, origin_there, exported_number, number_of_origin, definition_of}
use Rattle.guard_names.specs.Meanings.{Means}
use Rattle.guard_names.specs.Faults.{first_where, first_found, is_missing, no_module_in, duplicate_after, fault_of_names}
use Rattle.guard_names.proofs.Declared.Meaning.{declared_so, found_so, origin-append, means_number, meant_number}
use Rattle.guard_names.proofs.Faults.Refusals.{none_duplicate, none_missing}

-- ---- the declarations of modules are those of the first, and those of the others after them

declared_after : (first : ℕ) (ms more : List WrittenModule) → (later : ℕ) × (declarations_from first (ms ++ more) ≡ declarations_from first ms ++ declarations_from later more)
declared_after first [] more = (first, refl)
declared_after first (m ∷ ms) more =
    let rest = declared_after (first + length m.assignments) ms more in
    (rest.0, ap (λ ds. module_declarations first m ++ ds) rest.1 ∙ sym (append_assoc (module_declarations first m) (declarations_from (first + length m.assignments) ms) (declarations_from rest.0 more)))

-- ---- what is declared twice

twice_after : (before xs ys : List Declaration) → duplicate_after before (xs ++ ys) ≡ None → duplicate_after (before ++ xs) ys ≡ None
twice_after before [] ys h = subst (λ ds. duplicate_after ds ys ≡ None) (sym (append-nil before)) h
twice_after before (x ∷ xs) ys h =
    subst (λ ds. duplicate_after ds ys ≡ None) (append_assoc before (x ∷ []) xs) (twice_after (before ++ x ∷ []) xs ys (later (is_some (origin_there before x.scope x.name)) h))
  where
    later : (b : Bool) → cond b (Some x.site) (duplicate_after (before ++ x ∷ []) (xs ++ ys)) ≡ None → duplicate_after (before ++ x ∷ []) (xs ++ ys) ≡ None
    later true h' = absurd cc
    later false h' = h'

or_none_left : {A : Type 0} (a b : Option A) → option_or a b ≡ None → a ≡ None
or_none_left None b h = refl
or_none_left (Some x) b h = absurd cc

not_before : (before ys : List Declaration) → duplicate_after before ys ≡ None → All (λ d. origin_there before d.scope d.name ≡ None) ys
not_before before [] h = All-nil (λ (d : Declaration). origin_there before d.scope d.name ≡ None)
not_before before (y ∷ ys) h =
    let parts = new (origin_there before y.scope y.name) h in
    All-cons (λ (d : Declaration). origin_there before d.scope d.name ≡ None) y ys parts.0
    (All-weaker _ (λ (d : Declaration). origin_there before d.scope d.name ≡ None)
    (λ d e. or_none_left (origin_there before d.scope d.name) (origin_there (y ∷ []) d.scope d.name) (sym (origin-append before (y ∷ []) d.scope d.name) ∙ e)) ys (not_before (before ++ y ∷ []) ys parts.1))
  where
    new : (o : Option Origin) → cond (is_some o) (Some y.site) (duplicate_after (before ++ y ∷ []) ys) ≡ None → (o ≡ None) × (duplicate_after (before ++ y ∷ []) ys ≡ None)
    new None h' = (refl, h')
    new (Some x) h' = absurd cc

-- ---- what is declared in a module: the module is declared too

-- in the module of this name
abbrev IsIn : List ℕ → Declaration → Type 0
IsIn home d = d.scope ≡ Some home

symbols_in : (home from : List ℕ) (symbols : List WrittenSymbol) → All (IsIn home) (symbol_declarations home from symbols)
symbols_in home from [] = All-nil (IsIn home)
symbols_in home from (s ∷ rest) = All-cons (IsIn home) _ _ refl (symbols_in home from rest)

imports_in : (home : List ℕ) (imports : List WrittenImport) → All (IsIn home) (flat_map (import_declarations home) imports)
imports_in home [] = All-nil (IsIn home)
imports_in home (i ∷ rest) = All-append (IsIn home) (import_declarations home i) _ (symbols_in home i.module_name i.symbols) (imports_in home rest)

assigned_in : (m : WrittenModule) (first : ℕ) (rest : List WrittenAssignment) → All (IsIn m.name) (assigned_declarations m first rest)
assigned_in m first [] = All-nil (IsIn m.name)
assigned_in m first (a ∷ rest) = All-cons (IsIn m.name) _ _ refl (assigned_in m (first + 1) rest)

-- its module is declared among these
abbrev HasModule : List Declaration → Declaration → Type 0
HasModule ds d = (home : List ℕ) → d.scope ≡ Some home → (site : Site) × Contains ds (record { scope = None; name = home; site = site; origin = of_module })

have_modules : (first : ℕ) (ms : List WrittenModule) → All (HasModule (declarations_from first ms)) (declarations_from first ms)
have_modules first [] = All-nil (HasModule [])
have_modules first (m ∷ ms) =
    All-append (HasModule all) (module_declarations first m) rest
    (All-cons (HasModule all) (module_declaration m) (flat_map (import_declarations m.name) (written_imports m.imports) ++ assigned_declarations m first m.assignments) (λ home h. absurd cc)
    (All-weaker (IsIn m.name) (HasModule all) here (flat_map (import_declarations m.name) (written_imports m.imports) ++ assigned_declarations m first m.assignments)
    (All-append (IsIn m.name) (flat_map (import_declarations m.name) (written_imports m.imports)) _ (imports_in m.name (written_imports m.imports)) (assigned_in m first m.assignments))))
    (All-weaker (HasModule rest) (HasModule all) (λ d has home h. let found = has home h in (found.0, Contains-append_right (module_declarations first m) rest _ found.1)) rest (have_modules (first + length m.assignments) ms))
  where
    rest : List Declaration
    rest = declarations_from (first + length m.assignments) ms

    all : List Declaration
    all = module_declarations first m ++ rest

    here : (d : Declaration) → IsIn m.name d → HasModule all d
    here d is home h =
        let same : m.name ≡ home = same_Some m.name home (sym is ∙ h) in
        (m.site, subst (λ x. Contains all (record { scope = None; name = x; site = m.site; origin = of_module })) same (0, omega arith, refl))

-- ---- what is imported comes from a module that is there

FromThere : Origins → Origin → Type 0
FromThere origins of_module = Unit {0}
FromThere origins (imported_from from) = is_some (origins None from) ≡ true
FromThere origins (assigned_by number exports) = Unit {0}

abbrev IsFromThere : Origins → Declaration → Type 0
IsFromThere origins d = FromThere origins d.origin

symbols_from : (origins : Origins) (home from : List ℕ) (symbols : List WrittenSymbol) → is_some (origins None from) ≡ true → All (IsFromThere origins) (symbol_declarations home from symbols)
unfolding FromThere
symbols_from origins home from [] there = All-nil (IsFromThere origins)
symbols_from origins home from (s ∷ rest) there =
    All-cons (IsFromThere origins) (record { scope = Some home; name = s.name; site = s.site; origin = imported_from from }) (symbol_declarations home from rest) there (symbols_from origins home from rest there)

imports_from : (origins : Origins) (home : List ℕ) (imports : List WrittenImport) → first_where (is_missing origins) (λ i. i.module_site) imports ≡ None → All (IsFromThere origins) (flat_map (import_declarations home) imports)
imports_from origins home [] h = All-nil (IsFromThere origins)
imports_from origins home (i ∷ rest) h =
    let parts = none (is_some (origins None i.module_name)) h in
    All-append (IsFromThere origins) (import_declarations home i) (flat_map (import_declarations home) rest) (symbols_from origins home i.module_name i.symbols parts.0) (imports_from origins home rest parts.1)
  where
    none : (b : Bool) → cond (not b) (Some i.module_site) (first_where (is_missing origins) (λ i. i.module_site) rest) ≡ None → (b ≡ true) × (first_where (is_missing origins) (λ i. i.module_site) rest ≡ None)
    none true h' = (refl, h')
    none false h' = absurd cc

assigned_from : (origins : Origins) (m : WrittenModule) (first : ℕ) (rest : List WrittenAssignment) → All (IsFromThere origins) (assigned_declarations m first rest)
unfolding FromThere
assigned_from origins m first [] = All-nil (IsFromThere origins)
assigned_from origins m first (a ∷ rest) =
    All-cons (IsFromThere origins) (record { scope = Some m.name; name = a.name; site = a.site; origin = assigned_by first (lists_name m.exports a.name) }) (assigned_declarations m (first + 1) rest) tt (assigned_from origins m (first + 1) rest)

all_from : (origins : Origins) (first : ℕ) (ms : List WrittenModule) → first_found (no_module_in origins) ms ≡ None → All (IsFromThere origins) (declarations_from first ms)
unfolding FromThere
all_from origins first [] h = All-nil (IsFromThere origins)
all_from origins first (m ∷ ms) h =
    let parts = none (no_module_in origins m) h in
    All-append (IsFromThere origins) (module_declarations first m) (declarations_from (first + length m.assignments) ms)
    (All-cons (IsFromThere origins) (module_declaration m) (flat_map (import_declarations m.name) (written_imports m.imports) ++ assigned_declarations m first m.assignments) tt
    (All-append (IsFromThere origins) (flat_map (import_declarations m.name) (written_imports m.imports)) (assigned_declarations m first m.assignments)
    (imports_from origins m.name (written_imports m.imports) parts.0) (assigned_from origins m first m.assignments)))
    (all_from origins (first + length m.assignments) ms parts.1)
  where
    none : (o : Option Site) → option_or o (first_found (no_module_in origins) ms) ≡ None → (o ≡ None) × (first_found (no_module_in origins) ms ≡ None)
    none None h' = (refl, h')
    none (Some s) h' = absurd cc

-- ---- a module of the list is declared

module_there : (first : ℕ) (ms : List WrittenModule) (k : ℕ) (m : WrittenModule) → k < length ms → get_or ms k m ≡ m → Contains (declarations_from first ms) (module_declaration m)
module_there first [] k m below is = absurd (omega (arith, below))
module_there first (x ∷ ms) zero m below is = Contains-append_left (module_declarations first x) (declarations_from (first + length x.assignments) ms) (module_declaration m) (0, omega arith, ap module_declaration is)
module_there first (x ∷ ms) (suc k) m below is =
    Contains-append_right (module_declarations first x) (declarations_from (first + length x.assignments) ms) (module_declaration m) (module_there (first + length x.assignments) ms k m (omega (arith, below)) is)

-- ---- the law

module _ (ms more : List WrittenModule) (none : fault_of_names ms ≡ None) (none_after : fault_of_names (ms ++ more) ≡ None) where
  split : (later : ℕ) × (declarations (ms ++ more) ≡ declarations ms ++ declarations_from later more)
  split = declared_after 0 ms more

  abbrev after : List Declaration
  after = declarations_from split.0 more

  both : (scope : Option (List ℕ)) (name : List ℕ) → origin_there (declarations (ms ++ more)) scope name ≡ option_or (origin_there (declarations ms) scope name) (origin_there after scope name)
  both scope name = ap (λ ds. origin_there ds scope name) split.1 ∙ origin-append (declarations ms) after scope name

  -- in a module that is declared before, nothing is declared after
  nothing_after : (home : List ℕ) → is_some (origin_there (declarations ms) None home) ≡ true → (name : List ℕ) → origin_there after (Some home) name ≡ None
  nothing_after home there name = by (origin_there after (Some home) name) refl
    where
      once : duplicate_after (declarations ms) after ≡ None
      once = twice_after [] (declarations ms) after (subst (λ ds. duplicate_after [] ds ≡ None) split.1 (none_duplicate (ms ++ more) none_after))

      clash : (o : Option Origin) → is_some o ≡ true → o ≡ None → ⊥
      clash None h e = cc
      clash (Some x) h e = cc

      by : (o : Option Origin) → origin_there after (Some home) name ≡ o → o ≡ None
      by None e = refl
      by (Some o) e =
          let d = declared_so after (Some home) name o e in
          let m = All-contains (HasModule after) after _ (have_modules split.0 more) d.1 home refl in
          absurd (clash (origin_there (declarations ms) None home) there (All-contains (λ (d : Declaration). origin_there (declarations ms) d.scope d.name ≡ None) after _ (not_before (declarations ms) after once) m.1))

  same_there : (home : List ℕ) → is_some (origin_there (declarations ms) None home) ≡ true → (name : List ℕ) → origin_there (declarations (ms ++ more)) (Some home) name ≡ origin_there (declarations ms) (Some home) name
  same_there home there name = both (Some home) name ∙ ap (option_or (origin_there (declarations ms) (Some home) name)) (nothing_after home there name) ∙ right_none (origin_there (declarations ms) (Some home) name)
    where
      right_none : (o : Option Origin) → option_or o None ≡ o
      right_none None = refl
      right_none (Some x) = refl

  same_number : (home : List ℕ) → is_some (origin_there (declarations ms) None home) ≡ true → (name : List ℕ)
      → definition_of (origin_there (declarations (ms ++ more))) home name ≡ definition_of (origin_there (declarations ms)) home name
  unfolding FromThere
  same_number home there name =
      ap (number_of_origin (origin_there (declarations (ms ++ more))) name) (same_there home there name) ∙ by (origin_there (declarations ms) (Some home) name) refl
    where
      from_there : (from : List ℕ) → origin_there (declarations ms) (Some home) name ≡ Some (imported_from from) → is_some (origin_there (declarations ms) None from) ≡ true
      from_there from e =
          let d = declared_so (declarations ms) (Some home) name (imported_from from) e in
          All-contains (IsFromThere (origin_there (declarations ms))) (declarations ms) _ (all_from (origin_there (declarations ms)) 0 ms (none_missing ms none)) d.1

      by : (o : Option Origin) → origin_there (declarations ms) (Some home) name ≡ o → number_of_origin (origin_there (declarations (ms ++ more))) name o ≡ number_of_origin (origin_there (declarations ms)) name o
      by (Some (imported_from from)) e = ap exported_number (same_there from (from_there from e) name)
      by o e = refl

  -- in a module of the first, a name means what it means without the others
  pub means_as_before : (home name : List ℕ) → (m : WrittenModule) × Contains ms m × (m.name ≡ home) → (number : ℕ) → Means ms home name number ↔ Means (ms ++ more) home name number
  means_as_before home name (m, (k, below, at), is) number = (to, from)
    where
      there : is_some (origin_there (declarations ms) None home) ≡ true
      there = rw (← is, found_so (declarations ms) (none_duplicate ms none) None m.name m.site of_module (module_there 0 ms k m below at)) refl

      to : Means ms home name number → Means (ms ++ more) home name number
      to h = means_number (ms ++ more) home name number (same_number home there name ∙ meant_number ms (none_duplicate ms none) home name number h)

      from : Means (ms ++ more) home name number → Means ms home name number
      from h = means_number ms home name number (sym (same_number home there name) ∙ meant_number (ms ++ more) (none_duplicate (ms ++ more) none_after) home name number h)
