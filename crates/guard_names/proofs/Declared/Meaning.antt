-- Where names have no fault, a look-up answers what a name means.
use Rattle.std.proofs.Common.{◌≡◌, ◌↔◌, inl, inr, ℕ, zero, suc, ◌<◌, Bool, true, false, cond, List, [], ◌∷◌, ◌++◌, length, get_or, Option, Some, None, option_map, is_some, Contains, refl, sym, ◌∙◌, ap, subst, arith}
use Rattle.std.specs.Prelude.{bytes_eq}
use Rattle.std.proofs.Common.{append_assoc}
use Rattle.std.specs.List.{find}
use Rattle.std.specs.Option.{option_eq, option_or}
use Rattle.std.specs.Cmp.Lexicographic.{bytes_decides}
use Rattle.std.proofs.lemmas.Bool.{and_parts, and_from}
use Rattle.std.proofs.lemmas.Option.{same_Some}
use Rattle.std.proofs.lemmas.List.Folds.{find-append}
use Rattle.guard_model.specs.declared.site.Site.{Site}
use Rattle.guard_syntax.specs.Trees.{WrittenModule}
use Rattle.guard_names.specs.Declarations.{Origin, of_module, imported_from, assigned_by, Declaration, declarations, declares, Origins, origin_there, exported_number, number_of_origin}
use Rattle.guard_names.specs.Meanings.{IsDeclared, Means, number_meant}
use Rattle.guard_names.specs.Faults.{duplicate_after, duplicate}

-- ---- names that are the same

scopes_same : (a b : Option (List ℕ)) → option_eq bytes_eq a b ≡ true → a ≡ b
scopes_same None None h = refl
scopes_same None (Some y) h = absurd cc
scopes_same (Some x) None h = absurd cc
scopes_same (Some x) (Some y) h = ap Some ((bytes_decides x y).0 h)

scope_itself : (a : Option (List ℕ)) → option_eq bytes_eq a a ≡ true
scope_itself None = refl
scope_itself (Some x) = (bytes_decides x x).1 refl

pub declares_itself : (d : Declaration) → declares d.scope d.name d ≡ true
declares_itself d = and_from (option_eq bytes_eq d.scope d.scope) (bytes_eq d.name d.name) (scope_itself d.scope) ((bytes_decides d.name d.name).1 refl)

-- ---- a look-up finds a declaration

found_is : (p : Declaration → Bool) (ds : List Declaration) (d : Declaration) → find p ds ≡ Some d → Contains ds d × (p d ≡ true)
found_is p [] d h = absurd cc
found_is p (e ∷ ds) d h = by (p e) refl h (found_is p ds d)
  where
    by : (b : Bool) → p e ≡ b → cond b (Some e) (find p ds) ≡ Some d → (find p ds ≡ Some d → Contains ds d × (p d ≡ true)) → Contains (e ∷ ds) d × (p d ≡ true)
    by true is h' rest = let same = same_Some e d h' in ((0, omega arith, same), ap p (sym same) ∙ is)
    by false is h' rest = let r = rest h' in ((suc r.0.0, omega (arith, r.0.1), r.0.2), r.1)

-- where it says that a name comes from, it is declared so
pub declared_so : (ds : List Declaration) (scope : Option (List ℕ)) (name : List ℕ) (o : Origin) → origin_there ds scope name ≡ Some o
    → (site : Site) × Contains ds (record { scope = scope; name = name; site = site; origin = o })
declared_so ds scope name o h = by (find (declares scope name) ds) refl h
  where
    by : (f : Option Declaration) → find (declares scope name) ds ≡ f → option_map (λ d. d.origin) f ≡ Some o → (site : Site) × Contains ds (record { scope = scope; name = name; site = site; origin = o })
    by None e h' = absurd cc
    by (Some d) e h' =
        let is = found_is (declares scope name) ds d e in
        let parts = and_parts (option_eq bytes_eq scope d.scope) (bytes_eq name d.name) is.1 in
        let s : scope ≡ d.scope = scopes_same scope d.scope parts.0 in
        let n : name ≡ d.name = (bytes_decides name d.name).0 parts.1 in
        let o' : o ≡ d.origin = sym (same_Some d.origin o h') in
        (d.site, subst (λ x. Contains ds x) (λ i. record { scope = sym s i; name = sym n i; site = d.site; origin = sym o' i }) is.0)

-- ---- where nothing is declared twice, each declaration is found

pub origin-append : (xs ys : List Declaration) (scope : Option (List ℕ)) (name : List ℕ) → origin_there (xs ++ ys) scope name ≡ option_or (origin_there xs scope name) (origin_there ys scope name)
origin-append xs ys scope name = ap (option_map (λ d. d.origin)) (find-append (declares scope name) xs ys) ∙ by (find (declares scope name) xs)
  where
    by : (f : Option Declaration) → option_map (λ d. d.origin) (option_or f (find (declares scope name) ys)) ≡ option_or (option_map (λ d. d.origin) f) (origin_there ys scope name)
    by None = refl
    by (Some d) = refl

-- the first one isn't declared before, and the others aren't after it
first_new : (o : Option Origin) (site : Site) (rest : Option Site) → cond (is_some o) (Some site) rest ≡ None → (o ≡ None) × (rest ≡ None)
first_new None site rest h = (refl, h)
first_new (Some x) site rest h = absurd cc

pub never_before : (before ds : List Declaration) → duplicate_after before ds ≡ None → (k : ℕ) (d : Declaration) → k < length ds → get_or ds k d ≡ d
    → origin_there (before ++ ds) d.scope d.name ≡ Some d.origin
never_before before [] h k d l is = absurd (omega (arith, l))
never_before before (e ∷ ds) h zero d l is =
    let new = first_new (origin_there before e.scope e.name) e.site (duplicate_after (before ++ e ∷ []) ds) h in
    let at : origin_there (before ++ e ∷ ds) e.scope e.name ≡ Some e.origin =
    origin-append before (e ∷ ds) e.scope e.name ∙ ap (λ o. option_or o (origin_there (e ∷ ds) e.scope e.name)) new.0
    ∙ ap (λ b. option_map (λ (x : Declaration). x.origin) (cond b (Some e) (find (declares e.scope e.name) ds))) (declares_itself e) in
    subst (λ (x : Declaration). origin_there (before ++ e ∷ ds) x.scope x.name ≡ Some x.origin) is at
never_before before (e ∷ ds) h (suc k) d l is =
    let new = first_new (origin_there before e.scope e.name) e.site (duplicate_after (before ++ e ∷ []) ds) h in
    ap (λ all. origin_there all d.scope d.name) (sym (append_assoc before (e ∷ []) ds)) ∙ never_before (before ++ e ∷ []) ds new.1 k d (omega (arith, l)) is

pub found_so : (ds : List Declaration) → duplicate_after [] ds ≡ None → (scope : Option (List ℕ)) (name : List ℕ) (site : Site) (o : Origin)
    → Contains ds (record { scope = scope; name = name; site = site; origin = o }) → origin_there ds scope name ≡ Some o
found_so ds h scope name site o is = never_before [] ds h is.0 (record { scope = scope; name = name; site = site; origin = o }) is.1 is.2

-- ---- a definition and its name

exported_so : (o : Option Origin) (number : ℕ) → exported_number o ≡ Some number → o ≡ Some (assigned_by number true)
exported_so (Some (assigned_by n true)) number h = ap (λ x. Some (assigned_by x true)) (same_Some n number h)
exported_so o number h = absurd cc

module _ (ms : List WrittenModule) where
  abbrev origins : Origins
  origins = origin_there (declarations ms)

  -- what a look-up answers, the name means
  pub means_number : (home name : List ℕ) (number : ℕ) → number_meant ms home name ≡ Some number → Means ms home name number
  means_number home name number h = by (origins (Some home) name) refl h
    where
      by : (o : Option Origin) → origins (Some home) name ≡ o → number_of_origin origins name o ≡ Some number → Means ms home name number
      by None e h' = absurd cc
      by (Some of_module) e h' = absurd cc
      by (Some (imported_from from)) e h' =
          let here = declared_so (declarations ms) (Some home) name (imported_from from) e in
          let there = declared_so (declarations ms) (Some from) name (assigned_by number true) (exported_so (origins (Some from) name) number h') in
          inr (from, here, there)
      by (Some (assigned_by n exports)) e h' =
          let d = declared_so (declarations ms) (Some home) name (assigned_by n exports) e in
          inl (exports, subst (λ x. IsDeclared ms home name (assigned_by x exports)) (same_Some n number h') d)

  -- what the name means, a look-up answers
  pub meant_number : duplicate ms ≡ None → (home name : List ℕ) (number : ℕ) → Means ms home name number → number_meant ms home name ≡ Some number
  meant_number once home name number (inl (exports, there)) =
      ap (number_of_origin origins name) (found_so (declarations ms) once (Some home) name there.0 (assigned_by number exports) there.1)
  meant_number once home name number (inr (from, here, there)) =
      ap (number_of_origin origins name) (found_so (declarations ms) once (Some home) name here.0 (imported_from from) here.1)
      ∙ ap exported_number (found_so (declarations ms) once (Some from) name there.0 (assigned_by number true) there.1)

  -- The law: the one definition that a name means.
  pub number_is_meant : duplicate ms ≡ None → (home name : List ℕ) (number : ℕ) → (number_meant ms home name ≡ Some number) ↔ Means ms home name number
  number_is_meant once home name number = (means_number home name number, meant_number once home name number)
