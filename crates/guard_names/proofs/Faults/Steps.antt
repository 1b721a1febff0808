-- The steps by which the faults are looked for, from look-ups in a table to what is declared.
use Rattle.std.proofs.Common.{◌≡◌, ℕ, List, [], Option, Result, Ok, sym, ◌∙◌, ap}
use Rattle.guard_model.specs.Answer.{◌>>=◌}
use Rattle.guard_syntax.specs.Trees.{WrittenModule}
use Rattle.guard_names.specs.declared.fault.NameFault.{NameFault}
use Rattle.guard_names.specs.declared.fault.NameFault.TheVariants.{Duplicate, Undefined, NoModule, NotExported, ImportNotDefined}
use Rattle.guard_names.specs.Declarations.{Declaration, declarations, Origins, Numbers, origin_there, definition_of}
use Rattle.guard_names.specs.Faults.{first_found, duplicate_after, duplicate, no_module_in, no_module, not_defined_among, not_defined, not_exported_among, undefined_in, undefined}
use Rattle.guard_names.specs.Meanings.{number_meant}
use Rattle.guard_names.specs.inside.Reading.{refused_at, check_imports, check_names}

then_last : (a b c : Result (Unit {0}) NameFault) → a ≡ Ok tt → b ≡ Ok tt → (a >>= λ _. (b >>= λ _. c)) ≡ c
then_last a b c first second = ap (λ x. x >>= λ _. (b >>= λ _. c)) first ∙ ap (λ x. x >>= λ _. c) second

module _ (ms : List WrittenModule) (ds : List Declaration) (are : ds ≡ declarations ms) (t : Origins) (found : (scope : Option (List ℕ)) (name : List ℕ) → t scope name ≡ origin_there ds scope name) where
  origins_are : t ≡ origin_there (declarations ms)
  origins_are = (λ i scope name. found scope name i) ∙ ap origin_there are

  pub numbers_are : definition_of t ≡ number_meant ms
  numbers_are = ap definition_of origins_are

  -- the last step decides
  pub last_step : refused_at Duplicate (duplicate_after [] ds) ≡ Ok tt → check_imports ms ≡ Ok tt → refused_at Undefined (first_found (undefined_in t (definition_of t)) ms) ≡ check_names ms
  last_step once imports =
      ap (λ x. refused_at Undefined (first_found (undefined_in x (definition_of x)) ms)) origins_are
      ∙ sym (then_last (refused_at Duplicate (duplicate ms)) (check_imports ms) (refused_at Undefined (undefined ms)) (ap (λ x. refused_at Duplicate (duplicate_after [] x)) (sym are) ∙ once) imports)

-- of the faults of imports too the last step decides
pub last_import_step : (ms : List WrittenModule) (ds : List Declaration) (t : Origins) → t ≡ origin_there (declarations ms) → ds ≡ declarations ms
    → refused_at NoModule (first_found (no_module_in t) ms) ≡ Ok tt → refused_at ImportNotDefined (not_defined_among t ds) ≡ Ok tt → refused_at NotExported (not_exported_among t ds) ≡ check_imports ms
last_import_step ms ds t origins are first second =
    let all = origin_there (declarations ms) in
    let last : refused_at NotExported (not_exported_among t ds) ≡ refused_at NotExported (not_exported_among all (declarations ms)) =
    ap (λ x. refused_at NotExported (not_exported_among x ds)) origins ∙ ap (λ x. refused_at NotExported (not_exported_among all x)) are in
    let there : refused_at NoModule (no_module ms) ≡ Ok tt = ap (λ x. refused_at NoModule (first_found (no_module_in x) ms)) (sym origins) ∙ first in
    let defined : refused_at ImportNotDefined (not_defined ms) ≡ Ok tt =
    ap (λ x. refused_at ImportNotDefined (not_defined_among x (declarations ms))) (sym origins) ∙ ap (λ x. refused_at ImportNotDefined (not_defined_among t x)) (sym are) ∙ second in
    last ∙ sym (then_last (refused_at NoModule (no_module ms)) (refused_at ImportNotDefined (not_defined ms)) (refused_at NotExported (not_exported_among all (declarations ms))) there defined)

-- two ways to say what each name means that agree on all names
pub same_numbers : (n m : Numbers) → ((home name : List ℕ) → n home name ≡ m home name) → n ≡ m
same_numbers n m e = λ i home name. e home name i
