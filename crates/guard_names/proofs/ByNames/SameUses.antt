-- Orders, and chains of uses, where two ways to say which uses which agree.
use Rattle.std.proofs.Common.{◌≡◌, ℕ, ◌<◌, List, [], ◌∷◌, ◌++◌, map, length, Some, None, sym, ◌∙◌, ap, subst}
use Rattle.std.proofs.lemmas.List.{length-map}
use Rattle.std.proofs.lemmas.Option.{slice_get_within}
use Rattle.guard_syntax.specs.Trees.{WrittenModule}
use Rattle.guard_names.specs.Declarations.{definitions}
use Rattle.guard_names.specs.Meanings.{Means, Uses, number_meant}
use Rattle.guard_names.specs.Order.{IsReady, Follow, IsOrder, Leads, at_once, through, IsRecursive, IsFirstRecursive}
use Rattle.guard_names.specs.Faults.{fault_of_names}
use Rattle.guard_names.specs.inside.Queues.{UsesIn, AreInside}
use Rattle.guard_names.specs.inside.Reading.{uses_of_all}
use Rattle.guard_names.proofs.Declared.Meaning.{means_number, meant_number}
use Rattle.guard_names.proofs.Declared.Numbered.{meant_at}
use Rattle.guard_names.proofs.Faults.Refusals.{none_duplicate}
use Rattle.guard_names.proofs.ByNames.UseLists.{uses_of, listed_by_definition, uses_from_list, list_from_uses}

module _ (count : ℕ) (uses also : ℕ → ℕ → Type 0) (to : (a b : ℕ) → uses a b → also a b) (from : (a b : ℕ) → also a b → uses a b) where
  ready_also : (listed : List ℕ) (number : ℕ) → IsReady count uses listed number → IsReady count also listed number
  ready_also listed number r = record { below = r.below; unlisted = r.unlisted; met = λ used u. r.met used (from number used u) }

  ready_back : (listed : List ℕ) (number : ℕ) → IsReady count also listed number → IsReady count uses listed number
  ready_back listed number r = record { below = r.below; unlisted = r.unlisted; met = λ used u. r.met used (to number used u) }

  follow_also : (listed numbers : List ℕ) → Follow count uses listed numbers → Follow count also listed numbers
  follow_also listed [] f = tt
  follow_also listed (number ∷ rest) f =
      (record { ready = ready_also listed number f.0.ready; first = λ other before r. f.0.first other before (ready_back listed other r) }, follow_also (listed ++ number ∷ []) rest f.1)

  pub order_also : (numbers : List ℕ) → IsOrder count uses numbers → IsOrder count also numbers
  order_also numbers o = record { follow = follow_also [] numbers o.follow; all = o.all }

pub leads_also : {uses also : ℕ → ℕ → Type 0} → ((a b : ℕ) → uses a b → also a b) → {a b : ℕ} → Leads uses a b → Leads also a b
leads_also to (at_once {a} {b} u) = at_once (to a b u)
leads_also to (through {a} {b} {c} u chain) = through (to a b u) (leads_also to chain)

-- ---- the lists of uses, and what the definitions of modules use

module _ (ms : List WrittenModule) (none : fault_of_names ms ≡ None) where
  pub are_means : (home name : List ℕ) (number : ℕ) → number_meant ms home name ≡ Some number → Means ms home name number
  are_means home name number h = means_number ms home name number h

  pub are_meant : (home name : List ℕ) (number : ℕ) → Means ms home name number → number_meant ms home name ≡ Some number
  are_meant home name number m = meant_number ms (none_duplicate ms none) home name number m

  by_definition : uses_of_all ms ≡ map (uses_of (number_meant ms)) (definitions ms)
  by_definition = listed_by_definition (number_meant ms) ms

  pub as_many : length (uses_of_all ms) ≡ length (definitions ms)
  as_many = ap length by_definition ∙ length-map (definitions ms) (uses_of (number_meant ms))

  pub uses_so : (a b : ℕ) → UsesIn (uses_of_all ms) a b → Uses ms a b
  uses_so a b u = uses_from_list ms (number_meant ms) are_means are_meant a b (subst (λ us. UsesIn us a b) by_definition u)

  pub so_uses : (a b : ℕ) → Uses ms a b → UsesIn (uses_of_all ms) a b
  so_uses a b u = subst (λ us. UsesIn us a b) (sym by_definition) (list_from_uses ms (number_meant ms) are_means are_meant a b u)

  pub are_inside : AreInside (uses_of_all ms)
  are_inside a b u = subst (λ n. b < n) (sym as_many) (within (uses_so a b u))
    where
      within : Uses ms a b → b < length (definitions ms)
      within (d, at, x, is, m) = let e = meant_at ms d.home.name x.name b m in slice_get_within (definitions ms) b e.0 e.1

  pub recursive_so : (number : ℕ) → IsRecursive (UsesIn (uses_of_all ms)) number → IsRecursive (Uses ms) number
  recursive_so number chain = leads_also uses_so chain

  pub so_recursive : (number : ℕ) → IsRecursive (Uses ms) number → IsRecursive (UsesIn (uses_of_all ms)) number
  so_recursive number chain = leads_also so_uses chain

  pub first_so : (number : ℕ) → IsFirstRecursive (UsesIn (uses_of_all ms)) number → IsFirstRecursive (Uses ms) number
  first_so number f = record { recursive = recursive_so number f.recursive; first = λ other before r. f.first other before (so_recursive other r) }

  pub order_so : (numbers : List ℕ) → IsOrder (length (uses_of_all ms)) (UsesIn (uses_of_all ms)) numbers → IsOrder (length (definitions ms)) (Uses ms) numbers
  order_so numbers o = subst (λ n. IsOrder n (Uses ms) numbers) as_many (order_also (length (uses_of_all ms)) (UsesIn (uses_of_all ms)) (Uses ms) uses_so so_uses numbers o)

  -- what uses itself is a definition
  pub recursive_within : (number : ℕ) → IsRecursive (Uses ms) number → number < length (definitions ms)
  recursive_within number chain = begins chain
    where
      begins : {b : ℕ} → Leads (Uses ms) number b → number < length (definitions ms)
      begins (at_once u) = slice_get_within (definitions ms) number u.0 u.1
      begins (through u rest) = slice_get_within (definitions ms) number u.0 u.1
