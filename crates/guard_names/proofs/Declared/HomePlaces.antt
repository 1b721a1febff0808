-- The definition of a number: in the first module, or after it.
use Rattle.std.proofs.Common.{◌≡◌, ℕ, zero, suc, ◌+◌, ◌-◌, ◌<◌, ◌≤◌, List, [], ◌∷◌, ◌++◌, map, length, get_or, drop, Option, Some, option_map, slice_get, refl, sym, ◌∙◌, ap, arith}
use Rattle.std.proofs.lemmas.List.{at_drop_more, length-map}
use Rattle.std.proofs.lemmas.Option.{slice_get-map}
use Rattle.guard_syntax.specs.Trees.{WrittenAssignment}
use Rattle.guard_syntax.specs.declared.tree.Module.{Module}
use Rattle.guard_syntax.specs.declared.tree.Assignment.{Assignment}
use Rattle.guard_syntax.specs.ModuleViews.{module_view, assignment_view}
use Rattle.guard_names.specs.Declarations.{Definition, definitions, defined_in}

get_front : {X : Type 0} (xs ys : List X) (k : ℕ) (x : X) → slice_get xs k ≡ Some x → slice_get (xs ++ ys) k ≡ Some x
get_front [] ys k x h = absurd cc
get_front (y ∷ xs) ys zero x h = h
get_front (y ∷ xs) ys (suc k) x h = get_front xs ys k x h

get_back : {X : Type 0} (xs ys : List X) (k rest : ℕ) → k ≡ length xs + rest → slice_get (xs ++ ys) k ≡ slice_get ys rest
get_back [] ys k rest e = ap (slice_get ys) (same e)
  where
    same : k ≡ 0 + rest → k ≡ rest
    same h = omega (arith, h)
get_back (x ∷ xs) ys zero rest e = absurd (omega (arith, e))
get_back (x ∷ xs) ys (suc k) rest e = get_back xs ys k rest (omega (arith, e))

module _ (xs : List Module) (i : ℕ) (x : Module) (inside : i < length xs) (is : x ≡ get_or xs i x) (left : ℕ) (total : Option Definition)
    (so_far : slice_get (definitions (map module_view (drop i xs))) left ≡ total) where
  abbrev of : WrittenAssignment → Definition
  of a = record { home = module_view x; assignment = a }

  next : definitions (map module_view (drop i xs)) ≡ defined_in (module_view x) ++ definitions (map module_view (drop (i + 1) xs))
  next = rw (at_drop_more (map module_view) xs i x inside, ← is) refl

  pub home_here : (a : Assignment) → slice_get x.assignments.items left ≡ Some a → Some (record { home = module_view x; assignment = assignment_view a }) ≡ total
  home_here a at =
      let there : slice_get (defined_in (module_view x)) left ≡ Some (record { home = module_view x; assignment = assignment_view a }) =
      slice_get-map of (map assignment_view x.assignments.items) left ∙ ap (option_map of) (slice_get-map assignment_view x.assignments.items left ∙ ap (option_map assignment_view) at) in
      sym (get_front (defined_in (module_view x)) (definitions (map module_view (drop (i + 1) xs))) left _ there) ∙ ap (λ ds. slice_get ds left) (sym next) ∙ so_far

  pub home_later : (n : ℕ) → n ≡ length x.assignments.items → length x.assignments.items ≤ left → slice_get (definitions (map module_view (drop (i + 1) xs))) (left - n) ≡ total
  home_later n e past =
      sym (get_back (defined_in (module_view x)) (definitions (map module_view (drop (i + 1) xs))) left (left - n) as_many) ∙ ap (λ ds. slice_get ds left) (sym next) ∙ so_far
    where
      many : length (defined_in (module_view x)) ≡ length x.assignments.items
      many = length-map (map assignment_view x.assignments.items) of ∙ length-map x.assignments.items assignment_view

      as_many : left ≡ length (defined_in (module_view x)) + (left - n)
      as_many = omega (arith, many, e, past)
