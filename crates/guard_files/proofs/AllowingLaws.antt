-- The rules of a policy, one after another, as a loop over their numbers has them.
use Rattle.std.proofs.Common.{◌≡◌, ◌∙◌, ◌+◌, ◌&&◌, ℕ, Bool, true, false, cond, zero, suc, List, [], ◌∷◌, ◌++◌, Some, drop, ap, refl, sym, append_assoc, ◌<◌, ◌≤◌, None, length, arith}
use Rattle.std.specs.Prelude.{slice_get}
use Rattle.std.proofs.lemmas.List.{append-nil, at_drop_all, at_drop_more}
use Rattle.std.proofs.lemmas.Option.{get_or_from_slice_get, slice_get_within}
use Rattle.guard_model.specs.AbstractValue.{AbstractValue}
use Rattle.guard_policy.specs.Decisions.{NumberedRule, allows, speaking, speaks_of}
use Rattle.guard_policy.specs.Policies.{AbstractRoute, AbstractRule}
use Rattle.guard_files.specs.Allowed.{allowing, allowing_line, allowing_lines}

-- where an item stands, what is told of those from it on is told of it and of those behind it
pub from_item : {A B : Type 0} (tell : List A → B) (xs : List A) (i : ℕ) (x : A) → slice_get xs i ≡ Some x
    → tell (drop i xs) ≡ tell (x ∷ drop (i + 1) xs)
from_item tell xs i x at =
    at_drop_more tell xs i x (slice_get_within xs i x at)
    ∙ ap (λ y. tell (y ∷ drop (i + 1) xs)) (get_or_from_slice_get xs i x x at)

-- what one more rule of a list adds
numbers_step : (route : AbstractRoute) (v : AbstractValue) (n : ℕ) (r : AbstractRule) (rules : List AbstractRule)
    → allowing (speaking route n (r ∷ rules)) v ≡ cond (speaks_of route r && allows r v) (n ∷ allowing (speaking route (n + 1) rules) v) (allowing (speaking route (n + 1) rules) v)
numbers_step route v n r rules = go (speaks_of route r)
  where
    rest : List NumberedRule
    rest = speaking route (n + 1) rules

    go : (speaks : Bool) → allowing (cond speaks (record { number = n; rule = r } ∷ rest) rest) v ≡ cond (speaks && allows r v) (n ∷ allowing rest v) (allowing rest v)
    go true = refl
    go false = refl

-- this rule comes next
module _ (route : AbstractRoute) (v : AbstractValue) (rules : List AbstractRule) (i : ℕ) (r : AbstractRule) (at : slice_get rules i ≡ Some r) where
  line_next : (b : Bool) → (speaks_of route r && allows r v) ≡ b
      → allowing_lines route v (drop i rules) ≡ cond b (allowing_line r.name) [] ++ allowing_lines route v (drop (i + 1) rules)
  line_next b is =
      from_item (allowing_lines route v) rules i r at
      ∙ ap (λ x. cond x (allowing_line r.name) [] ++ allowing_lines route v (drop (i + 1) rules)) is

  -- its line, if it allows the value
  pub one_line : (text all : List ℕ) → (speaks_of route r && allows r v) ≡ true → text ++ allowing_lines route v (drop i rules) ≡ all
      → (text ++ allowing_line r.name) ++ allowing_lines route v (drop (i + 1) rules) ≡ all
  one_line text all has so_far =
      append_assoc text (allowing_line r.name) (allowing_lines route v (drop (i + 1) rules))
      ∙ ap (λ xs. text ++ xs) (sym (line_next true has)) ∙ so_far

  pub no_line : (text all : List ℕ) → (speaks_of route r && allows r v) ≡ false → text ++ allowing_lines route v (drop i rules) ≡ all
      → text ++ allowing_lines route v (drop (i + 1) rules) ≡ all
  no_line text all none so_far = ap (λ xs. text ++ xs) (sym (line_next false none)) ∙ so_far

  numbers_next : (b : Bool) → (speaks_of route r && allows r v) ≡ b
      → allowing (speaking route i (drop i rules)) v
      ≡ cond b (i ∷ allowing (speaking route (i + 1) (drop (i + 1) rules)) v) (allowing (speaking route (i + 1) (drop (i + 1) rules)) v)
  numbers_next b is =
      let rest : List ℕ = allowing (speaking route (i + 1) (drop (i + 1) rules)) v in
      from_item (λ xs. allowing (speaking route i xs) v) rules i r at ∙ numbers_step route v i r (drop (i + 1) rules)
      ∙ ap (λ x. cond x (i ∷ rest) rest) is

  -- its number
  pub one_number : (done all : List ℕ) → (speaks_of route r && allows r v) ≡ true → done ++ allowing (speaking route i (drop i rules)) v ≡ all
      → (done ++ i ∷ []) ++ allowing (speaking route (i + 1) (drop (i + 1) rules)) v ≡ all
  one_number done all has so_far =
      append_assoc done (i ∷ []) (allowing (speaking route (i + 1) (drop (i + 1) rules)) v)
      ∙ ap (λ xs. done ++ xs) (sym (numbers_next true has)) ∙ so_far

  pub no_number : (done all : List ℕ) → (speaks_of route r && allows r v) ≡ false → done ++ allowing (speaking route i (drop i rules)) v ≡ all
      → done ++ allowing (speaking route (i + 1) (drop (i + 1) rules)) v ≡ all
  no_number done all none so_far = ap (λ xs. done ++ xs) (sym (numbers_next false none)) ∙ so_far

-- ---- a number that none has

pub none_of : {A : Type 0} (xs : List A) (i : ℕ) → slice_get xs i ≡ None → i < length xs → ⊥
none_of [] i none lt = absurd (omega arith)
none_of (x ∷ xs) zero none lt = absurd cc
none_of (x ∷ xs) (suc i) none lt = none_of xs i none (omega arith)

-- ---- past the last one

-- where what is told of the items left stands after what was told so far, nothing is to come
pub past_all : {A B : Type 0} (tell : List A → List B) (xs : List A) (i : ℕ) (done all : List B) → tell [] ≡ [] → length xs ≤ i
    → done ++ tell (drop i xs) ≡ all → done ≡ all
past_all tell xs i done all none past so_far =
    sym (append-nil done) ∙ ap (λ rest. done ++ rest) (sym (at_drop_all tell xs i past ∙ none)) ∙ so_far
