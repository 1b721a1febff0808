-- Components that move, one after another, from those that are left to those that are finished.
use Rattle.std.proofs.Common.{◌≡◌, ℕ, zero, suc, ◌+◌, ◌≤◌, List, [], ◌∷◌, ◌++◌, Option, Some, None, Result, Ok, length}
use Rattle.std.proofs.Common.{map}
use Rattle.std.proofs.Common.{take, drop, refl, ap, sym, subst, ◌∙◌, append_assoc, arith}
use Rattle.std.specs.Prelude.{option_to_list}
use Rattle.std.proofs.lemmas.List.{map_push, append-nil, length-map}
use Rattle.guard_model.specs.AbstractType.{AbstractType}
use Rattle.guard_model.specs.TypeView.{OneComponent, component_view}
use Rattle.guard_model.specs.declared.ty.Comp.{Comp}
use Rattle.guard_syntax.specs.Trees.{WrittenPresence, WrittenType}
use Rattle.guard_constraints.specs.Visible.{Visible}
use Rattle.guard_schema.specs.declared.fault.SchemaFault.{SchemaFault}
use Rattle.guard_schema.specs.declared.finishing.Filling as code
use Rattle.guard_schema.specs.Outcomes.{Answers}
use Rattle.guard_schema.specs.Faults.{Outcome, named}
use Rattle.guard_schema.specs.inside.InTurn.{Filling, with_done, taken_over, FillsNext, FillsOne}
use Rattle.guard_schema.specs.inside.Ready.{IsReady, IsNext}
use Rattle.guard_schema.specs.Views.{filling_view}

abbrev pub shown : List OneComponent → List OneComponent → Filling
shown done left = record { done = done; left = left }

abbrev pub seen : List Comp → List Comp → Filling
seen done left = shown (map component_view done) (map component_view left)

-- ---- what is left, where one comes and where none does

pub one_left : (old new : List Comp) (o : Option Comp) (x : Comp) → old ≡ option_to_list o ++ new → o ≡ Some x
    → map component_view old ≡ component_view x ∷ map component_view new
one_left old new o x e is = ap (map component_view) (e ∙ ap (λ (p : Option Comp). option_to_list p ++ new) is)

pub same_left : (old new : List Comp) (o : Option Comp) → old ≡ option_to_list o ++ new → o ≡ None → old ≡ new
same_left old new o e is = e ∙ ap (λ (p : Option Comp). option_to_list p ++ new) is

pub none_left : (old new : List Comp) (o : Option Comp) → old ≡ option_to_list o ++ new → o ≡ None → new ≡ drop 1 old
    → old ≡ []
none_left old new o e is rest = same_rest old (same_left old new o e is ∙ rest)
  where
    same_rest : (xs : List Comp) → xs ≡ drop 1 xs → xs ≡ []
    same_rest [] h = refl
    same_rest (x ∷ xs) h = let same : suc (length xs) ≡ length xs =
        ap (λ (ys : List Comp). length ys) h in absurd (omega (arith, same))

-- one is left where one is next
pub never_none : (old new : List Comp) (o : Option Comp) → old ≡ option_to_list o ++ new → o ≡ None → new ≡ drop 1 old
    → (c : OneComponent) (after : List OneComponent) → map component_view old ≡ c ∷ after → ⊥
never_none old new o e is rest c after next =
    differ (sym (ap (map component_view) (none_left old new o e is rest)) ∙ next)
  where
    differ : [] ≡ c ∷ after → ⊥
    differ h = cc

pub never_empty : (old new : List Comp) (o : Option Comp) → old ≡ option_to_list o ++ new → o ≡ None → new ≡ drop 1 old
    → 1 ≤ length old → ⊥
never_empty old new o e is rest enough =
    let none : length old ≡ 0 = ap (λ (xs : List Comp). length xs) (none_left old new o e is rest) in
    omega (arith, none, enough)

-- ---- one more that is finished

pub one_done : (done more left : List Comp) (x : Comp) → more ≡ done ++ x ∷ []
    → seen more left ≡ with_done (component_view x) (seen done left)
one_done done more left x e = ap (λ (xs : List OneComponent). shown xs (map component_view left))
    (ap (map component_view) e ∙ map_push component_view done x)

module _ (names : Visible) (Finish : AbstractType → Outcome AbstractType → Type 0)
    (presence : WrittenPresence) (done old new : List Comp) (o : Option Comp) (e : old ≡ option_to_list o ++ new) where
  pub next_filled : (x : Comp) → o ≡ Some x → (result : Result code.Filling SchemaFault)
      → Answers filling_view named result (FillsOne names Finish presence (component_view x) (seen done new))
      → Answers filling_view named result (FillsNext names Finish presence (map component_view done)
      (map component_view old))
  next_filled x is result h =
      subst (λ (xs : List OneComponent). Answers filling_view named result
      (FillsNext names Finish presence (map component_view done) xs)) (sym (one_left old new o x e is)) h

-- the next one is ready
pub next_ready : (names : Visible) (w : WrittenType) (old new : List Comp) (o : Option Comp) (x : Comp)
    → old ≡ option_to_list o ++ new → o ≡ Some x → IsNext names w (map component_view old)
    → IsReady names w (component_view x).ty
next_ready names w old new o x e is (c, after, l, ready) =
    subst (λ (d : OneComponent). IsReady names w d.ty) (same c (component_view x) after (map component_view new)
    (sym l ∙ one_left old new o x e is)) ready
  where
    same : (a b : OneComponent) (xs ys : List OneComponent) → a ∷ xs ≡ b ∷ ys → a ≡ b
    same a b xs ys h = cc

-- ---- one that needs nothing

module _ (done old new : List Comp) (o : Option Comp) (e : old ≡ option_to_list o ++ new) where
  pub one_moves : (x : Comp) → o ≡ Some x → with_done (component_view x) (seen done new) ≡ taken_over 1 (seen done old)
  one_moves x is = ap (λ (xs : List OneComponent). taken_over 1 (shown (map component_view done) xs))
      (sym (one_left old new o x e is))

-- ---- several that need nothing

take_after : (i : ℕ) (xs : List OneComponent) → take i xs ++ take 1 (drop i xs) ≡ take (suc i) xs
take_after zero xs = refl
take_after (suc i) [] = refl
take_after (suc i) (x ∷ xs) = ap (λ (ys : List OneComponent). x ∷ ys) (take_after i xs)

drop_after : (i : ℕ) (xs : List OneComponent) → drop 1 (drop i xs) ≡ drop (suc i) xs
drop_after zero xs = refl
drop_after (suc i) [] = refl
drop_after (suc i) (x ∷ xs) = drop_after i xs

both : (a b c d : List OneComponent) → a ≡ b → c ≡ d → shown a c ≡ shown b d
both a b c d e f = ap (λ (x : List OneComponent). shown x c) e ∙ ap (λ (y : List OneComponent). shown b y) f

pub none_yet : (start : Filling) → start ≡ taken_over 0 start
none_yet start = ap (λ (ws : List OneComponent). shown ws start.left) (sym (append-nil start.done))

pub taken_over_more : (i : ℕ) (start : Filling) → taken_over 1 (taken_over i start) ≡ taken_over (i + 1) start
taken_over_more i start =
    let next : suc i ≡ i + 1 = omega arith in
    both ((start.done ++ take i start.left) ++ take 1 (drop i start.left)) (start.done ++ take (suc i) start.left)
    (drop 1 (drop i start.left)) (drop (suc i) start.left)
    (append_assoc start.done (take i start.left) (take 1 (drop i start.left))
    ∙ ap (λ (ws : List OneComponent). start.done ++ ws) (take_after i start.left))
    (drop_after i start.left)
    ∙ ap (λ (n : ℕ). taken_over n start) next

-- where fewer were taken over than there were, one is left
pub one_more_left : (i : ℕ) (start left : List Comp) → map component_view left ≡ drop i (map component_view start)
    → i + 1 ≤ length start → 1 ≤ length left
one_more_left i start left e few =
    let many = length-map left component_view in
    let all = length-map start component_view in
    let same = ap (λ (xs : List OneComponent). length xs) e in
    let some = some_left i (map component_view start) (omega (arith, few, all)) in
    omega (arith, many, same, some)
  where
    some_left : (n : ℕ) (xs : List OneComponent) → n + 1 ≤ length xs → 1 ≤ length (drop n xs)
    some_left zero xs h = omega (arith, h)
    some_left (suc n) [] h = absurd (omega (arith, h))
    some_left (suc n) (x ∷ xs) h = some_left n xs (omega (arith, h))
