-- Constraints one after the other, and an alternative of a union at its place.
use Rattle.std.proofs.Common.{◌≡◌, ℕ, zero, suc, ◌+◌, ◌<◌, ◌≤◌, Bool, true, false, ◌&&◌, ◌||◌, List, [], ◌∷◌, length, drop, get_or, Option, Some, None, Bor, MatchOption, refl, sym, ap, ◌∙◌, arith}
use Rattle.std.specs.List.{HoldsAt}
use Rattle.std.specs.Option.{is_none}
use Rattle.std.proofs.lemmas.List.{at_drop_more}
use Rattle.std.proofs.lemmas.Option.{same_Some}
use Rattle.guard_model.specs.AbstractType.{AbstractKind}
use Rattle.guard_model.specs.AbstractValue.{AbstractValue}
use Rattle.guard_model.specs.TypeView.{constraint_view}
use Rattle.guard_model.specs.declared.ty.Cons.{Cons}
use Rattle.guard_eval.specs.inside.Failures.{failure_by, first_failure, some_allows}
use Rattle.guard_eval.proofs.Law.{clear_either}
use Rattle.guard_eval.proofs.WholeSets.{rest_of}

pub constraint_next : (cs : List Cons) (i : ℕ) (c : Cons) → i < length cs → c ≡ get_or cs i c → (kind : AbstractKind) (v : AbstractValue)
    → is_none (first_failure (rest_of (drop i cs)) kind v) ≡ (is_none (failure_by (constraint_view c) kind v) && is_none (first_failure (rest_of (drop (i + 1) cs)) kind v))
constraint_next cs i c lt is kind v =
    ap is_none (at_drop_more (λ (ds : List Cons). first_failure (rest_of ds) kind v) cs i c lt ∙ ap (λ (d : Cons). first_failure (rest_of (d ∷ drop (i + 1) cs)) kind v) (sym is))
    ∙ clear_either (failure_by (constraint_view c) kind v) (first_failure (rest_of (drop (i + 1) cs)) kind v)

or_true : (a : Bool) → (a || true) ≡ true
or_true true = refl
or_true false = refl

some_at : (cs : List Cons) (i : ℕ) (c : Cons) → i < length cs → c ≡ get_or cs i c → (kind : AbstractKind) (v : AbstractValue) → is_none (failure_by (constraint_view c) kind v) ≡ true → some_allows (rest_of cs) kind v ≡ true
some_at [] i c lt is kind v h = absurd (omega arith)
some_at (d ∷ cs) zero c lt is kind v h =
    ap (λ (x : Cons). is_none (failure_by (constraint_view x) kind v) || some_allows (rest_of cs) kind v) (sym is) ∙ ap (λ (b : Bool). b || some_allows (rest_of cs) kind v) h
some_at (d ∷ cs) (suc i) c lt is kind v h =
    ap (λ (b : Bool). is_none (failure_by (constraint_view d) kind v) || b) (some_at cs i c (omega arith) is kind v h) ∙ or_true (is_none (failure_by (constraint_view d) kind v))

-- as `get` finds it
pub found_allows : (found : Option (Bor Cons)) (cs : List Cons) (i : ℕ) (c : Bor Cons) → MatchOption found (length cs ≤ i) (λ c. (i < length cs) × HoldsAt (λ d. c.now ≡ d) cs i) → found ≡ Some c
    → (kind : AbstractKind) (v : AbstractValue) → is_none (failure_by (constraint_view c.now) kind v) ≡ true → some_allows (rest_of cs) kind v ≡ true
found_allows None cs i c at is kind v h = absurd cc
found_allows (Some d) cs i c at is kind v h =
    some_at cs i d.now at.0 (at.1 d.now) kind v (ap (λ (x : Bor Cons). is_none (failure_by (constraint_view x.now) kind v)) (same_Some _ _ is) ∙ h)
