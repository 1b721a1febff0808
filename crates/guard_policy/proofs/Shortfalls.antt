-- The allowing rules that fall short, gathered one by one.
use Rattle.std.proofs.Common.{◌≡◌, ℕ, ◌++◌, List, [], ◌∷◌, Bool, true, false, ◌||◌, ◌&&◌, cond, slice_get, Option, Some, None, refl, ap, sym, ◌∙◌, append_assoc, subst, inl, inr}
use Rattle.std.specs.Prelude.{IsTrue}
use Rattle.std.specs.List.{list_any}
use Rattle.guard_der.specs.Fits.{fits}
use Rattle.std.proofs.lemmas.List.{append-nil}
use Rattle.guard_model.specs.AbstractValue.{AbstractValue}
use Rattle.guard_eval.specs.Member.{is_member}
use Rattle.guard_eval.specs.Violations.{AbstractViolation, violation}
use Rattle.guard_policy.specs.Verdicts.{pass, not_allowed, no_rule}
use Rattle.guard_policy.specs.Policies.{AbstractRule, AbstractRoute}
use Rattle.guard_policy.specs.Decisions.{NumberedRule, speaks_of, is_allowing, allows, shortfalls, by_allowing}
use Rattle.guard_policy.specs.inside.Listings.{rules_at, heard, allowing_at}
use Rattle.guard_eval.proofs.Law.{type_clear, is_clear}
use Rattle.guard_model.proofs.Tests.{not_both}
use Rattle.std.proofs.lemmas.Bool.{and_parts}
use Rattle.std.proofs.lemmas.Option.{same_Some}

abbrev pub is_some_item : {A : Type 0} → List A → Bool
is_some_item [] = false
is_some_item (x ∷ xs) = true

abbrev pub some_allows : List NumberedRule → AbstractValue → Bool
some_allows rules v = list_any (λ r. allows r.rule v) rules

abbrev pub some_allowing : List NumberedRule → Bool
some_allowing rules = list_any (λ r. is_allowing r.rule) rules

-- None of the rules passed over allows the value; these shortfalls are theirs.
pub record Gathered (all left : List NumberedRule) (v : AbstractValue) (found : List (ℕ × AbstractViolation)) : Type 0 where
  pub allowed : some_allows left v ≡ some_allows all v
  pub found_all : found ++ shortfalls left v ≡ shortfalls all v
  pub allowing : (is_some_item found || some_allowing left) ≡ some_allowing all

pub Gathered-start : (all : List NumberedRule) (v : AbstractValue) → Gathered all all v []
Gathered-start all v = record { allowed = refl; found_all = refl; allowing = refl }

-- a rule that doesn't count is passed over
pub shortfalls-other : (r : NumberedRule) (rs : List NumberedRule) (v : AbstractValue) → is_allowing r.rule ≡ false → shortfalls (r ∷ rs) v ≡ shortfalls rs v
shortfalls-other r rs v e =
    elim (violation r.rule.ty v) as (λ x. elim x [ None ↦ shortfalls rs v | Some w ↦ cond (is_allowing r.rule) ((r.number, w) ∷ shortfalls rs v) (shortfalls rs v) ] ≡ shortfalls rs v) [
      | None ↦ refl
      | Some w ↦ rw e refl
    ]

pub passed_over : (all : List NumberedRule) (r : NumberedRule) (rs : List NumberedRule) (v : AbstractValue) (found : List (ℕ × AbstractViolation))
    → is_allowing r.rule ≡ false → Gathered all (r ∷ rs) v found → Gathered all rs v found
passed_over all r rs v found e g = record {
  allowed = subst (λ b. ((b && is_member r.rule.ty v) || some_allows rs v) ≡ some_allows all v) e g.allowed;
  found_all = ap (λ (s : List (ℕ × AbstractViolation)). found ++ s) (sym (shortfalls-other r rs v e)) ∙ g.found_all;
  allowing = subst (λ b. (is_some_item found || (b || some_allowing rs)) ≡ some_allowing all) e g.allowing;
}

is_some_item-append : {A : Type 0} (xs : List A) (x : A) → is_some_item (xs ++ x ∷ []) ≡ true
is_some_item-append [] x = refl
is_some_item-append (y ∷ xs) x = refl

or-true : (b : Bool) → (b || true) ≡ true
or-true true = refl
or-true false = refl

shortfalls-more : (r : NumberedRule) (rs : List NumberedRule) (v : AbstractValue) (w : AbstractViolation)
    → is_allowing r.rule ≡ true → violation r.rule.ty v ≡ Some w → shortfalls (r ∷ rs) v ≡ (r.number, w) ∷ shortfalls rs v
shortfalls-more r rs v w e h =
    ap (λ x. elim x [ None ↦ shortfalls rs v | Some u ↦ cond (is_allowing r.rule) ((r.number, u) ∷ shortfalls rs v) (shortfalls rs v) ]) h ∙ rw e refl

pub falls_short : (all : List NumberedRule) (r : NumberedRule) (rs : List NumberedRule) (v : AbstractValue) (found : List (ℕ × AbstractViolation)) (w : AbstractViolation)
    → is_allowing r.rule ≡ true → IsTrue (fits r.rule.ty v) → violation r.rule.ty v ≡ Some w → Gathered all (r ∷ rs) v found → Gathered all rs v (found ++ (r.number, w) ∷ [])
falls_short all r rs v found w e fitting h g =
    let outside : is_member r.rule.ty v ≡ false = sym (type_clear r.rule.ty v fitting) ∙ ap is_clear h in
    record {
      allowed = subst (λ b. ((b && false) || some_allows rs v) ≡ some_allows all v) e (subst (λ b. ((is_allowing r.rule && b) || some_allows rs v) ≡ some_allows all v) outside g.allowed);
      found_all = append_assoc found ((r.number, w) ∷ []) (shortfalls rs v) ∙ ap (λ (s : List (ℕ × AbstractViolation)). found ++ s) (sym (shortfalls-more r rs v w e h)) ∙ g.found_all;
      allowing = ap (λ b. b || some_allowing rs) (is_some_item-append found (r.number, w))
          ∙ sym (or-true (is_some_item found)) ∙ subst (λ b. (is_some_item found || (b || some_allowing rs)) ≡ some_allowing all) e g.allowing;
    }

pub passes : (all : List NumberedRule) (r : NumberedRule) (rs : List NumberedRule) (v : AbstractValue) (found : List (ℕ × AbstractViolation))
    → is_allowing r.rule ≡ true → IsTrue (fits r.rule.ty v) → violation r.rule.ty v ≡ None → Gathered all (r ∷ rs) v found → by_allowing all v ≡ pass
passes all r rs v found e fitting h g =
    let inside : is_member r.rule.ty v ≡ true = sym (type_clear r.rule.ty v fitting) ∙ ap is_clear h in
    let some : some_allows all v ≡ true = sym g.allowed ∙ ap (λ b. (b && is_member r.rule.ty v) || some_allows rs v) e ∙ ap (λ b. b || some_allows rs v) inside in
    rw some refl

pub none_allows : (all : List NumberedRule) (v : AbstractValue) (found : List (ℕ × AbstractViolation))
    → Gathered all [] v found → by_allowing all v ≡ cond (is_some_item found) (not_allowed found) no_rule
none_allows all v [] g = rw (← g.allowed, ← g.allowing) refl
none_allows all v (w ∷ ws) g = rw (← g.allowed, ← g.allowing, ← g.found_all) (ap not_allowed (append-nil (w ∷ ws)))

-- ---- rules by their numbers

not_taken : {A : Type 0} (b : Bool) (x : A) → cond b (Some x) None ≡ None → b ≡ false
not_taken true x e = absurd cc
not_taken false x e = refl

taken : {A : Type 0} (b : Bool) (x y : A) → cond b (Some x) None ≡ Some y → (b ≡ true) × (x ≡ y)
taken true x y e = (refl, same_Some x y e)
taken false x y e = absurd cc

-- what is at a number, in front of the others
abbrev in_front : ℕ → Option AbstractRule → List NumberedRule → List NumberedRule
in_front n o rest = elim o [ Some r ↦ record { number = n; rule = r } ∷ rest | None ↦ rest ]

abbrev allowing_among : AbstractRoute → Option AbstractRule → Option AbstractRule
allowing_among route o = elim o [ Some r ↦ cond (speaks_of route r && is_allowing r) (Some r) None | None ↦ None ]

heard-there : (route : AbstractRoute) (n : ℕ) (r : AbstractRule) (rest : List NumberedRule) → speaks_of route r ≡ true
    → heard route (record { number = n; rule = r } ∷ rest) ≡ record { number = n; rule = r } ∷ heard route rest
heard-there route n r rest e = ap (λ b. cond b (record { number = n; rule = r } ∷ heard route rest) (heard route rest)) e

heard-not : (route : AbstractRoute) (n : ℕ) (r : AbstractRule) (rest : List NumberedRule) → speaks_of route r ≡ false
    → heard route (record { number = n; rule = r } ∷ rest) ≡ heard route rest
heard-not route n r rest e = ap (λ b. cond b (record { number = n; rule = r } ∷ heard route rest) (heard route rest)) e

past : (all : List NumberedRule) (route : AbstractRoute) (v : AbstractValue) (found : List (ℕ × AbstractViolation)) (n : ℕ) (o : Option AbstractRule) (rest : List NumberedRule)
    → allowing_among route o ≡ None → Gathered all (heard route (in_front n o rest)) v found → Gathered all (heard route rest) v found
past all route v found n None rest e g = g
past all route v found n (Some r) rest e g =
    elim (not_both (speaks_of route r) (is_allowing r) (not_taken (speaks_of route r && is_allowing r) r e)) [
      | inl silent ↦ subst (λ (rs : List NumberedRule). Gathered all rs v found) (heard-not route n r rest silent) g
      | inr q ↦ passed_over all (record { number = n; rule = r }) (heard route rest) v found q.1
          (subst (λ (rs : List NumberedRule). Gathered all rs v found) (heard-there route n r rest q.0) g)
    ]

-- the rule has the number, speaks of the route and allows something
pub record Allowing (rules : List AbstractRule) (n : ℕ) (route : AbstractRoute) (r : AbstractRule) : Type 0 where
  pub stands : slice_get rules n ≡ Some r
  pub speaks : speaks_of route r ≡ true
  pub allowing : is_allowing r ≡ true

found_allowing : (rules : List AbstractRule) (n : ℕ) (route : AbstractRoute) (r : AbstractRule) (o : Option AbstractRule) → slice_get rules n ≡ o → allowing_among route o ≡ Some r → Allowing rules n route r
found_allowing rules n route r None is e = absurd cc
found_allowing rules n route r (Some x) is e =
    let q = taken (speaks_of route x && is_allowing x) x r e in
    let p = and_parts (speaks_of route x) (is_allowing x) q.0 in
    record { stands = is ∙ ap Some q.1; speaks = sym (ap (speaks_of route) q.1) ∙ p.0; allowing = sym (ap is_allowing q.1) ∙ p.1 }

pub is_allowing_there : (rules : List AbstractRule) (n : ℕ) (route : AbstractRoute) (r : AbstractRule) → allowing_at rules n route ≡ Some r → Allowing rules n route r
is_allowing_there rules n route r e = found_allowing rules n route r (slice_get rules n) refl e

heard_front : (rules : List AbstractRule) (n : ℕ) (ns : List ℕ) (route : AbstractRoute) (r : AbstractRule) → Allowing rules n route r
    → heard route (rules_at rules (n ∷ ns)) ≡ record { number = n; rule = r } ∷ heard route (rules_at rules ns)
heard_front rules n ns route r a =
    ap (λ (o : Option AbstractRule). heard route (in_front n o (rules_at rules ns))) a.stands ∙ heard-there route n r (rules_at rules ns) a.speaks

-- the loop goes on past a number at which nothing can allow
pub goes_on_past : (all : List NumberedRule) (rules : List AbstractRule) (route : AbstractRoute) (v : AbstractValue) (found : List (ℕ × AbstractViolation)) (left ns : List ℕ) (n : ℕ)
    → left ≡ n ∷ ns → allowing_at rules n route ≡ None
    → Gathered all (heard route (rules_at rules left)) v found → Gathered all (heard route (rules_at rules ns)) v found
goes_on_past all rules route v found left ns n is e g =
    past all route v found n (slice_get rules n) (rules_at rules ns) e (subst (λ (l : List ℕ). Gathered all (heard route (rules_at rules l)) v found) is g)

-- the loop keeps a shortfall
pub goes_on_with : (all : List NumberedRule) (rules : List AbstractRule) (route : AbstractRoute) (v : AbstractValue) (found : List (ℕ × AbstractViolation)) (left ns : List ℕ) (n : ℕ) (r : AbstractRule) (w : AbstractViolation)
    → left ≡ n ∷ ns → Allowing rules n route r → IsTrue (fits r.ty v) → violation r.ty v ≡ Some w
    → Gathered all (heard route (rules_at rules left)) v found → Gathered all (heard route (rules_at rules ns)) v (found ++ (n, w) ∷ [])
goes_on_with all rules route v found left ns n r w is a fitting h g =
    let here : Gathered all (heard route (rules_at rules (n ∷ ns))) v found = subst (λ (l : List ℕ). Gathered all (heard route (rules_at rules l)) v found) is g in
    falls_short all (record { number = n; rule = r }) (heard route (rules_at rules ns)) v found w a.allowing fitting h
    (subst (λ (rs : List NumberedRule). Gathered all rs v found) (heard_front rules n ns route r a) here)

-- the loop ends at a rule that allows
pub ends_with : (all : List NumberedRule) (rules : List AbstractRule) (route : AbstractRoute) (v : AbstractValue) (found : List (ℕ × AbstractViolation)) (left ns : List ℕ) (n : ℕ) (r : AbstractRule)
    → left ≡ n ∷ ns → Allowing rules n route r → IsTrue (fits r.ty v) → violation r.ty v ≡ None
    → Gathered all (heard route (rules_at rules left)) v found → by_allowing all v ≡ pass
ends_with all rules route v found left ns n r is a fitting h g =
    let here : Gathered all (heard route (rules_at rules (n ∷ ns))) v found = subst (λ (l : List ℕ). Gathered all (heard route (rules_at rules l)) v found) is g in
    passes all (record { number = n; rule = r }) (heard route (rules_at rules ns)) v found a.allowing fitting h
    (subst (λ (rs : List NumberedRule). Gathered all rs v found) (heard_front rules n ns route r a) here)
