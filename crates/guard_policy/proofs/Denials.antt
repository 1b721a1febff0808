-- The first rule that denies a value, looked for number by number.
use Rattle.std.proofs.Common.{◌≡◌, ℕ, List, ◌∷◌, Bool, true, false, ◌&&◌, cond, slice_get, Option, Some, None, refl, ap, sym, ◌∙◌}
use Rattle.guard_model.specs.AbstractValue.{AbstractValue}
use Rattle.guard_policy.specs.Policies.{AbstractRule, AbstractRoute}
use Rattle.guard_policy.specs.Decisions.{NumberedRule, speaks_of, denies, first_denying}
use Rattle.guard_policy.specs.inside.Listings.{rules_at, heard, denies_at}

-- the first one of a list whose first rule speaks of the route or doesn't, and denies the value or doesn't
by_tests : (speaks denying : Bool) (here there : Option ℕ) → cond speaks (cond denying here there) there ≡ cond (speaks && denying) here there
by_tests true denying here there = refl
by_tests false denying here there = refl

heard_first : (route : AbstractRoute) (v : AbstractValue) (n : ℕ) (r : AbstractRule) (rest : List NumberedRule)
    → first_denying (heard route (record { number = n; rule = r } ∷ rest)) v ≡ cond (speaks_of route r && denies r v) (Some n) (first_denying (heard route rest) v)
heard_first route v n r rest =
    (elim (speaks_of route r) as (λ (b : Bool). first_denying (cond b (record { number = n; rule = r } ∷ heard route rest) (heard route rest)) v
    ≡ cond b (cond (denies r v) (Some n) (first_denying (heard route rest) v)) (first_denying (heard route rest) v)) [ true ↦ refl | false ↦ refl ])
    ∙ by_tests (speaks_of route r) (denies r v) (Some n) (first_denying (heard route rest) v)

at_front : (route : AbstractRoute) (v : AbstractValue) (n : ℕ) (o : Option AbstractRule) (rest : List NumberedRule)
    → first_denying (heard route (elim o [ Some r ↦ record { number = n; rule = r } ∷ rest | None ↦ rest ])) v
    ≡ cond (elim o [ Some r ↦ speaks_of route r && denies r v | None ↦ false ]) (Some n) (first_denying (heard route rest) v)
at_front route v n None rest = refl
at_front route v n (Some r) rest = heard_first route v n r rest

first_at : (rules : List AbstractRule) (route : AbstractRoute) (v : AbstractValue) (n : ℕ) (ns : List ℕ)
    → first_denying (heard route (rules_at rules (n ∷ ns))) v ≡ cond (denies_at rules n route v) (Some n) (first_denying (heard route (rules_at rules ns)) v)
first_at rules route v n ns = at_front route v n (slice_get rules n) (rules_at rules ns)

-- the number that denies is the first, where none before it does
pub found_first : (rules : List AbstractRule) (route : AbstractRoute) (v : AbstractValue) (left ns : List ℕ) (n : ℕ) (all : Option ℕ) → left ≡ n ∷ ns → denies_at rules n route v ≡ true
    → first_denying (heard route (rules_at rules left)) v ≡ all → Some n ≡ all
found_first rules route v left ns n all is e so_far =
    sym (ap (λ (l : List ℕ). first_denying (heard route (rules_at rules l)) v) is ∙ first_at rules route v n ns
    ∙ ap (λ b. cond b (Some n) (first_denying (heard route (rules_at rules ns)) v)) e) ∙ so_far

-- else the search goes on
pub searched_on : (rules : List AbstractRule) (route : AbstractRoute) (v : AbstractValue) (left ns : List ℕ) (n : ℕ) (all : Option ℕ) → left ≡ n ∷ ns → denies_at rules n route v ≡ false
    → first_denying (heard route (rules_at rules left)) v ≡ all → first_denying (heard route (rules_at rules ns)) v ≡ all
searched_on rules route v left ns n all is e so_far =
    sym (ap (λ (l : List ℕ). first_denying (heard route (rules_at rules l)) v) is ∙ first_at rules route v n ns
    ∙ ap (λ b. cond b (Some n) (first_denying (heard route (rules_at rules ns)) v)) e) ∙ so_far

-- what is at a number
pub denies_there : (rules : List AbstractRule) (route : AbstractRoute) (v : AbstractValue) (n : ℕ) (r : AbstractRule) → slice_get rules n ≡ Some r → denies_at rules n route v ≡ (speaks_of route r && denies r v)
denies_there rules route v n r is = ap (λ (o : Option AbstractRule). elim o [ Some x ↦ speaks_of route x && denies x v | None ↦ false ]) is

pub denies_nowhere : (rules : List AbstractRule) (route : AbstractRoute) (v : AbstractValue) (n : ℕ) → slice_get rules n ≡ None → denies_at rules n route v ≡ false
denies_nowhere rules route v n is = ap (λ (o : Option AbstractRule). elim o [ Some x ↦ speaks_of route x && denies x v | None ↦ false ]) is
