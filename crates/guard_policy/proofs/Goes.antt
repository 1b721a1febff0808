-- The reason is to pass exactly where the message goes.
use Rattle.std.proofs.Common.{◌≡◌, ℕ, List, [], ◌∷◌, Bool, true, false, ◌&&◌, ◌||◌, not, cond, Option, Some, None, refl, ap, sym, ◌∙◌, inl, inr}
use Rattle.std.specs.Prelude.{IsTrue}
use Rattle.std.specs.List.{list_all}
use Rattle.guard_der.specs.Fits.{fits}
use Rattle.guard_model.specs.AbstractType.{AbstractType}
use Rattle.guard_model.specs.AbstractValue.{AbstractValue}
use Rattle.guard_eval.specs.Member.{is_member}
use Rattle.guard_eval.specs.Violations.{AbstractViolation, violation}
use Rattle.guard_policy.specs.Verdicts.{AbstractVerdict, pass, outside_type, denied_by, not_allowed, no_rule}
use Rattle.guard_policy.specs.Policies.{AbstractPolicy, AbstractRoute}
use Rattle.guard_policy.specs.Decisions.{NumberedRule, is_allowing, denies, rules_of, first_denying, shortfalls, by_allowing, by_rules, judged, IsReason, Goes}
use Rattle.guard_eval.proofs.Law.{type_clear, is_clear}
use Rattle.guard_policy.proofs.Shortfalls.{some_allows, some_allowing}

none_denies : List NumberedRule → AbstractValue → Bool
none_denies rules v = list_all (λ r. not (denies r.rule v)) rules

is_no_number : Option ℕ → Bool
is_no_number None = true
is_no_number (Some i) = false

none_of : (x : Option AbstractViolation) → is_clear x ≡ true → x ≡ None
none_of None e = refl
none_of (Some w) e = absurd cc

no_number_of : (x : Option ℕ) → is_no_number x ≡ true → x ≡ None
unfolding is_no_number
no_number_of None e = refl
no_number_of (Some i) e = absurd cc

none_denies-first : (rules : List NumberedRule) (v : AbstractValue) → none_denies rules v ≡ is_no_number (first_denying rules v)
unfolding none_denies is_no_number
none_denies-first [] v = refl
none_denies-first (r ∷ rs) v =
    elim (denies r.rule v) as (λ b. (not b && none_denies rs v) ≡ is_no_number (cond b (Some r.number) (first_denying rs v))) [
      | true ↦ refl
      | false ↦ none_denies-first rs v
    ]

inside : (x : Option AbstractViolation) (k : AbstractVerdict) → (elim x [ Some w ↦ outside_type w | None ↦ k ]) ≡ pass → (x ≡ None) × (k ≡ pass)
inside None k e = (refl, e)
inside (Some w) k e = absurd cc

undenied : (x : Option ℕ) (k : AbstractVerdict) → (elim x [ Some i ↦ denied_by i | None ↦ k ]) ≡ pass → (x ≡ None) × (k ≡ pass)
undenied None k e = (refl, e)
undenied (Some i) k e = absurd cc

allowed : (b c : Bool) (found : List (ℕ × AbstractViolation)) → cond b pass (cond c (not_allowed found) no_rule) ≡ pass → b ≡ true
allowed true c found e = refl
allowed false true found e = absurd cc
allowed false false found e = absurd cc

-- what a value that passes is
record Passes (t : AbstractType) (rules : List NumberedRule) (v : AbstractValue) : Type 0 where
  is_inside : is_member t v ≡ true
  is_allowed : some_allows rules v ≡ true
  is_undenied : none_denies rules v ≡ true

judged_pass : (t : AbstractType) (rules : List NumberedRule) (v : AbstractValue) → IsTrue (fits t v) → judged t rules v ≡ pass → Passes t rules v
unfolding is_no_number
judged_pass t rules v fitting e =
    let a = inside (violation t v) (by_rules rules v) e in
    let b = undenied (first_denying rules v) (by_allowing rules v) a.1 in
    record {
      is_inside = sym (type_clear t v fitting) ∙ ap is_clear a.0;
      is_allowed = allowed (some_allows rules v) (some_allowing rules) (shortfalls rules v) b.1;
      is_undenied = none_denies-first rules v ∙ ap is_no_number b.0;
    }

-- what becomes of a member of the type that no rule denies is up to the allowing rules
pub judged_undenied : (t : AbstractType) (rules : List NumberedRule) (v : AbstractValue) → IsTrue (fits t v) → is_member t v ≡ true → list_all (λ r. not (denies r.rule v)) rules ≡ true
    → judged t rules v ≡ by_allowing rules v
unfolding is_no_number none_denies
judged_undenied t rules v fitting is_in undenied =
    let a : violation t v ≡ None = none_of (violation t v) (type_clear t v fitting ∙ is_in) in
    let b : first_denying rules v ≡ None = no_number_of (first_denying rules v) (sym (none_denies-first rules v) ∙ undenied) in
    ap (λ x. elim x [ Some w ↦ outside_type w | None ↦ by_rules rules v ]) a
    ∙ ap (λ x. elim x [ Some i ↦ denied_by i | None ↦ by_allowing rules v ]) b

-- and one that a rule denies is denied by the first
pub judged_denied : (t : AbstractType) (rules : List NumberedRule) (v : AbstractValue) (i : ℕ) → IsTrue (fits t v) → is_member t v ≡ true → first_denying rules v ≡ Some i → judged t rules v ≡ denied_by i
judged_denied t rules v i fitting is_in first =
    let a : violation t v ≡ None = none_of (violation t v) (type_clear t v fitting ∙ is_in) in
    ap (λ x. elim x [ Some w ↦ outside_type w | None ↦ by_rules rules v ]) a
    ∙ ap (λ x. elim x [ Some i ↦ denied_by i | None ↦ by_allowing rules v ]) first

passes_judged : (t : AbstractType) (rules : List NumberedRule) (v : AbstractValue) → IsTrue (fits t v) → Passes t rules v → judged t rules v ≡ pass
unfolding none_denies
passes_judged t rules v fitting p =
    judged_undenied t rules v fitting p.is_inside p.is_undenied
    ∙ ap (λ x. cond x pass (cond (some_allowing rules) (not_allowed (shortfalls rules v)) no_rule)) p.is_allowed

-- ---- where no rule allows anything

none_allows : (rules : List NumberedRule) (v : AbstractValue) → some_allowing rules ≡ false → some_allows rules v ≡ false
none_allows [] v e = refl
none_allows (r ∷ rs) v e =
    (elim (is_allowing r.rule) as (λ b. (b || some_allowing rs) ≡ false → ((b && is_member r.rule.ty v) || some_allows rs v) ≡ false) [
      | true ↦ λ is. absurd cc
      | false ↦ λ is. none_allows rs v is
    ]) e

pub nothing_allows : (rules : List NumberedRule) (v : AbstractValue) → some_allowing rules ≡ false → by_allowing rules v ≡ no_rule
nothing_allows rules v e =
    ap (λ x. cond x pass (cond (some_allowing rules) (not_allowed (shortfalls rules v)) no_rule)) (none_allows rules v e)
    ∙ ap (λ x. cond x (not_allowed (shortfalls rules v)) no_rule) e

-- with an allowing rule, but none that has the value, each of them falls short
pub none_allowed : (rules : List NumberedRule) (v : AbstractValue) → some_allows rules v ≡ false → some_allowing rules ≡ true → by_allowing rules v ≡ not_allowed (shortfalls rules v)
none_allowed rules v none some =
    ap (λ x. cond x pass (cond (some_allowing rules) (not_allowed (shortfalls rules v)) no_rule)) none
    ∙ ap (λ x. cond x (not_allowed (shortfalls rules v)) no_rule) some

-- ---- that verdict is up to the allowing rules

no_violation : (x : Option AbstractViolation) (k : AbstractVerdict) (found : List (ℕ × AbstractViolation))
    → (elim x [ Some w ↦ outside_type w | None ↦ k ]) ≡ not_allowed found → (elim x [ Some w ↦ outside_type w | None ↦ k ]) ≡ k
no_violation None k found e = refl
no_violation (Some w) k found e = absurd cc

no_denial : (x : Option ℕ) (k : AbstractVerdict) (found : List (ℕ × AbstractViolation))
    → (elim x [ Some i ↦ denied_by i | None ↦ k ]) ≡ not_allowed found → (elim x [ Some i ↦ denied_by i | None ↦ k ]) ≡ k
no_denial None k found e = refl
no_denial (Some i) k found e = absurd cc

pub judged_unallowed : (t : AbstractType) (rules : List NumberedRule) (v : AbstractValue) (found : List (ℕ × AbstractViolation)) → judged t rules v ≡ not_allowed found
    → judged t rules v ≡ by_allowing rules v
judged_unallowed t rules v found e =
    let inside_it = no_violation (violation t v) (by_rules rules v) found e in
    inside_it ∙ no_denial (first_denying rules v) (by_allowing rules v) found (sym inside_it ∙ e)

pub passes_from_goes : (p : AbstractPolicy) (route : AbstractRoute) (octets : List ℕ) → Goes p route octets → IsReason p route octets pass
unfolding none_denies
passes_from_goes p route octets (t, v, declared, fitting, encoded, is_in, some, none) =
    let q : Passes t (rules_of p route) v = record { is_inside = is_in; is_allowed = some; is_undenied = none } in
    inr (t, declared, inr (v, fitting, encoded, sym (passes_judged t (rules_of p route) v fitting q)))

pub goes_from_passes : (p : AbstractPolicy) (route : AbstractRoute) (octets : List ℕ) → IsReason p route octets pass → Goes p route octets
unfolding none_denies
goes_from_passes p route octets (inl x) = absurd (let e = x.1 in cc)
goes_from_passes p route octets (inr (t, declared, inl (b, broken, e))) = absurd cc
goes_from_passes p route octets (inr (t, declared, inr (v, fitting, encoded, e))) =
    let q = judged_pass t (rules_of p route) v fitting (sym e) in
    (t, v, declared, fitting, encoded, q.is_inside, q.is_allowed, q.is_undenied)
