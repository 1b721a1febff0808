-- What goes, and the reason why something else doesn't.
use Rattle.std.specs.Prelude.{◌≡◌, ℕ, ◌+◌, Bool, true, false, not, ◌&&◌, List, [], ◌∷◌, Option, Some, None, IsTrue, ◌⊎◌, if◌then◌else◌}
use Rattle.std.specs.List.{list_any, list_all}
use Rattle.std.specs.Str.{bytes_eq}
use Rattle.guard_model.specs.AbstractType.{AbstractType}
use Rattle.guard_model.specs.AbstractValue.{AbstractValue}
use Rattle.guard_der.specs.Der.{der}
use Rattle.guard_der.specs.Fits.{fits}
use Rattle.guard_der.specs.Breach.{AbstractBreach, IsBreach}
use Rattle.guard_policy.specs.declared.policy.Effect.{Effect}
use Rattle.guard_policy.specs.declared.policy.Effect.TheVariants.{Allow, Deny}
use Rattle.guard_eval.specs.Member.{is_member}
use Rattle.guard_eval.specs.Violations.{AbstractViolation, violation}
use Rattle.guard_policy.specs.Names.{is_meant}
use Rattle.guard_policy.specs.Policies.{AbstractPolicy, AbstractRule, AbstractRoute, declared_type}
use Rattle.guard_policy.specs.Verdicts.{AbstractVerdict, pass, unknown_message, undecodable, outside_type, denied_by, not_allowed, no_rule}

-- a rule with its number in the policy
pub record NumberedRule : Type 0 where
  pub number : ℕ
  pub rule : AbstractRule

-- The rule speaks of this sender, receiver and message. A route's own sender or receiver `*` is no other's: only a rule
-- for `*` speaks of it.
abbrev pub speaks_of : AbstractRoute → AbstractRule → Bool
speaks_of route r = is_meant r.from route.from && is_meant r.to route.to && bytes_eq r.message route.message

-- those of the rules that speak of the route, in order; the first of the list has this number
abbrev pub speaking : AbstractRoute → ℕ → List AbstractRule → List NumberedRule
speaking route i [] = []
speaking route i (r ∷ rs) =
    if speaks_of route r then record { number = i; rule = r } ∷ speaking route (i + 1) rs else speaking route (i + 1) rs

-- a route's rules, in file order
abbrev pub rules_of : AbstractPolicy → AbstractRoute → List NumberedRule
rules_of p route = speaking route 0 p.rules

abbrev pub is_allow : Effect → Bool
is_allow Allow = true
is_allow Deny = false

abbrev pub is_allowing : AbstractRule → Bool
is_allowing r = is_allow r.effect

-- The rule allows the value: it is a member of an allowing rule's type. In the same way it denies it.
abbrev pub allows : AbstractRule → AbstractValue → Bool
allows r v = is_allowing r && is_member r.ty v

abbrev pub denies : AbstractRule → AbstractValue → Bool
denies r v = not (is_allowing r) && is_member r.ty v

-- The message is the encoding of a value of its declared type that some rule of the route allows and none denies.
abbrev pub Goes : AbstractPolicy → AbstractRoute → List ℕ → Type 0
Goes p route octets =
    (t : AbstractType) × (v : AbstractValue)
    × (declared_type p route.message ≡ Some t)
    × IsTrue (fits t v) × (der t v ≡ Some octets)
    × IsTrue (is_member t v)
    × IsTrue (list_any (λ r. allows r.rule v) (rules_of p route))
    × IsTrue (list_all (λ r. not (denies r.rule v)) (rules_of p route))

-- the number of the first rule that passes a test
abbrev pub first_where : (AbstractRule → Bool) → List NumberedRule → Option ℕ
first_where test [] = None
first_where test (r ∷ rs) = if test r.rule then Some r.number else first_where test rs

-- the number of the first rule that denies the value
abbrev pub first_denying : List NumberedRule → AbstractValue → Option ℕ
first_denying rules v = first_where (λ r. denies r v) rules

-- the number of the first rule that allows the value
abbrev pub first_allowing : List NumberedRule → AbstractValue → Option ℕ
first_allowing rules v = first_where (λ r. allows r v) rules

-- each allowing rule with its first violation
abbrev pub shortfalls : List NumberedRule → AbstractValue → List (ℕ × AbstractViolation)
shortfalls [] v = []
shortfalls (r ∷ rs) v = elim (violation r.rule.ty v) [
  | None ↦ shortfalls rs v
  | Some w ↦ if is_allowing r.rule then (r.number, w) ∷ shortfalls rs v else shortfalls rs v
]

-- the verdict of allowing rules, where none denies the value
abbrev pub by_allowing : List NumberedRule → AbstractValue → AbstractVerdict
by_allowing rules v =
    if list_any (λ r. allows r.rule v) rules then pass
    else if list_any (λ r. is_allowing r.rule) rules then not_allowed (shortfalls rules v)
    else no_rule

abbrev pub by_rules : List NumberedRule → AbstractValue → AbstractVerdict
by_rules rules v = elim (first_denying rules v) [ Some i ↦ denied_by i | None ↦ by_allowing rules v ]

-- the verdict on a value of the declared type
abbrev pub judged : AbstractType → List NumberedRule → AbstractValue → AbstractVerdict
judged t rules v = elim (violation t v) [ Some w ↦ outside_type w | None ↦ by_rules rules v ]

-- The reason where the message has this declared type: the octets break the encoding rules, or are the encoding of a
-- value that is judged.
abbrev pub DeclaredReason : AbstractType → List NumberedRule → List ℕ → AbstractVerdict → Type 0
DeclaredReason t rules octets w =
    ((b : AbstractBreach) × IsBreach t octets b × (w ≡ undecodable b))
    ⊎ ((v : AbstractValue) × IsTrue (fits t v) × (der t v ≡ Some octets) × (w ≡ judged t rules v))

-- The verdict is the first that holds.
abbrev pub IsReason : AbstractPolicy → AbstractRoute → List ℕ → AbstractVerdict → Type 0
IsReason p route octets w =
    ((declared_type p route.message ≡ None) × (w ≡ unknown_message))
    ⊎ ((t : AbstractType) × (declared_type p route.message ≡ Some t) × DeclaredReason t (rules_of p route) octets w)
