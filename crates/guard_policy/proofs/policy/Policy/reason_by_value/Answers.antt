use Rattle.std.proofs.Common.{◌≡◌, ℕ, List, Option, Some, option_map, ap, ◌∙◌, inl, inr, refl}
use Rattle.guard_model.specs.AbstractType.{AbstractType}
use Rattle.guard_model.specs.TypeView.{type_view}
use Rattle.guard_model.specs.ValueView.{value_view}
use Rattle.guard_der.specs.Views.{breach_view}
use Rattle.guard_tables.specs.TableView.{declared_of}
use Rattle.guard_policy.specs.Policies.{AbstractPolicy, declared_type}
use Rattle.guard_policy.specs.inside.Listings.{rules_at, heard, numbers_for}
use Rattle.guard_policy.specs.PolicyView.{policy_view, route_view}
use Rattle.guard_policy.specs.Verdicts.{verdict_view}
use Rattle.guard_policy.specs.Decisions.{NumberedRule, judged, IsReason}
use Rattle.guard_policy.proofs.Applicable.{applicable_from_consistent}
use Rattle.guard_policy.proofs.Listed.{with_numbers, declared_pair, heard_listed}
use Rattle.guard_policy.proofs.OneReason.{up_to_allowing}
use Rattle.guard_policy.proofs.Reasons.{if_ok_map}
use Rattle.guard_policy.proofs.policy.Policy.reason_by_value.Goals as goal

-- the type that was found is the declared one, and the numbers are those of the message's rules
there : (p : AbstractPolicy) (name : List ℕ) (t u : AbstractType) (numbers : List ℕ) → t ≡ u
    → ◌≡◌ {A = Option (AbstractType × List ℕ)} (Some (u, numbers)) (option_map (with_numbers p.rules name) (declared_type p name))
    → (declared_type p name ≡ Some t) × (numbers ≡ numbers_for name 0 p.rules)
there p name t u numbers is listed =
    declared_pair p.rules name (declared_type p name) t numbers (ap (λ (x : AbstractType). Some (x, numbers)) is ∙ listed)

pub judge-requires-clause-rules_applicable : goal.judge-requires-clause-rules_applicable
judge-requires-clause-rules_applicable c =
    let p = policy_view c.args.self.now in
    let route = route_view c.args.route.now in
    applicable_from_consistent p.messages p.rules route (type_view c.declared-ty.result.now) (value_view c.in-Ok.value) c.args.self.now.kept.consistent
    (there p route.message _ _ c.in-Some.numbers.now (c.declared-ty.ensures.declared ∙ ap declared_of c.deref.ensures) c.in-Some.ensures.listed).0 c.in-Ok.ensures.decoded.0

pub judge-requires-clause-unallowed : goal.judge-requires-clause-unallowed
judge-requires-clause-unallowed c = λ is.
    let p = policy_view c.args.self.now in
    let route = route_view c.args.route.now in
    let t = type_view c.declared-ty.result.now in
    let declared = there p route.message t _ c.in-Some.numbers.now (c.declared-ty.ensures.declared ∙ ap declared_of c.deref.ensures) c.in-Some.ensures.listed in
    up_to_allowing p route c.args.octets.now t (value_view c.in-Ok.value) (heard route (rules_at p.rules c.in-Some.numbers.now)) c.args.self.now.kept.consistent
    declared.0 c.in-Ok.ensures.decoded.0 c.in-Ok.ensures.decoded.1 (heard_listed route p.rules c.in-Some.numbers.now declared.1) (c.requires is)

pub returns-in-Ok : goal.returns-in-Ok
returns-in-Ok c =
    let p = policy_view c.args.self.now in
    let route = route_view c.args.route.now in
    let t = type_view c.declared-ty.result.now in
    let v = value_view c.in-Ok.value in
    let numbers = c.in-Some.numbers.now in
    let declared = there p route.message t _ numbers (c.declared-ty.ensures.declared ∙ ap declared_of c.deref.ensures) c.in-Some.ensures.listed in
    if_ok_map (λ x. verdict_view x ≡ judged t (heard route (rules_at p.rules numbers)) v) (λ x. IsReason p route c.args.octets.now (verdict_view x)) c.judge.result
    (λ x e. inr (
      t,
      declared.0,
      inr (
        v,
        c.in-Ok.ensures.decoded.0,
        c.in-Ok.ensures.decoded.1,
        e ∙ ap (λ (rs : List NumberedRule). judged t rs v) (heard_listed route p.rules numbers declared.1),
      ),
    ))
    c.judge.ensures

pub returns-in-Err-Breach : goal.returns-in-Err-Breach
returns-in-Err-Breach c =
    let p = policy_view c.args.self.now in
    let route = route_view c.args.route.now in
    let t = type_view c.declared-ty.result.now in
    let declared = there p route.message t _ c.in-Some.numbers.now (c.declared-ty.ensures.declared ∙ ap declared_of c.deref.ensures) c.in-Some.ensures.listed in
    rw c.in-Err-Breach.field-0-is
    (inr (t, declared.0, inl (breach_view c.in-Err-Breach.breach, rw c.in-Err-Breach.field-0-is at c.in-Err-Breach.ensures.breach, refl)))
