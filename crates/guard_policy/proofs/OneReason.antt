-- Each message has one reason, by the law that octets are an encoding or have one breach.
use Rattle.std.proofs.Common.{◌≡◌, ◌↔◌, ℕ, List, Some, None, refl, ap, sym, ◌∙◌, subst, inl, inr}
use Rattle.std.specs.Prelude.{IsTrue, ◌⊎◌}
use Rattle.guard_model.specs.AbstractType.{AbstractType}
use Rattle.guard_model.specs.AbstractValue.{AbstractValue}
use Rattle.guard_der.specs.Der.{der}
use Rattle.guard_der.specs.Fits.{fits}
use Rattle.guard_der.specs.Breach.{AbstractBreach, IsBreach}
use Rattle.guard_der.proofs.Types.Messages.{never_both, one_breach, one_encoding}
use Rattle.guard_policy.specs.Verdicts.{AbstractVerdict, undecodable, unknown_message, not_allowed, pass}
use Rattle.guard_policy.specs.Consistency.{IsConsistent}
use Rattle.guard_policy.specs.Policies.{AbstractPolicy, AbstractRoute, declared_type}
use Rattle.guard_policy.specs.Decisions.{NumberedRule, rules_of, by_allowing, judged, IsReason, Goes}
use Rattle.guard_policy.specs.Told.{IsToldReason}
use Rattle.guard_policy.proofs.Applicable.{declared_sound}
use Rattle.guard_policy.proofs.Goes.{judged_unallowed, passes_from_goes, goes_from_passes}
use Rattle.guard_policy.proofs.Reasons.{value_read, breach_read, reason_of_value, reason_of_breach}

-- a reason of octets that are the encoding of a value, or have a breach
pub some_reason : (p : AbstractPolicy) (route : AbstractRoute) (octets : List ℕ) (t : AbstractType) → declared_type p route.message ≡ Some t
    → ((v : AbstractValue) × IsTrue (fits t v) × (der t v ≡ Some octets)) ⊎ ((b : AbstractBreach) × IsBreach t octets b)
    → (w : AbstractVerdict) × IsReason p route octets w
some_reason p route octets t declared (inl (v, fitting, encoded)) = (judged t (rules_of p route) v, inr (t, declared, inr (v, fitting, encoded, refl)))
some_reason p route octets t declared (inr (b, broken)) = (undecodable b, inr (t, declared, inl (b, broken, refl)))

-- the reason of a message that isn't declared is that, and no other
undeclared : (p : AbstractPolicy) (route : AbstractRoute) (octets : List ℕ) (w : AbstractVerdict)
    → declared_type p route.message ≡ None → IsReason p route octets w → unknown_message ≡ w
undeclared p route octets w none (inl (again, e)) = sym e
undeclared p route octets w none (inr (t, declared, reason)) = absurd (let e : None ≡ Some t = sym none ∙ declared in cc)

pub one_reason : (p : AbstractPolicy) (route : AbstractRoute) (octets : List ℕ) (v w : AbstractVerdict) → IsConsistent p.messages p.rules
    → IsReason p route octets v → IsReason p route octets w → v ≡ w
one_reason p route octets v w c (inl (none, e)) reason = e ∙ undeclared p route octets w none reason
one_reason p route octets v w c (inr (t, declared, inl (b, broken, e))) reason =
    let sound = declared_sound p.messages p.rules route.message t c declared in
    e ∙ reason_of_breach p route octets t b w declared
    (λ u fitting encoded. absurd (never_both t octets u b sound fitting encoded broken))
    (λ d other. ap breach_read (one_breach t octets d b sound other broken)) reason
one_reason p route octets v w c (inr (t, declared, inr (x, fitting, encoded, e))) reason =
    let sound = declared_sound p.messages p.rules route.message t c declared in
    e ∙ reason_of_value p route octets t x w declared
    (λ u fits_too encoded_too. ap value_read (one_encoding t u x octets sound fits_too fitting encoded_too encoded))
    (λ b broken. absurd (never_both t octets x b sound fitting encoded broken)) reason

-- where the reason of a value is told to be that no allowing rule has it, the verdict is up to the allowing rules
pub up_to_allowing : (p : AbstractPolicy) (route : AbstractRoute) (octets : List ℕ) (t : AbstractType) (v : AbstractValue) (rules : List NumberedRule) → IsConsistent p.messages p.rules
    → declared_type p route.message ≡ Some t → IsTrue (fits t v) → der t v ≡ Some octets → rules ≡ rules_of p route → IsToldReason p route octets None
    → judged t rules v ≡ by_allowing rules v
up_to_allowing p route octets t v rules c declared fitting encoded listed (found, reason) =
    judged_unallowed t rules v found
    (one_reason p route octets (judged t rules v) (not_allowed found) c (inr (t, declared, inr (v, fitting, encoded, ap (λ (rs : List NumberedRule). judged t rs v) listed))) reason)

-- where a reason is to pass, the message goes, and where it goes, that is its reason
pub passes_exactly : (p : AbstractPolicy) (route : AbstractRoute) (octets : List ℕ) (w : AbstractVerdict) → IsConsistent p.messages p.rules → IsReason p route octets w
    → (w ≡ pass) ↔ Goes p route octets
passes_exactly p route octets w c reason = (
  λ is. goes_from_passes p route octets (subst (λ (x : AbstractVerdict). IsReason p route octets x) is reason),
  λ goes. one_reason p route octets w pass c reason (passes_from_goes p route octets goes),
)
