-- A verdict that speaks of a value has one.
use Rattle.std.proofs.Common.{◌≡◌, ◌∙◌, ℕ, List, Bool, true, false, inl, inr, ap, refl, sym, true≢false}
use Rattle.guard_policy.specs.Decisions.{IsReason}
use Rattle.guard_policy.specs.Policies.{AbstractPolicy, AbstractRoute}
use Rattle.guard_policy.specs.Verdicts.{AbstractVerdict, pass, unknown_message, undecodable, outside_type, denied_by, not_allowed, no_rule}
use Rattle.guard_files.specs.Allowed.{HasValue}

-- only these two verdicts have none
abbrev pub has_none : AbstractVerdict → Bool
has_none pass = false
has_none unknown_message = true
has_none (undecodable b) = true
has_none (outside_type w) = false
has_none (denied_by i) = false
has_none (not_allowed rs) = false
has_none no_rule = false

pub has_value : (p : AbstractPolicy) (route : AbstractRoute) (octets : List ℕ) (w : AbstractVerdict) → IsReason p route octets w
    → has_none w ≡ false → HasValue p route.message octets
has_value p route octets w (inl h) some = absurd (true≢false (sym (ap has_none h.1) ∙ some))
has_value p route octets w (inr (t, there, inl h)) some = absurd (true≢false (sym (ap has_none h.2) ∙ some))
has_value p route octets w (inr (t, there, inr (v, fit, is, e))) some = (t, v, there, fit, is, tt)

pub pass_has_value : (p : AbstractPolicy) (route : AbstractRoute) (octets : List ℕ) → IsReason p route octets pass → HasValue p route.message octets
pass_has_value p route octets h = has_value p route octets pass h refl
