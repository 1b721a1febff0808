-- What the rules of a policy are to a value, so that they can be asked about it.
use Rattle.std.specs.Prelude.{List, All, IsTrue}
use Rattle.guard_model.specs.AbstractValue.{AbstractValue}
use Rattle.guard_der.specs.Fits.{fits}
use Rattle.guard_der.specs.Sound.{is_sound}
use Rattle.guard_policy.specs.Policies.{AbstractRule, AbstractRoute}
use Rattle.guard_policy.specs.Decisions.{speaks_of}

-- Each rule's type is sound, and has the value where the rule speaks of the route.
abbrev pub AreApplicable : AbstractRoute → AbstractValue → List AbstractRule → Type 0
AreApplicable route v rules =
    All (λ r. IsTrue (is_sound r.ty) × (IsTrue (speaks_of route r) → IsTrue (fits r.ty v))) rules
