-- What is shown of octets, which either encode a value of the type or break the rules.
use Rattle.std.proofs.Common.{◌≡◌, ◌⊎◌, ℕ, List, Some, inl, inr}
use Rattle.std.specs.Prelude.{IsTrue}
use Rattle.guard_model.specs.AbstractType.{AbstractType}
use Rattle.guard_model.specs.AbstractValue.{AbstractValue}
use Rattle.guard_der.specs.Breach.{AbstractBreach, IsBreach}
use Rattle.guard_der.specs.Der.{der}
use Rattle.guard_der.specs.Fits.{fits}
use Rattle.guard_report.specs.Shown.{AbstractShown, shown_value, shown_undecodable, value_shown, breach_shown}
use Rattle.guard_messages.specs.Shown.{IsShown}

pub shown_is : (t : AbstractType) (octets : List ℕ) (shown : AbstractShown)
    → ((v : AbstractValue) × IsTrue (fits t v) × (der t v ≡ Some octets)) ⊎ ((b : AbstractBreach) × IsBreach t octets b)
    → ((v : AbstractValue) → IsTrue (fits t v) → der t v ≡ Some octets → shown ≡ shown_value (value_shown t octets v))
    → ((b : AbstractBreach) → IsBreach t octets b → shown ≡ shown_undecodable (breach_shown t octets b))
    → IsShown t octets shown
shown_is t octets shown (inl (v, fitting, encoded)) of_value of_breach = inl (v, fitting, encoded, of_value v fitting encoded)
shown_is t octets shown (inr (b, is)) of_value of_breach = inr (b, is, of_breach b is)
