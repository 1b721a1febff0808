-- What a look at a message tells of whether it goes.
use Rattle.std.proofs.Common.{◌≡◌, ◌↔◌, ℕ, List, Option, None, Some, option_map, refl, sym, ◌∙◌, inl}
use Rattle.std.specs.Prelude.{IsTrue}
use Rattle.std.proofs.lemmas.Bool.{false≢true}
use Rattle.guard_model.specs.AbstractType.{AbstractType}
use Rattle.guard_policy.specs.declared.passing.Passing.{Passing}
use Rattle.guard_policy.specs.declared.passing.Passing.TheVariants as passing
use Rattle.guard_policy.specs.declared.verdict.PlainReason.TheVariants.{UnknownMessage}
use Rattle.guard_policy.specs.Decisions.{Goes}
use Rattle.guard_policy.specs.Policies.{AbstractPolicy, AbstractRoute, declared_type}
use Rattle.guard_policy.specs.Told.{Tells, is_going}
use Rattle.guard_policy.proofs.Listed.{with_numbers}

pub tells_exactly : (p : AbstractPolicy) (route : AbstractRoute) (octets : List ℕ) (told : Passing) → Tells p route octets told
    → IsTrue (is_going told) ↔ Goes p route octets
tells_exactly p route octets (passing.Goes rule) goes = (λ is. goes.0, λ goes_so. refl)
tells_exactly p route octets (passing.Stopped reason) stays = (λ is. absurd (false≢true is), λ goes. absurd (stays.0 goes))

-- no message goes that isn't declared
undeclared : (p : AbstractPolicy) (route : AbstractRoute) (o : Option AbstractType) → declared_type p route.message ≡ o
    → None ≡ option_map (with_numbers p.rules route.message) o → declared_type p route.message ≡ None
undeclared p route None is none = is
undeclared p route (Some t) is none = absurd (let e = none in cc)

pub undeclared_stays : (p : AbstractPolicy) (route : AbstractRoute) (octets : List ℕ)
    → None ≡ option_map (with_numbers p.rules route.message) (declared_type p route.message) → Tells p route octets (passing.Stopped (Some UnknownMessage))
undeclared_stays p route octets none = (
  λ goes. let e = sym (undeclared p route (declared_type p route.message) refl none) ∙ goes.2 in cc,
  inl (undeclared p route (declared_type p route.message) refl none, refl),
)
